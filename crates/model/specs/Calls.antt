-- Document 01, "Calls": begin, cancel and tick where they are accepted, and every call as one type.
use Rattle.std.specs.Prelude.{true, false, cond, List, ℕ}
use Rattle.model.specs.declared.Flags.{Flags}
use Rattle.model.specs.declared.Operation.{Operation}
use Rattle.model.specs.declared.EntryPoint.{EntryPoint}
use Rattle.model.specs.declared.EntryPoint.TheVariants.{Main, Spark}
use Rattle.model.specs.declared.Thread.{Thread}
use Rattle.model.specs.declared.Rules.{Rules}
use Rattle.model.specs.declared.Table.{Table}
use Rattle.model.specs.Answers.{Reply, accepted, nothing_to_cancel}
use Rattle.model.specs.Codes.{running, no_receiver, code_only}
use Rattle.model.specs.Operations.{target_beyond, has_receive, first_time}
use Rattle.model.specs.Times.{tick_count, fall}
use Rattle.model.specs.Phases.{Phase, lock, look}
use Rattle.model.specs.Threads.{at, with_rules, edit, edit_below, with_flags, entering, with_op, with_left, with_outcome, marked, ended}
use Rattle.model.specs.Queues.{joined}
use Rattle.model.specs.Store.{zeroed}
use Rattle.model.specs.Step.{decide, reply_of, act, store_after}

-- ---- begin
-- "sets `ipc`. A send part sets `send`, clears `poll` .. A receive part sets `receiving` already now"
unfoldable pub begun_flags : Operation → Flags
begun_flags o = record { ipc = true; send = o.send.present; receiving = has_receive o.receive; poll = false; mark = false }

-- a thread that begins o in phase p: "`left` comes from the send code, else the receive code"; code 1, source 255, count 0
unfoldable pub begun : Operation → Phase → Thread → Thread
begun o p h = entering p (with_flags (begun_flags o) (with_op o (with_left (tick_count (first_time o)) (with_outcome (code_only running) h))))

-- "joins the end of the target's queue; phase lock"; "without a send part: phase look"; "a target of N or more ends the whole operation with -2, idle"
unfoldable pub begin_table : ℕ → Operation → Table → Table
begin_table x o t =
    cond (target_beyond t.n o) (edit x (ended (code_only no_receiver)) t)
    (cond o.send.present (edit x (begun o lock) (edit o.send.target (joined x) t))
    (edit x (begun o look) t))

-- ---- cancel: "sets `mark` if `ipc` is set and answers marked (also the second time); else it answers nothing to cancel"
unfoldable pub cancel_table : ℕ → Table → Table
cancel_table x t = cond (at t x).flags.ipc (edit x marked t) t

-- what cancel answers
unfoldable pub cancel_reply : ℕ → Table → Reply
cancel_reply x t = cond (at t x).flags.ipc Reply.marked nothing_to_cancel

-- ---- tick: "lowers `left` by one in each thread with `ipc`, unless 0 or never. It ignores locks"
unfoldable pub ticked : Thread → Thread
ticked h = with_left (cond h.flags.ipc (fall h.left) h.left) h

-- the table after a tick
unfoldable pub tick_table : Table → Table
tick_table t = edit_below t.n ticked t

-- ---- the calls of a trace, with their arguments; document 02, #107: a begin is through one of two entries, and "Both entries share the one table"
pub data Call : Type 0 where
  begin_via : EntryPoint → ℕ → Operation → Call
  step : ℕ → Call
  cancel : ℕ → Call
  tick : Call
  -- document 02, #102: "Loadings, later ones too, may stand in the list of demand 3"
  load : Rules → Call

-- document 01's begin, "through the main entry"
abbrev pub begin : ℕ → Operation → Call
begin x o = begin_via Main x o

-- "Begins through that entry"
abbrev pub spark_begin : ℕ → Operation → Call
spark_begin x o = begin_via Spark x o

-- the table and the caller's word store
pub record State : Type 0 where
  pub table : Table
  pub store : List ℕ

-- what an accepted call answers
unfoldable pub accepted_reply : Call → State → Reply
accepted_reply (begin_via via x o) s = accepted
accepted_reply (step x) s = reply_of (decide s.table x)
accepted_reply (cancel x) s = cancel_reply x s.table
accepted_reply tick s = accepted
accepted_reply (load rules) s = accepted

-- what an accepted call leaves; begin "zeroes the thread's eight words"; "loading touches no sender already queued"
unfoldable pub accepted_state : Call → State → State
accepted_state (begin_via via x o) s = record { table = begin_table x o s.table; store = zeroed x s.store }
accepted_state (step x) s = let a = decide s.table x in record { table = act a x s.table; store = store_after a (at s.table x) s.store }
accepted_state (cancel x) s = record { table = cancel_table x s.table; store = s.store }
accepted_state tick s = record { table = tick_table s.table; store = s.store }
accepted_state (load rules) s = record { table = with_rules rules s.table; store = s.store }
