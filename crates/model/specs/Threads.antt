-- Document 01, "The table": a new table, and how a thread is read and changed.
use Rattle.std.specs.Prelude.{Bool, true, false, List, [], ℕ, zero, suc, get_or, set, replicate, pos}
use Rattle.model.specs.declared.Receive.TheVariants.{Absent}
use Rattle.model.specs.declared.Operation.{Operation}
use Rattle.model.specs.declared.Outcome.{Outcome}
use Rattle.model.specs.declared.Flags.{Flags}
use Rattle.model.specs.declared.Queue.{Queue}
use Rattle.model.specs.declared.Thread.{Thread}
use Rattle.model.specs.declared.Rules.{Rules}
use Rattle.model.specs.declared.Table.{Table}
use Rattle.model.specs.Codes.{never_begun, nobody, code_only}
use Rattle.model.specs.Phases.{Phase, phase_number}
use Rattle.model.specs.Rules.{no_rules}

-- ---- a new table
-- "no flag"
abbrev pub no_flags : Flags
no_flags = record { ipc = false; send = false; receiving = false; poll = false; mark = false }

-- "no operation"
unfoldable pub no_operation : Operation
no_operation = record { send = record { present = false; target = 0; count = 0; time = 0; words = replicate 8 0 }; receive = Absent }

-- "idle, with no flag and no operation, `left` 0, an empty queue, a free lock, code 2, source 255 and count 0"
unfoldable pub new_thread : Thread
new_thread = record {
  flags = no_flags;
  phase = 0;
  op = no_operation;
  left = 0;
  queue = record { items = replicate 32 0; len = 0 };
  owner = nobody;
  outcome = code_only never_begun;
  copied = 0;
  waking = 0;
}

-- "In a new table every thread is" a new one; it is "without loaded rules"
unfoldable pub new_table : ℕ → Table
new_table n = record { n = n; threads = replicate 32 new_thread; rules = no_rules }

-- ---- reading and changing a thread
-- what the definitions take for a thread that is not there: everything zero. No code reads past an array
abbrev pub zero_thread : Thread
zero_thread = record {
  flags = no_flags;
  phase = 0;
  op = record { send = record { present = false; target = 0; count = 0; time = 0; words = [] }; receive = Absent };
  left = 0;
  queue = record { items = []; len = 0 };
  owner = 0;
  outcome = record { code = pos 0; source = 0; count = 0 };
  copied = 0;
  waking = 0;
}

-- thread x
unfoldable pub at : Table → ℕ → Thread
at t x = get_or t.threads x zero_thread

-- a table with other threads
abbrev pub with_threads : List Thread → Table → Table
with_threads v t = record { n = t.n; threads = v; rules = t.rules }

-- a table with other rules
abbrev pub with_rules : Rules → Table → Table
with_rules v t = record { n = t.n; threads = t.threads; rules = v }

-- the table with h for its thread x
unfoldable pub put : ℕ → Thread → Table → Table
put x h t = with_threads (set t.threads x h) t

-- the table with f done to thread x
unfoldable pub edit : ℕ → (Thread → Thread) → Table → Table
edit x f t = put x (f (at t x)) t

-- the table with f done to each thread below k
unfoldable pub edit_below : ℕ → (Thread → Thread) → Table → Table
edit_below zero f t = t
edit_below (suc k) f t = edit k f (edit_below k f t)

-- a thread with other flags
abbrev pub with_flags : Flags → Thread → Thread
with_flags v h = record { flags = v; phase = h.phase; op = h.op; left = h.left; queue = h.queue; owner = h.owner; outcome = h.outcome; copied = h.copied; waking = h.waking }

-- in another phase
abbrev pub entering : Phase → Thread → Thread
entering p h = record { flags = h.flags; phase = phase_number p; op = h.op; left = h.left; queue = h.queue; owner = h.owner; outcome = h.outcome; copied = h.copied; waking = h.waking }

-- with another operation
abbrev pub with_op : Operation → Thread → Thread
with_op v h = record { flags = h.flags; phase = h.phase; op = v; left = h.left; queue = h.queue; owner = h.owner; outcome = h.outcome; copied = h.copied; waking = h.waking }

-- with another `left`
abbrev pub with_left : ℕ → Thread → Thread
with_left v h = record { flags = h.flags; phase = h.phase; op = h.op; left = v; queue = h.queue; owner = h.owner; outcome = h.outcome; copied = h.copied; waking = h.waking }

-- with another queue
abbrev pub with_queue : Queue → Thread → Thread
with_queue v h = record { flags = h.flags; phase = h.phase; op = h.op; left = h.left; queue = v; owner = h.owner; outcome = h.outcome; copied = h.copied; waking = h.waking }

-- with another owner of its lock
abbrev pub with_owner : ℕ → Thread → Thread
with_owner v h = record { flags = h.flags; phase = h.phase; op = h.op; left = h.left; queue = h.queue; owner = v; outcome = h.outcome; copied = h.copied; waking = h.waking }

-- with another outcome
abbrev pub with_outcome : Outcome → Thread → Thread
with_outcome v h = record { flags = h.flags; phase = h.phase; op = h.op; left = h.left; queue = h.queue; owner = h.owner; outcome = v; copied = h.copied; waking = h.waking }

-- with another number of words copied
abbrev pub with_copied : ℕ → Thread → Thread
with_copied v h = record { flags = h.flags; phase = h.phase; op = h.op; left = h.left; queue = h.queue; owner = h.owner; outcome = h.outcome; copied = v; waking = h.waking }

-- with another sender being woken
abbrev pub with_waking : ℕ → Thread → Thread
with_waking v h = record { flags = h.flags; phase = h.phase; op = h.op; left = h.left; queue = h.queue; owner = h.owner; outcome = h.outcome; copied = h.copied; waking = v }

-- `poll` set or clear
abbrev pub polled : Bool → Thread → Thread
polled v h = with_flags (record { ipc = h.flags.ipc; send = h.flags.send; receiving = h.flags.receiving; poll = v; mark = h.flags.mark }) h

-- `mark` set
abbrev pub marked : Thread → Thread
marked h = with_flags (record { ipc = h.flags.ipc; send = h.flags.send; receiving = h.flags.receiving; poll = h.flags.poll; mark = true }) h

-- `send` and `poll` clear
abbrev pub sent : Thread → Thread
sent h = with_flags (record { ipc = h.flags.ipc; send = false; receiving = h.flags.receiving; poll = false; mark = h.flags.mark }) h

-- an ending: all flags clear, and the outcome
abbrev pub ended : Outcome → Thread → Thread
ended u h = with_flags no_flags (with_outcome u h)

-- the receive part dropped
abbrev pub without_receive : Thread → Thread
without_receive h = with_op (record { send = h.op.send; receive = Absent }) h
