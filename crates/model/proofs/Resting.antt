-- Document 02, #111, worked out on concrete calls: whether every thread's step stays, whether no lock is owned, and whether no queued sender has a target that is ready for it.
-- Where the first holds, so do the others. Rows in which one of them fails have a thread that would move, and a machine on which it would not is refused by them.
use mathlib.Core.Path.{◌≡◌, refl}
use mathlib.Core.Bool.{Bool, true, false}
use mathlib.Core.List.{List, [], ◌∷◌, ◌++◌}
use Prim.Native.Nat.{ℕ}
use Rattle.model.specs.declared.Receive.TheVariants.{Absent}
use Rattle.model.specs.Answers.{SaidRest, resting, would_move}
use Rattle.model.specs.Calls.{Call, begin, tick, State}
use Rattle.model.specs.Examples.{first_state, send_to, receive_only, open_for, closed_for, steps, worked}
use Rattle.model.specs.Rest.{at_rest, no_lock_owned, nobody_ready, rest_answer}
use Rattle.model.proofs.Clauses.{after_clauses}

-- what is seen of a table
pub record Seen : Type 0 where
  pub stays : Bool
  pub unowned : Bool
  pub unready : Bool
  pub said : SaidRest

-- the calls of a row, on a new table of n threads, and what is seen after them
pub record RestRow : Type 0 where
  pub n : ℕ
  pub calls : List Call
  pub seen : Seen

-- the same worked out
unfoldable pub seeing : State → Seen
seeing s = record { stays = at_rest s; unowned = no_lock_owned s.table; unready = nobody_ready s.table; said = rest_answer s.table }

-- ---- short forms that the rows are written in
-- at rest
abbrev rest : Seen
rest = record { stays = true; unowned = true; unready = true; said = resting }

-- thread x is the lowest that would move
abbrev moves : ℕ → Bool → Bool → Seen
moves x unowned unready = record { stays = false; unowned = unowned; unready = unready; said = would_move x }

-- x begins to send no words to a target, with a time code
abbrev sending : ℕ → ℕ → ℕ → Call
sending x target time = begin x (send_to target [] time Absent)

-- 0 begins to send to 1, which does not receive, and has gone to sleep
abbrev asleep_at1 : List Call
asleep_at1 = sending 0 1 15 ∷ steps 3 0

-- ---- the table
-- the rows, named by what they show
pub data Name : Type 0 where
  nobody-receives receives-from_another each-queued-at_the_other after_an_abort : Name
  lock-owned partner-begins limit_is-over receiver_finished_in_wake : Name

-- the calls and what is seen
unfoldable pub row : Name → RestRow
-- a sender is queued, and its target has not begun
row nobody-receives = record { n = 2; calls = asleep_at1; seen = rest }
-- or waits for somebody else
row receives-from_another = record { n = 3; calls = asleep_at1 ++ begin 1 (receive_only (closed_for 2 15)) ∷ []; seen = rest }
-- two threads are queued at each other: they wait for ever, and neither is ready
row each-queued-at_the_other = record { n = 2; calls = sending 0 1 15 ∷ sending 1 0 15 ∷ steps 3 0 ++ steps 3 1; seen = rest }
-- 0 has aborted its send when 1 begins to receive
row after_an_abort = record { n = 2; calls = sending 0 1 0 ∷ steps 3 0 ++ begin 1 (receive_only (open_for 15)) ∷ []; seen = rest }
-- 0 has the lock of 1
row lock-owned = record { n = 2; calls = sending 0 1 15 ∷ steps 1 0; seen = moves 0 false true }
-- 1 begins to receive and finds 0 asleep
row partner-begins = record { n = 2; calls = asleep_at1 ++ begin 1 (receive_only (open_for 15)) ∷ []; seen = moves 1 true false }
-- the same after its time, a limit, is over: it would end with -3
row limit_is-over = record { n = 2; calls = asleep_at1 ++ begin 1 (receive_only (open_for 1)) ∷ tick ∷ []; seen = moves 1 true false }
-- 1 was waking 0 when 2 delivered to it; it has freed the lock of 0, which is to try again
row receiver_finished_in_wake = record {
  n = 3;
  calls = asleep_at1 ++ begin 1 (receive_only (open_for 15)) ∷ steps 1 1 ++ sending 2 1 15 ∷ steps 4 2 ++ steps 3 1;
  seen = moves 0 true true;
}

-- each row's calls come to what it says
pub rests : (name : Name) → seeing (worked (first_state (row name).n) (row name).calls).last ≡ (row name).seen
unfolding after_clauses seeing row
rests nobody-receives = refl
rests receives-from_another = refl
rests each-queued-at_the_other = refl
rests after_an_abort = refl
rests lock-owned = refl
rests partner-begins = refl
rests limit_is-over = refl
rests receiver_finished_in_wake = refl

-- opens what the rows of the next file are worked out from, once those of this file hold
unfoldable pub after_resting : ℕ
unfolding after_clauses
after_resting = let rows = rests in 0
