-- Document 02, #106: a receive time is a limit. Each row has every answer of its calls and each thread's outcome after them.
use mathlib.Core.Path.{◌≡◌, refl}
use mathlib.Core.Bool.{true, false}
use mathlib.Core.List.{[], ◌∷◌, ◌++◌, map}
use Prim.Native.Nat.{ℕ}
use lib.ListN.{replicate}
use Rattle.model.specs.declared.Receive.TheVariants.{Absent}
use Rattle.model.specs.declared.Table.{Table}
use Rattle.model.specs.Answers.{accepted, marked, moved, asleep, replied}
use Rattle.model.specs.Lists.{up_to}
use Rattle.model.specs.Codes.{done, running, never_begun, receive_time_over, receive_cancelled, code_only}
use Rattle.model.specs.Times.{is_hard}
use Rattle.model.specs.Threads.{at, put, with_left}
use Rattle.model.specs.WellFormed.{well_formed}
use Rattle.model.specs.Step.{take_sender, decide}
use Rattle.model.specs.Calls.{begin, step, cancel, tick}
use Rattle.model.specs.Atomic.{first_machine}
use Rattle.model.specs.Examples.{first_state, send_to, open_for, steps, received_from, worked}
use Rattle.model.proofs.Replay.{agree}
use Rattle.model.proofs.Answered.{AnsweredRow, showing, shows, sending, receiving}
use Rattle.model.proofs.Searched.{after_searched}

-- "receive codes 1 to 14 are hard", of the codes 0 to 16
pub hard_codes : up_to 17 is_hard ≡ false ∷ replicate 14 true ++ (false ∷ false ∷ [])
unfolding after_searched
hard_codes = refl

-- ---- the table
-- the rows, named by what they show
pub data Name : Type 0 where
  sender-never_scheduled sender-stays-queued sender_locked ready-past_its_limit marked-past_its_limit call-past_its_limit : Name

-- the calls and what they show
unfoldable pub row : Name → AnsweredRow
-- "a receiver with code 3 waited far past its 5 ticks because a queued sender was never scheduled": after four it waits, after the fifth it ends
row sender-never_scheduled = shows
    (receiving 1 (open_for 3) ∷ sending 0 1 ∷ replicate 4 tick ++ step 1 ∷ tick ∷ step 1 ∷ [])
    (accepted ∷ accepted ∷ replicate 4 accepted ++ asleep ∷ accepted ∷ moved ∷ []) (running ∷ receive_time_over ∷ never_begun ∷ never_begun ∷ [])
-- "that sender stays queued" and "a poll still finds a queued sender": 0 sleeps at 1, which ends, begins a poll and takes the lock of 0
row sender-stays-queued = shows
    (sending 0 1 ∷ steps 3 0 ++ receiving 1 (open_for 1) ∷ tick ∷ step 1 ∷ receiving 1 (open_for 0) ∷ step 1 ∷ [])
    (accepted ∷ moved ∷ moved ∷ moved ∷ accepted ∷ accepted ∷ moved ∷ accepted ∷ moved ∷ []) (running ∷ running ∷ never_begun ∷ never_begun ∷ [])
-- the limit comes before "if its lock is taken answer wants"; 0 sleeps at 1, and 3 has its lock
row sender_locked = shows
    (sending 0 1 ∷ steps 3 0 ++ sending 3 0 ∷ step 3 ∷ receiving 1 (open_for 1) ∷ tick ∷ step 1 ∷ [])
    (accepted ∷ moved ∷ moved ∷ moved ∷ accepted ∷ moved ∷ accepted ∷ accepted ∷ moved ∷ []) (running ∷ receive_time_over ∷ never_begun ∷ running ∷ [])
-- "a sender that checks first may still meet it": 0, with no time, would end with -4 if 1 were not ready
row ready-past_its_limit = record {
  calls = receiving 1 (open_for 1) ∷ tick ∷ begin 0 (send_to 1 [] 0 Absent) ∷ steps 4 0 ++ step 1 ∷ [];
  shown = record {
    answers = map replied (accepted ∷ accepted ∷ accepted ∷ moved ∷ moved ∷ moved ∷ moved ∷ moved ∷ []);
    outcomes = code_only done ∷ received_from 0 0 ∷ code_only never_begun ∷ code_only never_begun ∷ [];
  };
}
-- "The test for a mark still comes first"
row marked-past_its_limit = shows
    (sending 0 1 ∷ receiving 1 (open_for 1) ∷ tick ∷ cancel 1 ∷ step 1 ∷ [])
    (accepted ∷ accepted ∷ accepted ∷ marked ∷ moved ∷ []) (running ∷ receive_cancelled ∷ never_begun ∷ never_begun ∷ [])
-- the receive part of a call has a limit too: 1 has sent to 2 when 0 is queued at it
row call-past_its_limit = record {
  calls = receiving 2 (open_for 15) ∷ begin 1 (send_to 2 [] 15 (open_for 1)) ∷ steps 4 1 ++ sending 0 1 ∷ tick ∷ step 1 ∷ [];
  shown = record {
    answers = map replied (accepted ∷ accepted ∷ moved ∷ moved ∷ moved ∷ moved ∷ accepted ∷ accepted ∷ moved ∷ []);
    outcomes = code_only running ∷ code_only receive_time_over ∷ received_from 1 0 ∷ code_only never_begun ∷ [];
  };
}

-- each row's calls show what it says
pub limited : (name : Name) → showing (row name).calls ≡ (row name).shown
unfolding after_searched showing row
limited sender-never_scheduled = refl
limited sender-stays-queued = refl
limited sender_locked = refl
limited ready-past_its_limit = refl
limited marked-past_its_limit = refl
limited call-past_its_limit = refl

-- and on them both machines go together
pub replayed : (name : Name) → agree 4 (first_state 4) first_machine (row name).calls ≡ true
unfolding after_searched row
replayed sender-never_scheduled = refl
replayed sender-stays-queued = refl
replayed sender_locked = refl
replayed ready-past_its_limit = refl
replayed marked-past_its_limit = refl
replayed call-past_its_limit = refl

-- ---- a table that no calls lead to
-- 0 sleeps at 1, whose receive has code 15, for ever, and yet no time left
unfoldable pub out_of_time : Table
out_of_time =
    let t = (worked (first_state 4) (sending 0 1 ∷ steps 3 0 ++ receiving 1 (open_for 15) ∷ [])).last.table in
    put 1 (with_left 0 (at t 1)) t

-- it is well-formed, and code 15 is no limit: 1 takes the lock of 0
pub code_15_is-no_limit : (well_formed out_of_time ≡ true) × (decide out_of_time 1 ≡ take_sender 0)
unfolding after_searched out_of_time
code_15_is-no_limit = (refl, refl)

-- opens what the rows of the next file are worked out from, once those of this file hold
unfoldable pub after_limits : ℕ
unfolding after_searched
after_limits = let codes = hard_codes in let rows = limited in let replays = replayed in let old = code_15_is-no_limit in 0
