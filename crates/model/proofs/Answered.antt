-- Document 01, "Calls": what is answered where a lock or a sender is not free, and the order in which the tests of check and look stand.
-- Each row has every answer of its calls and each thread's code after them.
use mathlib.Core.Path.{◌≡◌, refl}
use mathlib.Core.List.{List, [], ◌∷◌, ◌++◌, map}
use Prim.Native.Nat.{ℕ}
use lib.IntN.{ℤ}
use Rattle.model.specs.declared.Receive.TheVariants.{Absent}
use Rattle.model.specs.declared.Receive.{Receive}
use Rattle.model.specs.declared.Outcome.{Outcome}
use Rattle.model.specs.Answers.{Reply, accepted, marked, moved, held, wants, asleep, Said, refused, replied}
use Rattle.model.specs.Lists.{up_to}
use Rattle.model.specs.Codes.{running, never_begun, receive_time_over, receive_cancelled, send_cancelled, code_only}
use Rattle.model.specs.Threads.{at}
use Rattle.model.specs.Calls.{Call, begin, cancel}
use Rattle.model.specs.Examples.{first_state, send_to, receive_only, open_for, closed_for, steps, worked}
use Rattle.model.proofs.Printed.{after_printed}

-- every answer of some calls, and each thread's outcome after them
pub record Shown : Type 0 where
  pub answers : List Said
  pub outcomes : List Outcome

-- the calls of a row, on a new table of four threads, and what they show
pub record AnsweredRow : Type 0 where
  pub calls : List Call
  pub shown : Shown

-- what some calls show, worked out from the step rules
unfoldable pub showing : List Call → Shown
showing calls =
    let all = worked (first_state 4) calls in
    record { answers = all.answers; outcomes = up_to 4 (λ x. (at all.last.table x).outcome) }

-- ---- short forms that the rows are written in
-- the calls of a row, what each answers, and the code of each thread after them; no receive completes, so a code is all of an outcome
abbrev answers : List Call → List Said → List ℤ → AnsweredRow
answers calls said codes = record { calls = calls; shown = record { answers = said; outcomes = map code_only codes } }

-- the same where no call is refused, with what each replies
abbrev pub shows : List Call → List Reply → List ℤ → AnsweredRow
shows calls replies codes = answers calls (map replied replies) codes

-- x begins to send no words to a target, without end
abbrev pub sending : ℕ → ℕ → Call
sending x target = begin x (send_to target [] 15 Absent)

-- x begins to receive
abbrev pub receiving : ℕ → Receive → Call
receiving x receive = begin x (receive_only receive)

-- ---- the table
-- the rows, named by what they show
pub data Name : Type 0 where
  begin_while_held held-in_look : Name
  lock-taken lock_of_the_sender-taken first-sender-alone-counts poll-before-lock : Name
  past_an_unacceptable_sender late-past_an_unacceptable_sender : Name
  marked-sender-target-ready marked-receiver-sender-waits : Name

-- the calls and what they show
unfoldable pub row : Name → AnsweredRow
-- begin: refused by 4, "begin or cancel, and its lock is owned"; 0 has the lock of 1, which is idle
row begin_while_held = answers
    (sending 0 1 ∷ steps 1 0 ++ receiving 1 (open_for 15) ∷ [])
    (replied accepted ∷ replied moved ∷ refused 4 ∷ []) (running ∷ never_begun ∷ never_begun ∷ never_begun ∷ [])
-- step: "if another owns t's lock, answer held", and cancel is refused by 4, also where the thread runs; 0 has the lock of 1, which is in look
row held-in_look = answers
    (receiving 1 (open_for 15) ∷ sending 0 1 ∷ steps 1 0 ++ steps 1 1 ++ cancel 1 ∷ [])
    (replied accepted ∷ replied accepted ∷ replied moved ∷ replied held ∷ refused 4 ∷ []) (running ∷ running ∷ never_begun ∷ never_begun ∷ [])
-- lock: "Else answer wants"; 0 has the lock of 1 when 2 comes to it
row lock-taken = shows (sending 0 1 ∷ sending 2 1 ∷ steps 1 0 ++ steps 1 2) (accepted ∷ accepted ∷ moved ∷ wants ∷ []) (running ∷ never_begun ∷ running ∷ never_begun ∷ [])
-- look: "if its lock is taken answer wants"; 0 sleeps at 1, and 3 has its lock
row lock_of_the_sender-taken = shows
    (sending 0 1 ∷ steps 3 0 ++ sending 3 0 ∷ steps 1 3 ++ receiving 1 (open_for 15) ∷ steps 1 1)
    (accepted ∷ moved ∷ moved ∷ moved ∷ accepted ∷ moved ∷ accepted ∷ wants ∷ []) (running ∷ running ∷ never_begun ∷ running ∷ [])
-- the same, though 2 sleeps at 1 too and its lock is free
row first-sender-alone-counts = shows
    (sending 0 1 ∷ steps 3 0 ++ sending 2 1 ∷ steps 3 2 ++ sending 3 0 ∷ steps 1 3 ++ receiving 1 (open_for 15) ∷ steps 1 1)
    (accepted ∷ moved ∷ moved ∷ moved ∷ accepted ∷ moved ∷ moved ∷ moved ∷ accepted ∷ moved ∷ accepted ∷ wants ∷ []) (running ∷ running ∷ running ∷ running ∷ [])
-- look: "if its `poll` is clear answer asleep" comes first; 0 has not stepped, and 3 has its lock
row poll-before-lock = shows
    (sending 0 1 ∷ sending 3 0 ∷ steps 1 3 ++ receiving 1 (open_for 15) ∷ steps 1 1)
    (accepted ∷ accepted ∷ moved ∷ accepted ∷ asleep ∷ []) (running ∷ running ∷ never_begun ∷ running ∷ [])
-- look: "the first acceptable sender in the queue" is the second in it; 0 has not stepped, and 2 sleeps
row past_an_unacceptable_sender = shows
    (sending 0 1 ∷ sending 2 1 ∷ steps 3 2 ++ receiving 1 (closed_for 2 15) ∷ steps 1 1)
    (accepted ∷ accepted ∷ moved ∷ moved ∷ moved ∷ accepted ∷ moved ∷ []) (running ∷ running ∷ running ∷ never_begun ∷ [])
-- look: "none and `left` 0, end with -3", with a sender queued that is not acceptable
row late-past_an_unacceptable_sender = shows
    (sending 0 1 ∷ receiving 1 (closed_for 2 0) ∷ steps 1 1)
    (accepted ∷ accepted ∷ moved ∷ []) (running ∷ receive_time_over ∷ never_begun ∷ never_begun ∷ [])
-- check: "own mark, give up with -6" comes before a target that is ready, which waits on
row marked-sender-target-ready = shows
    (receiving 1 (open_for 15) ∷ sending 0 1 ∷ cancel 0 ∷ steps 3 0 ++ steps 1 1)
    (accepted ∷ accepted ∷ marked ∷ moved ∷ moved ∷ moved ∷ asleep ∷ []) (send_cancelled ∷ running ∷ never_begun ∷ never_begun ∷ [])
-- look: "marked, end with -5" comes before a sender that sleeps
row marked-receiver-sender-waits = shows
    (sending 0 1 ∷ steps 3 0 ++ receiving 1 (open_for 15) ∷ cancel 1 ∷ steps 1 1)
    (accepted ∷ moved ∷ moved ∷ moved ∷ accepted ∷ marked ∷ moved ∷ []) (running ∷ receive_cancelled ∷ never_begun ∷ never_begun ∷ [])

-- each row's calls show what it says
pub answered : (name : Name) → showing (row name).calls ≡ (row name).shown
unfolding after_printed showing row
answered begin_while_held = refl
answered held-in_look = refl
answered lock-taken = refl
answered lock_of_the_sender-taken = refl
answered first-sender-alone-counts = refl
answered poll-before-lock = refl
answered past_an_unacceptable_sender = refl
answered late-past_an_unacceptable_sender = refl
answered marked-sender-target-ready = refl
answered marked-receiver-sender-waits = refl

-- opens what the rows of the next file are worked out from, once those of this file hold
unfoldable pub after_answered : ℕ
unfolding after_printed
after_answered = let rows = answered in 0
