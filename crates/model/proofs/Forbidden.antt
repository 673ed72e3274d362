-- Document 01, "The whole order": each condition of an event counts. For each there are events that are allowed where they stand, and after them one
-- that is not, since that condition does not hold. The rows compute `can_test`; `can_same` of the crate `laws` says that it holds exactly where `Can` does.
use mathlib.Core.Path.{◌≡◌, refl}
use mathlib.Core.Bool.{Bool, true, false, not, ◌&&◌}
use mathlib.Core.List.{List, [], ◌∷◌}
use Prim.Native.Nat.{ℕ}
use Rattle.model.specs.declared.Receive.TheVariants.{Absent}
use Rattle.model.specs.Codes.{done, no_receiver, receive_time_over, send_time_over, receive_cancelled, send_cancelled}
use Rattle.model.specs.Atomic.{Machine, first_machine, Event, begins, cancels, ticks, rendezvous, aborts, play}
use Rattle.model.specs.Examples.{send_to, receive_only, open_for, closed_for}
use Rattle.model.proofs.Replay.{can_test}
use Rattle.model.proofs.LawfulBytes.{after_lawful_bytes}

-- from p on, in a machine of three threads, each event but the last is allowed where it stands, and the last is not
unfoldable pub only_last_forbidden : Machine → List Event → Bool
only_last_forbidden p [] = false
only_last_forbidden p (e ∷ []) = not (can_test 3 e p)
only_last_forbidden p (e ∷ f ∷ es) = can_test 3 e p && only_last_forbidden (play 3 e p) (f ∷ es)

-- ---- short forms that the rows are written in
-- 0 begins to send to 1 with a time code
abbrev sends : ℕ → Event
sends time = begins 0 (send_to 1 (5 ∷ []) time Absent)

-- 1 begins to receive from anyone with a time code
abbrev receives : ℕ → Event
receives time = begins 1 (receive_only (open_for time))

-- ---- the table
-- the rows, named by what is wrong with the last event
pub data Name : Type 0 where
  begun_while_running begun-beyond cancelled-beyond : Name
  rendezvous-not-sending rendezvous-sent_already rendezvous-other-target : Name
  rendezvous-not-receiving rendezvous-still-sending rendezvous-marked rendezvous-closed : Name
  send-cancelled-unmarked send-cancelled-receiving send-late_with_time send-late-ready send-late-receiving : Name
  receive-cancelled-unmarked receive-cancelled-sending receive-late_with_time receive-late-sender-queued receive-late-sending : Name
  aborted_with_done aborted_with_no-receiver aborted-nothing : Name

-- the events
unfoldable pub row : Name → List Event
-- "Begin, nothing running", of a thread of the machine; a cancel of one
row begun_while_running = sends 15 ∷ sends 15 ∷ []
row begun-beyond = begins 3 (receive_only (open_for 15)) ∷ []
row cancelled-beyond = cancels 3 ∷ []
-- "Meeting of a queued sender s": one that sends nothing, or nothing more
row rendezvous-not-sending = receives 15 ∷ rendezvous 0 1 ∷ []
row rendezvous-sent_already = receives 15 ∷ begins 0 (send_to 1 (5 ∷ []) 15 (open_for 15)) ∷ rendezvous 0 1 ∷ receives 15 ∷ rendezvous 0 1 ∷ []
-- "and its target r"
row rendezvous-other-target = sends 15 ∷ begins 2 (receive_only (open_for 15)) ∷ rendezvous 0 2 ∷ []
-- "ready for it": "r is receiving, unmarked, and open or closed on s"
row rendezvous-not-receiving = sends 15 ∷ rendezvous 0 1 ∷ []
row rendezvous-still-sending = begins 1 (send_to 2 [] 15 (open_for 15)) ∷ sends 15 ∷ rendezvous 0 1 ∷ []
row rendezvous-marked = receives 15 ∷ sends 15 ∷ cancels 1 ∷ rendezvous 0 1 ∷ []
row rendezvous-closed = begins 1 (receive_only (closed_for 2 15)) ∷ sends 15 ∷ rendezvous 0 1 ∷ []
-- "-6 or -4 ends a sending thread"; "-6 .. need a mark; -4 needs `left` 0 and a target not ready"
row send-cancelled-unmarked = sends 15 ∷ aborts 0 send_cancelled ∷ []
row send-cancelled-receiving = receives 15 ∷ cancels 1 ∷ aborts 1 send_cancelled ∷ []
row send-late_with_time = sends 1 ∷ aborts 0 send_time_over ∷ []
row send-late-ready = receives 15 ∷ sends 1 ∷ ticks ∷ aborts 0 send_time_over ∷ []
row send-late-receiving = receives 0 ∷ aborts 1 send_time_over ∷ []
-- "-5 or -3 a receiving one"; "-5 need a mark"; "-3 needs `left` 0 and no acceptable sender queued"
row receive-cancelled-unmarked = receives 15 ∷ aborts 1 receive_cancelled ∷ []
row receive-cancelled-sending = sends 15 ∷ cancels 0 ∷ aborts 0 receive_cancelled ∷ []
row receive-late_with_time = receives 1 ∷ aborts 1 receive_time_over ∷ []
row receive-late-sender-queued = receives 0 ∷ sends 15 ∷ aborts 1 receive_time_over ∷ []
row receive-late-sending = sends 0 ∷ aborts 0 receive_time_over ∷ []
-- no other code, and nothing that does not run
row aborted_with_done = sends 0 ∷ cancels 0 ∷ aborts 0 done ∷ []
row aborted_with_no-receiver = sends 0 ∷ cancels 0 ∷ aborts 0 no_receiver ∷ []
row aborted-nothing = sends 15 ∷ cancels 0 ∷ aborts 0 send_cancelled ∷ aborts 0 send_cancelled ∷ []

-- each row's last event is not allowed, and those before it are
pub not-allowed : (name : Name) → only_last_forbidden first_machine (row name) ≡ true
unfolding after_lawful_bytes only_last_forbidden row
not-allowed begun_while_running = refl
not-allowed begun-beyond = refl
not-allowed cancelled-beyond = refl
not-allowed rendezvous-not-sending = refl
not-allowed rendezvous-sent_already = refl
not-allowed rendezvous-other-target = refl
not-allowed rendezvous-not-receiving = refl
not-allowed rendezvous-still-sending = refl
not-allowed rendezvous-marked = refl
not-allowed rendezvous-closed = refl
not-allowed send-cancelled-unmarked = refl
not-allowed send-cancelled-receiving = refl
not-allowed send-late_with_time = refl
not-allowed send-late-ready = refl
not-allowed send-late-receiving = refl
not-allowed receive-cancelled-unmarked = refl
not-allowed receive-cancelled-sending = refl
not-allowed receive-late_with_time = refl
not-allowed receive-late-sender-queued = refl
not-allowed receive-late-sending = refl
not-allowed aborted_with_done = refl
not-allowed aborted_with_no-receiver = refl
not-allowed aborted-nothing = refl

-- opens what the rows of the next file are worked out from, once those of this file hold
unfoldable pub after_forbidden : ℕ
unfolding after_lawful_bytes
after_forbidden = let rows = not-allowed in 0
