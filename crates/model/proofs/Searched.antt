-- "Let the search stop at the sender it settles on .. it also tells how many queue places it read": of queues of up to 31 senders the sender and the number of places.
use mathlib.Core.Path.{◌≡◌, refl}
use mathlib.Core.Option.{Option, none, some}
use Prim.Native.Nat.{ℕ, suc}
use Rattle.model.specs.declared.Receive.TheVariants.{Absent}
use Rattle.model.specs.declared.Receive.{Receive}
use Rattle.model.specs.declared.Thread.{Thread}
use Rattle.model.specs.Lists.{up_to}
use Rattle.model.specs.Threads.{new_thread, with_op, with_queue}
use Rattle.model.specs.Queues.{find_sender, places_read}
use Rattle.model.specs.Examples.{receive_only, open_for, closed_for}
use Rattle.model.proofs.Answered.{after_answered}

-- a receive part, how many senders are queued, 1 the first and each next one behind it, the sender that the search settles on, and how many places it read
pub record SearchedRow : Type 0 where
  pub receive : Receive
  pub queued : ℕ
  pub sender : Option ℕ
  pub read : ℕ

-- a thread with this receive part and so many senders in its queue
unfoldable pub waiting : Receive → ℕ → Thread
waiting receive queued = with_queue (record { items = up_to 32 suc; len = queued }) (with_op (receive_only receive) new_thread)

-- ---- the table
-- a row as it is written below
abbrev finds : Receive → ℕ → Option ℕ → ℕ → SearchedRow
finds receive queued sender read = record { receive = receive; queued = queued; sender = sender; read = read }

-- the rows
pub data Name : Type 0 where
  first_fits second_fits last_fits any_fits only-one-queued none-fits behind_the_last nobody-queued receives-nothing : Name

-- the receive part, the queue and what is found
unfoldable pub row : Name → SearchedRow
-- "up to and with that sender's"
row first_fits = finds (closed_for 1 15) 31 (some 1) 1
row second_fits = finds (closed_for 2 15) 31 (some 2) 2
row last_fits = finds (closed_for 31 15) 31 (some 31) 31
row any_fits = finds (open_for 15) 31 (some 1) 1
row only-one-queued = finds (open_for 15) 1 (some 1) 1
-- "or all if none fits"
row none-fits = finds (closed_for 0 15) 31 none 31
-- what stands behind the last place of the queue is not read
row behind_the_last = finds (closed_for 31 15) 30 none 30
row nobody-queued = finds (open_for 15) 0 none 0
row receives-nothing = finds Absent 31 none 31

-- each search finds what its row says
pub searched : (name : Name) → let h = waiting (row name).receive (row name).queued in (find_sender h ≡ (row name).sender) × (places_read h ≡ (row name).read)
unfolding after_answered waiting row
searched first_fits = (refl, refl)
searched second_fits = (refl, refl)
searched last_fits = (refl, refl)
searched any_fits = (refl, refl)
searched only-one-queued = (refl, refl)
searched none-fits = (refl, refl)
searched behind_the_last = (refl, refl)
searched nobody-queued = (refl, refl)
searched receives-nothing = (refl, refl)

-- opens what the rows of the next file are worked out from, once those of this file hold
unfoldable pub after_searched : ℕ
unfolding after_answered
after_searched = let rows = searched in 0
