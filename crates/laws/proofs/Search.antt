-- What the search in a thread's queue finds.
use mathlib.Core.Path.{◌≡◌}
use mathlib.Core.Bool.{false}
use mathlib.Core.Option.{none, some}
use Prim.Native.Nat.{ℕ, ◌+◌, ◌-◌, ◌≤◌, ◌<◌}
use native.Mathlib.Omega.{arith}
use lib.ListN.{length, get_elem?}
use lib.Dec.{ltb}
use borrow.Author.Tests.{ltb-true, ltb-false, lt-ltb, le-ltb}
use Rattle.model.specs.declared.Thread.{Thread}
use Rattle.model.specs.Lists.{occurs}
use Rattle.model.specs.Operations.{accepts}
use Rattle.model.specs.Queues.{senders, search_place, find_sender, places_read}
use Rattle.model.proofs.Laws.{by}
use Rattle.laws.proofs.Lists.{cond-true, cond-false, found, none_found, inside, outside, before-found}

module _ (h : Thread) (s : ℕ) where
  -- the sender that is found stands in the queue
  pub found-queued : find_sender h ≡ some s → 1 ≤ occurs s (senders h)
  unfolding find_sender search_place
  found-queued e = (found (accepts h.op.receive) (senders h) s e).1

  -- where none is found, no queued sender is acceptable
  pub none-acceptable : find_sender h ≡ none → 1 ≤ occurs s (senders h) → accepts h.op.receive s ≡ false
  unfolding find_sender search_place
  none-acceptable e q = none_found (accepts h.op.receive) (senders h) s e q

-- ---- the places that it read
module _ (h : Thread) where
  -- where it settles on a sender, those up to that sender's and that one
  pub places-to : search_place h < length (senders h) → places_read h ≡ search_place h + 1
  unfolding places_read
  places-to l = cond-true _ _ _ (lt-ltb (search_place h) (length (senders h)) l)

  -- where it does not, all
  pub places-all : length (senders h) ≤ search_place h → places_read h ≡ length (senders h)
  unfolding places_read
  places-all l = cond-false _ _ _ (le-ltb (search_place h) (length (senders h)) l)

  -- "up to and with that sender's": the last place that was read is that of the sender found
  pub read-settled : (s : ℕ) → find_sender h ≡ some s → get_elem? (senders h) (places_read h - 1) ≡ some s
  unfolding find_sender
  read-settled s e =
      let i : places_read h - 1 ≡ search_place h = rw (places-to (inside (senders h) (search_place h) s e)) (omega arith) in
      rw i e

  -- "or all if none fits"
  pub read_all : find_sender h ≡ none → places_read h ≡ length (senders h)
  unfolding find_sender
  read_all e = places-all (outside (senders h) (search_place h) e)

  -- "look no further than needed": no sender before the last place that was read is acceptable
  pub read-before : (i s : ℕ) → i + 1 < places_read h → get_elem? (senders h) i ≡ some s → accepts h.op.receive s ≡ false
  unfolding search_place
  read-before i s l e = before-found (accepts h.op.receive) (senders h) i s before e
    where
      before : i < search_place h
      before = by (ltb (search_place h) (length (senders h)))
          (λ d. omega (arith, places-to (ltb-true (search_place h) (length (senders h)) d)))
          (λ d. omega (arith, places-all (ltb-false (search_place h) (length (senders h)) d), ltb-false (search_place h) (length (senders h)) d))
