-- The test of a thread by itself and the facts are the same.
use mathlib.Core.Path.{◌≡◌}
use mathlib.Core.Bool.{true}
use Prim.Native.Nat.{ℕ}
use lib.ListN.{length}
use Rattle.model.specs.declared.Thread.{Thread}
use Rattle.model.proofs.Laws.{◌and◌, all_of-read, all_of-made}
use Rattle.formed.proofs.Own.{Own}
use Rattle.clauses.specs.Alone.{own_fits}

module _ (n x : ℕ) (h : Thread) where
  -- a thread that passes the test, with its queue's places, is well-formed by itself
  pub own-told : own_fits n x h ≡ true → length h.queue.items ≡ 32 → Own n x h
  unfolding own_fits
  own-told e items = let (flags, (outcome, (operation, (phase, (queue, end))))) = all_of-read _ e in
      record { flags = flags; outcome = outcome; operation = operation; phase = phase; queue = queue; items = items }

  -- and one that is well-formed by itself passes
  pub own-tested : Own n x h → own_fits n x h ≡ true
  unfolding own_fits
  own-tested w = all_of-made _ (w.flags and w.outcome and w.operation and w.phase and w.queue and tt)
