-- What a thread that is well-formed by itself tells: its target, and numbers that fit.
use mathlib.Core.Path.{◌≡◌, refl}
use mathlib.Core.Logic.{◌≢◌}
use mathlib.Core.Bool.{true, ◌&&◌}
use mathlib.Core.List.{[], ◌∷◌}
use Prim.Native.Nat.{ℕ, ◌≤◌, ◌<◌}
use borrow.Author.Tests.{ltb-true, leb-true, eqb-false, not-true, ne_eqb}
use lib.Dec.{leb, ltb}
use Rattle.model.specs.declared.Thread.{Thread}
use Rattle.model.specs.Lists.{implies}
use Rattle.model.specs.Codes.{nobody}
use Rattle.model.specs.Operations.{word_limit}
use Rattle.model.specs.Times.{is_time_code}
use Rattle.model.specs.Phases.{copy, release, wake, unlock, is_one_of}
use Rattle.model.specs.WellFormed.{nobody_or_below, send_in_range}
use Rattle.model.proofs.Laws.{and_left, and_right, implies-read, all_of-read, All}
use Rattle.formed.proofs.Flags.{cases, told_any}
use Rattle.formed.specs.Groups.{operation_fits, phase_fits, queue_fits}
use Rattle.formed.proofs.Own.{Own}

-- a thread of the table, and not x
pub record Other (n x r : ℕ) : Type 0 where
  pub below : r < n
  pub apart : r ≢ x

module _ {n x : ℕ} {h : Thread} (w : Own n x h) where
  -- a thread that sends runs an operation with a send part
  sends_with : h.flags.send ≡ true → (h.flags.ipc && h.op.send.present) ≡ true
  unfolding cases
  sends_with e = implies-read _ _ (told_any h w.flags (λ k v r s. implies v.send (v.ipc && s)) refl) e

  -- a thread that sends runs
  pub sends-runs : h.flags.send ≡ true → h.flags.ipc ≡ true
  sends-runs e = and_left h.flags.ipc h.op.send.present (sends_with e)

  -- and has a send part
  pub sends-part : h.flags.send ≡ true → h.op.send.present ≡ true
  sends-part e = and_right h.flags.ipc h.op.send.present (sends_with e)

  -- the numbers of its send part are in range
  send_range : h.flags.send ≡ true → All (ltb h.op.send.target n ∷ leb h.op.send.count word_limit ∷ is_time_code h.op.send.time ∷ [])
  unfolding operation_fits send_in_range
  send_range e = all_of-read _ (implies-read _ _ (implies-read _ _ (all_of-read _ w.operation).0 (sends-runs e)) (sends-part e))

  -- its target is another thread of the table
  pub target-other : h.flags.send ≡ true → Other n x h.op.send.target
  unfolding operation_fits
  target-other e = let (in_range, (received, (left, (target, more)))) = all_of-read _ w.operation in
      record { below = ltb-true h.op.send.target n (send_range e).0; apart = eqb-false h.op.send.target x (not-true _ (implies-read _ _ target (sends_with e))) }

  -- its message is short enough
  pub count_small : h.flags.send ≡ true → h.op.send.count ≤ word_limit
  count_small e = leb-true h.op.send.count word_limit (send_range e).1.0

  -- a thread in copy sends
  pub copy-sends : is_one_of (copy ∷ []) h.phase ≡ true → h.flags.send ≡ true
  unfolding cases
  copy-sends e = implies-read _ _ (told_any h w.flags (λ k v r s. implies (is_one_of (copy ∷ []) k) v.send) refl) e

  -- its queue is not too long
  pub queue-small : h.queue.len ≤ 32
  unfolding queue_fits
  queue-small = leb-true h.queue.len 32 (all_of-read _ w.queue).0

  -- in release its target is a thread of the table
  pub target_below : is_one_of (release ∷ []) h.phase ≡ true → h.op.send.target < n
  unfolding phase_fits
  target_below e = ltb-true h.op.send.target n (implies-read _ _ (all_of-read _ w.phase).0 e)

  -- in wake and unlock the sender being woken is a thread of the table
  pub woken_below : is_one_of (wake ∷ unlock ∷ []) h.phase ≡ true → h.waking < n
  unfolding phase_fits
  woken_below e = ltb-true h.waking n (implies-read _ _ (all_of-read _ w.phase).1.1.1.0 e)

  -- who owns its lock is a thread of the table
  pub owner-below : h.owner ≢ nobody → h.owner < n
  unfolding queue_fits nobody_or_below
  owner-below d = ltb-true h.owner n (rw (ne_eqb h.owner nobody d) at (all_of-read _ w.queue).1.0)
