use Rattle.std.proofs.Common.{arith}
use Rattle.record_input.proofs.Accepted.{accepts-other}
use Rattle.step_printing.proofs.Accepted.{made-size}
use Rattle.step_printing.proofs.records.follow_from.Goals as goal

-- a table that was made has at most 32 threads
pub slice_bounds-follow_first-end : goal.slice_bounds-follow_first-end
slice_bounds-follow_first-end g c = omega (arith, made-size _ _ _ c.make-made.ensures (accepts-other _ c.in_default.not-Refused), c.zero_store-store.ensures)

pub slice_bounds-store-end : goal.slice_bounds-store-end
slice_bounds-store-end g c = omega (arith, made-size _ _ _ c.make-made.ensures (accepts-other _ c.in_default.not-Refused), c.zero_store-store.ensures)
