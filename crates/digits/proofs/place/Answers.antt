use Rattle.std.proofs.Common.{◌+◌, ◌-◌, ◌*◌, ◌∙◌, ap, arith, rules, ℤ}
use Rattle.model.specs.Counting.{digit_of}
use Rattle.digits.proofs.Places.{Placed, placed-none, placed-more, placed-small, placed-all}
use Rattle.digits.proofs.place.Goals as goal

-- with its digit one outcome more is read
more : (c : goal.After-digit) → Placed c.args.n c.args.outcomes (c.loop-i.i - 1) (c.digit.result + 8 * c.loop-i.p)
more c = placed-more c.requires c.loop-i.i c.loop-i.p c.digit.result c.loop-i-test.true (c.digit.ensures ∙ ap (λ (z : ℤ). digit_of z) (search rules)) c.loop-i.invariant

pub loop-i-init : goal.loop-i-init
loop-i-init c = placed-none c.requires

pub overflow_mul-p : goal.overflow_mul-p
overflow_mul-p c = omega (arith, placed-small c.requires _ _ c.loop-i.invariant)

pub overflow_add-p : goal.overflow_add-p
overflow_add-p c = omega (arith, placed-small c.requires _ _ (more c))

pub loop-i-preserved : goal.loop-i-preserved
loop-i-preserved c = more c

pub returns-clause-place : goal.returns-clause-place
returns-clause-place c = (placed-all c.requires c.loop-i.i c.loop-i.p (omega arith) c.loop-i.invariant).0

pub returns-clause-small : goal.returns-clause-small
returns-clause-small c = placed-small c.requires _ _ c.loop-i.invariant
