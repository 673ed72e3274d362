use Rattle.std.proofs.Common.{◌≡◌, arith, Some, None}
use Rattle.std.proofs.lemmas.Result.{err_from_is_err_and}
use Rattle.letters.proofs.Measures.{largest-below, measured-none, measured-large, measured-small, measured_fine}
use Rattle.letters.proofs.measured.Goals as goal

-- what is no number
pub returns-in_err-value : goal.returns-in_err-value
returns-in_err-value c =
    let p = err_from_is_err_and c.from_residual.result c.from_residual.ensures.1 in
    let none : c.number.result ≡ None = grind arith in
    let reason : c.in_err-value.field-0.0 ≡ c.reason_for.result = grind arith in
    rw (p.1, p.2, reason, c.reason_for.ensures) (measured-none _ _ (rw none at c.number.ensures))

-- one that is too large
pub returns-then-largest_of-value : goal.returns-then-largest_of-value
returns-then-largest_of-value c =
    let there : c.number.result ≡ Some c.in_ok-value.value = grind arith in
    measured-large _ _ (rw there at c.number.ensures) (rw c.largest_of.ensures at c.if-largest_of-value.true)

-- one that is too small
pub returns-then-value-least_of : goal.returns-then-value-least_of
returns-then-value-least_of c =
    let there : c.number.result ≡ Some c.in_ok-value.value = grind arith in
    measured-small _ _ (rw there at c.number.ensures) (rw c.largest_of.ensures at c.if-largest_of-value.false) (rw c.least_of.ensures at c.if-value-least_of.true)

-- what is not above the largest fits
pub overflow_cast-result : goal.overflow_cast-result
overflow_cast-result c = omega (arith, largest-below c.args.letter)

-- one that is neither
pub returns : goal.returns
returns c =
    let there : c.number.result ≡ Some c.in_ok-value.value = grind arith in
    measured_fine _ _ (rw there at c.number.ensures) (rw c.largest_of.ensures at c.if-largest_of-value.false) (rw c.least_of.ensures at c.if-value-least_of.false)
