-- Laws of codes: the test that two are the same.
use mathlib.Core.Path.{◌≡◌, refl, sym, ap}
use mathlib.Core.Logic.{◌≢◌}
use mathlib.Core.Bool.{true≢false, true, false}
use lib.IntN.{ℤ, pos, negsuc}
use borrow.Author.Tests.{eqb-true, eq-eqb}
use Rattle.model.specs.Codes.{same_code}
use Rattle.model.proofs.Laws.{by}

-- a code is the same as itself
pub code-itself : (c : ℤ) → same_code c c ≡ true
code-itself (pos k) = eq-eqb k k refl
code-itself (negsuc k) = eq-eqb k k refl

-- codes that pass the test are equal
pub code_is : (a b : ℤ) → same_code a b ≡ true → a ≡ b
code_is (pos m) (pos k) e = ap {B = ℤ} pos (eqb-true m k e)
code_is (pos m) (negsuc k) e = absurd (true≢false (sym e))
code_is (negsuc m) (pos k) e = absurd (true≢false (sym e))
code_is (negsuc m) (negsuc k) e = ap {B = ℤ} negsuc (eqb-true m k e)

-- codes that differ fail it
pub code_differs : (a b : ℤ) → a ≢ b → same_code a b ≡ false
code_differs a b d = by (same_code a b) (λ e. absurd (d (code_is a b e))) (λ e. e)
