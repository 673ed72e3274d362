-- Codes as the code tests them: by their bounds.
use mathlib.Core.Path.{◌≡◌, refl}
use mathlib.Core.Bool.{Bool, not, ◌&&◌, ◌||◌, beq}
use native.Mathlib.Omega.{arith}
use lib.Dec.{leb-suc-zero, ltb}
use lib.IntN.{ℤ, pos, negsuc}
use lib.Signed.{le_z}
use borrow.Author.Tests.{ltb-true, ltb-false, lt-leb, ne_eqb}
use Rattle.model.specs.Lists.{all_below}
use Rattle.model.specs.Codes.{codes, is_failure}
use Rattle.model.specs.WellFormed.{is_code}
use Rattle.model.proofs.Laws.{by, alike_read, all-below-read}

-- a code is no failure and at most 2, or a failure from -6 to -2
abbrev pub in_bounds : ℤ → Bool
in_bounds z = not (is_failure z) && le_z z (pos 2) || (is_failure z && le_z (negsuc 5) z) && le_z z (negsuc 1)

-- document 01's codes by their bounds
pub code_bounds : (z : ℤ) → in_bounds z ≡ is_code codes z
unfolding is_code is_failure all_below
code_bounds (pos k) = by (ltb k 3)
    (λ e. alike_read _ _ (all-below-read 3 (λ k. beq (in_bounds (pos k)) (is_code codes (pos k))) refl k (ltb-true k 3 e)))
    (λ e. let l = ltb-false k 3 e in rw (leb-suc-zero k, lt-leb k 2 (omega arith), ne_eqb 0 k (omega arith), ne_eqb 1 k (omega arith), ne_eqb 2 k (omega arith)) refl)
code_bounds (negsuc k) = by (ltb k 6)
    (λ e. alike_read _ _ (all-below-read 6 (λ k. beq (in_bounds (negsuc k)) (is_code codes (negsuc k))) refl k (ltb-true k 6 e)))
    (λ e. let l = ltb-false k 6 e in
    rw (lt-leb k 5 (omega arith), ne_eqb 1 k (omega arith), ne_eqb 2 k (omega arith), ne_eqb 3 k (omega arith), ne_eqb 4 k (omega arith), ne_eqb 5 k (omega arith)) refl)
