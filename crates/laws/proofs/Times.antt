-- Laws of times: `left` stays in range.
use mathlib.Core.Path.{◌≡◌, refl, sym, ◌∙◌}
use mathlib.Core.Bool.{true, or-false}
use Prim.Native.Nat.{ℕ, ◌-◌}
use native.Mathlib.Omega.{arith}
use lib.ListN.{get_or-eq_default}
use lib.Dec.{eqb, leb, ltb}
use borrow.Author.Tests.{ltb-true, ltb-false, leb-true, le-leb}
use Rattle.model.specs.Lists.{all_below}
use Rattle.model.specs.Times.{never, tick_counts, tick_count, is_left, fall}
use Rattle.model.proofs.Laws.{by, all-below-read}

-- `left` may be the ticks of any time code
pub left-from-code : (code : ℕ) → is_left (tick_count code) ≡ true
unfolding is_left tick_count all_below
left-from-code code = by (ltb code 16)
    (λ e. all-below-read 16 (λ k. is_left (tick_count k)) refl code (ltb-true code 16 e))
    (λ e. rw (get_or-eq_default tick_counts 0 (ltb-false code 16 e)) refl)

-- and it may fall
pub left-falls : (left : ℕ) → is_left left ≡ true → is_left (fall left) ≡ true
unfolding is_left fall
left-falls left e = by (eqb left never)
    (λ i. rw i e)
    (λ i. rw (i, le-leb (left - 1) (tick_count 14) (omega (arith, leb-true left (tick_count 14) (sym (or-false (leb left (tick_count 14))) ∙ rw i at e)))) refl)
