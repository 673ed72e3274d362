-- The first row of refusal that holds, row by row and group by group.
use mathlib.Core.Path.{◌≡◌, refl, sym, ◌∙◌}
use mathlib.Core.Logic.{◌≢◌}
use mathlib.Core.Bool.{Bool, true, false, ◌&&◌}
use mathlib.Core.List.{List, [], ◌∷◌, ◌++◌}
use Prim.Native.Nat.{ℕ, suc, ◌<◌}
use native.Mathlib.Omega.{arith}
use lib.Dec.{ltb}
use borrow.Author.Tests.{ltb-true}
use Rattle.model.specs.Refusals.{Row, first_refusal}
use Rattle.model.proofs.Laws.{by, and_left, and_right}
use Rattle.laws.proofs.Lists.{cond-true, cond-false, zero_or_not}

-- no row has number 0
abbrev pub numbered : List Row → Bool
numbered [] = true
numbered (row ∷ rows) = ltb 0 row.number && numbered rows

-- no row holds
abbrev pub NoneHolds : List Row → Type 0
NoneHolds [] = Unit {0}
NoneHolds (row ∷ rows) = (row.when ≡ false) × NoneHolds rows

-- where the refusal is 0, no row holds
pub none-holds : (rows : List Row) → numbered rows ≡ true → first_refusal rows ≡ 0 → NoneHolds rows
unfolding first_refusal
none-holds [] k e = tt
none-holds (row ∷ rows) k e =
    by row.when
    (λ i. let z : row.number ≡ 0 = rw i at e in absurd (let l : 0 < row.number = ltb-true 0 row.number (and_left (ltb 0 row.number) (numbered rows) k) in omega arith))
    (λ i. (i, none-holds rows (and_right (ltb 0 row.number) (numbered rows) k) (rw i at e)))

-- ---- row by row
-- where no row is left, the call is not refused
pub first-none : first_refusal [] ≡ 0
unfolding first_refusal
first-none = refl

module _ (row : Row) (rows : List Row) where
  -- a row that holds is the first
  pub first-here : row.when ≡ true → first_refusal (row ∷ rows) ≡ row.number
  unfolding first_refusal
  first-here e = cond-true _ _ _ e

  -- a row that does not hold is passed over
  pub first-later : row.when ≡ false → first_refusal (row ∷ rows) ≡ first_refusal rows
  unfolding first_refusal
  first-later e = cond-false _ _ _ e

-- ---- group by group
-- rows that do not hold are passed over
pub rows-passed : (passed rest : List Row) → NoneHolds passed → first_refusal (passed ++ rest) ≡ first_refusal rest
rows-passed [] rest out = refl
rows-passed (row ∷ passed) rest out = first-later row (passed ++ rest) out.0 ∙ rows-passed passed rest out.1

-- where the rows of one group do not hold, those of the next decide
pub first_of-next : (a b : List Row) → numbered a ≡ true → first_refusal a ≡ 0 → first_refusal (a ++ b) ≡ first_refusal b
first_of-next a b k e = rows-passed a b (none-holds a k e)

-- where one of them holds, it decides
pub first_of_group : (a b : List Row) (g : ℕ) → first_refusal a ≡ suc g → first_refusal (a ++ b) ≡ suc g
unfolding first_refusal
first_of_group [] b g e = absurd (omega arith)
first_of_group (row ∷ a) b g e = by row.when
    (λ i. first-here row (a ++ b) i ∙ sym (first-here row a i) ∙ e)
    (λ i. first-later row (a ++ b) i ∙ first_of_group a b g (sym (first-later row a i) ∙ e))

-- rows behind others that do not hold themselves say nothing
pub nothing-behind : (a b : List Row) → first_refusal b ≡ 0 → first_refusal (a ++ b) ≡ first_refusal a
unfolding first_refusal
nothing-behind [] b e = e
nothing-behind (row ∷ a) b e = by row.when
    (λ i. first-here row (a ++ b) i ∙ sym (first-here row a i))
    (λ i. first-later row (a ++ b) i ∙ nothing-behind a b e ∙ sym (first-later row a i))

-- a number of the first group that is not 0 is that of the whole
pub group_refuses : (a b : List Row) (g : ℕ) → g ≡ first_refusal a → g ≢ 0 → g ≡ first_refusal (a ++ b)
group_refuses a b g e d = zero_or_not g (λ z. absurd (d z)) (λ k is. is ∙ sym (first_of_group a b k (sym e ∙ is)))

-- where it is 0, the others decide
pub group_passes : (a b : List Row) (f g : ℕ) → numbered a ≡ true → f ≡ first_refusal a → f ≡ 0 → g ≡ first_refusal b → g ≡ first_refusal (a ++ b)
group_passes a b f g k e z h = h ∙ sym (first_of-next a b k (sym e ∙ z))
