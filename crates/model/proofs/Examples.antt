-- P1 to P12 come out of the step rules, by computation.
use mathlib.Core.Path.{◌≡◌, refl}
use Prim.Native.Nat.{ℕ}
use Rattle.model.specs.Examples.{Name, P1, P2, P3, P4, P5, P6, P7, P8, P9, P10, P11, P12, row, worked_out}
use Rattle.model.proofs.Resting.{after_resting}

-- each row of the table is what its calls come to
pub example_rows : (name : Name) → worked_out (row name) ≡ (row name).result
unfolding after_resting
example_rows P1 = refl
example_rows P2 = refl
example_rows P3 = refl
example_rows P4 = refl
example_rows P5 = refl
example_rows P6 = refl
example_rows P7 = refl
example_rows P8 = refl
example_rows P9 = refl
example_rows P10 = refl
example_rows P11 = refl
example_rows P12 = refl

-- opens what the rows of the next file are worked out from, once those of this file hold
unfoldable pub after_examples : ℕ
unfolding after_resting
after_examples = let rows = example_rows in 0
