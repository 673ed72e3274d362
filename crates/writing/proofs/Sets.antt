-- The bytes of a begin's set, where they are 0.
use mathlib.Core.Path.{◌≡◌, refl, ap}
use mathlib.Core.Bool.{◌&&◌}
use mathlib.Core.List.{List, [], ◌∷◌, ◌++◌}
use Prim.Native.Nat.{ℕ}
use lib.Dec.{eqb}
use Rattle.model.specs.declared.Receive.{Receive}
use Rattle.model.specs.declared.Receive.TheVariants.{Absent, Open, Closed, OneOf}
use Rattle.model.specs.Encoding.{word_bytes, set_of, set_bytes, all_zero}

-- the empty set is all 0
zero-set : (p : List ℕ) → all_zero (p ++ []) ≡ all_zero (p ++ word_bytes 0)
unfolding all_zero word_bytes
zero-set [] = refl
zero-set (a ∷ p) = ap (λ b. eqb a 0 && b) (zero-set p)

-- bytes and a set are 0 where the bytes are, and the set where there is one
pub zero_with_set : (p : List ℕ) (w : Receive) → all_zero (p ++ set_bytes w) ≡ all_zero (p ++ word_bytes (set_of w))
zero_with_set p Absent = zero-set p
zero_with_set p (Open w) = zero-set p
zero_with_set p (Closed w) = zero-set p
zero_with_set p (OneOf time set) = refl
