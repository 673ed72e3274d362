-- Laws of tests that the code joins.
use mathlib.Core.Path.{◌≡◌, ◌∙◌}
use mathlib.Core.Bool.{Bool, true, ◌&&◌, and-true, and_assoc}
use mathlib.Core.List.{List, [], ◌∷◌}
use Rattle.model.specs.Lists.{all_of}
use Rattle.model.proofs.Laws.{alike_read, alike-made}

-- a test and those of a list, joined one after the other
abbrev pub joined : Bool → List Bool → Bool
joined a [] = a
joined a (b ∷ l) = joined (a && b) l

-- they all hold
pub all-joined : (a : Bool) (l : List Bool) → joined a l ≡ all_of (a ∷ l)
unfolding all_of
all-joined a [] = simp and-true
all-joined a (b ∷ l) = all-joined (a && b) l ∙ and_assoc a b (all_of l)

-- tests of which each holds where the other does have the same value
pub same_test : (a b : Bool) → (a ≡ true → b ≡ true) → (b ≡ true → a ≡ true) → a ≡ b
same_test a b f g = alike_read a b (alike-made a b f g)
