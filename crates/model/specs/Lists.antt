-- Small functions on lists and tests that the definitions share. None is about messages.
use Rattle.std.specs.Prelude.{Bool, true, false, not, cond, ◌&&◌, ◌||◌, List, [], ◌∷◌, ◌++◌, ℕ, zero, suc, ◌+◌, eqb, ltb}

-- b holds wherever a does
unfoldable pub implies : Bool → Bool → Bool
implies a b = not a || b

-- every test of the list holds
unfoldable pub all_of : List Bool → Bool
all_of [] = true
all_of (b ∷ bs) = b && all_of bs

-- f holds at each number below n
unfoldable pub all_below : ℕ → (ℕ → Bool) → Bool
all_below zero f = true
all_below (suc k) f = f k && all_below k f

-- the first number below n at which f holds; n where there is none
unfoldable pub first_below : ℕ → (ℕ → Bool) → ℕ
first_below zero f = 0
first_below (suc k) f = let before = first_below k f in cond (ltb before k) before (cond (f k) k (suc k))

-- 1 for true, 0 for false
abbrev pub bit : Bool → ℕ
bit true = 1
bit false = 0

-- how often a number stands in a list
unfoldable pub occurs : ℕ → List ℕ → ℕ
occurs s [] = 0
occurs s (a ∷ q) = bit (eqb a s) + occurs s q

-- two lists are the same, number by number
unfoldable pub same_numbers : List ℕ → List ℕ → Bool
same_numbers [] [] = true
same_numbers [] (b ∷ r) = false
same_numbers (a ∷ q) [] = false
same_numbers (a ∷ q) (b ∷ r) = eqb a b && same_numbers q r

-- a list with the first s left out
unfoldable pub without : ℕ → List ℕ → List ℕ
without s [] = []
without s (a ∷ q) = cond (eqb a s) q (a ∷ without s q)

-- the place of the first number of a list at which f holds; the list's length where there is none
unfoldable pub place_where : (ℕ → Bool) → List ℕ → ℕ
place_where f [] = 0
place_where f (a ∷ q) = cond (f a) 0 (suc (place_where f q))

module _ {ℓ} {A : Type ℓ} where
  -- f at each number below n, in order
  unfoldable pub up_to : ℕ → (ℕ → A) → List A
  up_to zero f = []
  up_to (suc k) f = up_to k f ++ (f k ∷ [])

  -- f with the value v at x
  unfoldable pub update : (ℕ → A) → ℕ → A → ℕ → A
  update f x v y = cond (eqb y x) v (f y)

  -- the lists of a list, one after the other
  unfoldable pub concat : List (List A) → List A
  concat [] = []
  concat (l ∷ ls) = l ++ concat ls
