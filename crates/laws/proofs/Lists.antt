-- Laws of functions changed at one place, of lists read and searched, and of tests. None is about messages.
use mathlib.Core.Path.{◌≡◌, refl, fun_ext}
use mathlib.Core.Logic.{◌≢◌}
use mathlib.Core.Bool.{Bool, true, false, cond, ◌&&◌, ◌||◌}
use mathlib.Core.Option.{none, some}
use mathlib.Core.List.{List, [], ◌∷◌, map}
use Prim.Native.Nat.{ℕ, zero, suc, ◌+◌, ◌-◌, ◌≤◌, ◌<◌}
use native.Mathlib.Omega.{arith}
use lib.ListN.{length, get_elem?}
use lib.Dec.{eqb}
use borrow.Author.Tests.{eqb-true, eq-eqb, ne_eqb}
use Rattle.model.specs.Lists.{all_of, bit, occurs, without, place_where, update}
use Rattle.model.proofs.Laws.{by, same?, and_left, and_right, and-made, occurs-first}

-- ---- a function with another value at one place
module _ {ℓ} {A : Type ℓ} where
  -- at that place it has the new value
  pub update_same : (f : ℕ → A) (x : ℕ) (v : A) → update f x v x ≡ v
  unfolding update
  update_same f x v = rw (eq-eqb x x refl)

  -- and elsewhere its own
  pub update_other : (f : ℕ → A) (x : ℕ) (v : A) (y : ℕ) → y ≢ x → update f x v y ≡ f y
  unfolding update
  update_other f x v y h = rw (ne_eqb y x h)

  -- its own value changes nothing
  pub update-own : (f : ℕ → A) (x : ℕ) → update f x (f x) ≡ f
  update-own f x = fun_ext (λ y. same? y x (λ e. rw (e, update_same f x (f x)) refl) (λ d. update_other f x (f x) y d))

-- ---- cases
module _ {ℓ} {A : Type ℓ} where
  -- a choice by a test that holds is its first side
  pub cond-true : (b : Bool) (a c : A) → b ≡ true → cond b a c ≡ a
  cond-true b a c e = rw e refl

  -- a choice by a test that fails is its second side
  pub cond-false : (b : Bool) (a c : A) → b ≡ false → cond b a c ≡ c
  cond-false b a c e = rw e refl

-- a number is 0 or not
pub zero_or_not {ℓ} : {P : Type ℓ} (k : ℕ) → (k ≡ 0 → P) → ((g : ℕ) → k ≡ suc g → P) → P
zero_or_not zero f h = f refl
zero_or_not (suc g) f h = h g refl

-- ---- tests
-- where neither of two tests holds, the first does not
pub or_left : (a b : Bool) → (a || b) ≡ false → a ≡ false
or_left true b e = e
or_left false b e = refl

-- nor the second
pub or_right : (a b : Bool) → (a || b) ≡ false → b ≡ false
or_right true b e = cc
or_right false b e = e

-- where two tests do not hold together, the second fails where the first holds
pub second-fails : (a b : Bool) → (a && b) ≡ false → a ≡ true → b ≡ false
second-fails true b e h = e
second-fails false b e h = cc

-- ---- how often a number stands in a list
-- a bit is at most 1
pub bit-small : (b : Bool) → bit b ≤ 1
bit-small true = omega arith
bit-small false = omega arith

-- a test that counts holds
pub bit_holds : (b : Bool) → 1 ≤ bit b → b ≡ true
bit_holds true h = refl
bit_holds false h = absurd (omega arith)

-- a list that has s has one number less without it
pub length-one_less : (s : ℕ) (q : List ℕ) → 1 ≤ occurs s q → length (without s q) ≡ length q - 1
unfolding occurs without
length-one_less s [] h = omega arith
length-one_less s (a ∷ q) h = by (eqb a s) (λ e. rw e (omega arith)) (λ e. simp e (grow (length-one_less s q (h' e)) (some_in q (h' e))))
  where
    some_in : (q : List ℕ) → 1 ≤ occurs s q → 1 ≤ length q
    some_in [] h = omega arith
    some_in (a ∷ q) h = omega arith

    h' : eqb a s ≡ false → 1 ≤ occurs s q
    h' e = let k : 1 ≤ bit false + occurs s q = rw e at h in omega arith

    grow : length (without s q) ≡ length q - 1 → 1 ≤ length q → suc (length (without s q)) ≡ suc (length q) - 1
    grow e l = omega arith

-- ---- the first number of a list at which f holds
-- what is found stands in the list, and f holds at it
pub found : (f : ℕ → Bool) (q : List ℕ) (s : ℕ) → get_elem? q (place_where f q) ≡ some s → (f s ≡ true) × (1 ≤ occurs s q)
unfolding place_where occurs
found f [] s e = let z : ◌≡◌ {A = ℕ} 0 1 = cc in absurd (omega arith)
found f (a ∷ q) s e =
    by (f a)
    (λ d. let k : some a ≡ some s = rw d at e in let i : a ≡ s = cc in (cc, simp (eq-eqb a s i) (omega arith)))
    (λ d. let k : get_elem? q (place_where f q) ≡ some s = rw d at e in let r = found f q s k in (r.0, omega (arith, r.1)))

-- where none is found, f holds at no number of the list
pub none_found : (f : ℕ → Bool) (q : List ℕ) (s : ℕ) → get_elem? q (place_where f q) ≡ none → 1 ≤ occurs s q → f s ≡ false
unfolding place_where occurs
none_found f [] s e h = absurd (omega arith)
none_found f (a ∷ q) s e h =
    by (f a)
    (λ d. let k : some a ≡ none = rw d at e in let z : ◌≡◌ {A = ℕ} 0 1 = cc in absurd (omega arith))
    (λ d. let k : get_elem? q (place_where f q) ≡ none = rw d at e in
    by (eqb a s)
    (λ i. let j : a ≡ s = eqb-true a s i in cc)
    (λ i. let l : 1 ≤ bit false + occurs s q = rw i at h in none_found f q s k (omega arith)))

-- what is read from a list stands inside it
pub inside : (q : List ℕ) (i s : ℕ) → get_elem? q i ≡ some s → i < length q
inside [] i s e = let z : ◌≡◌ {A = ℕ} 0 1 = cc in absurd (omega arith)
inside (a ∷ q) zero s e = omega arith
inside (a ∷ q) (suc i) s e = omega (arith, inside q i s e)

-- past its end there is nothing to read
pub outside : (q : List ℕ) (i : ℕ) → get_elem? q i ≡ none → length q ≤ i
outside [] i e = omega arith
outside (a ∷ q) zero e = let z : ◌≡◌ {A = ℕ} 0 1 = cc in absurd (omega arith)
outside (a ∷ q) (suc i) e = omega (arith, outside q i e)

-- f holds at no number before the first at which it holds
pub before-found : (f : ℕ → Bool) (q : List ℕ) (i s : ℕ) → i < place_where f q → get_elem? q i ≡ some s → f s ≡ false
unfolding place_where
before-found f [] i s l e = absurd (omega arith)
before-found f (a ∷ q) zero s l e = by (f a) (λ d. let k : 0 < 0 = rw d at l in absurd (omega arith)) (λ d. let i : a ≡ s = cc in cc)
before-found f (a ∷ q) (suc i) s l e =
    by (f a)
    (λ d. let k : suc i < 0 = rw d at l in absurd (omega arith))
    (λ d. let k : suc i < suc (place_where f q) = rw d at l in before-found f q i s (omega arith) e)

-- ---- a test of every number of a list
module _ (f : ℕ → Bool) where
  -- it holds of all where it holds of each that stands there
  pub all_in_made : (q : List ℕ) → ((s : ℕ) → 1 ≤ occurs s q → f s ≡ true) → all_of (map f q) ≡ true
  unfolding all_of occurs
  all_in_made [] h = refl
  all_in_made (a ∷ q) h = and-made (f a) (all_of (map f q)) (h a (occurs-first a q)) (all_in_made q (λ s l. h s (omega (arith, l))))

  -- and of each where it holds of all
  pub all_in_read : (q : List ℕ) → all_of (map f q) ≡ true → (s : ℕ) → 1 ≤ occurs s q → f s ≡ true
  unfolding all_of occurs
  all_in_read [] e s l = absurd (omega arith)
  all_in_read (a ∷ q) e s l = by (eqb a s)
      (λ i. rw (eqb-true a s i) at (and_left (f a) (all_of (map f q)) e))
      (λ i. let behind : 1 ≤ bit false + occurs s q = rw i at l in all_in_read q (and_right (f a) (all_of (map f q)) e) s (omega arith))
