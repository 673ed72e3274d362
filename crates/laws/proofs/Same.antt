-- Laws of two lists compared number by number.
use mathlib.Core.Path.{◌≡◌, refl, sym, ap, ◌∙◌}
use mathlib.Core.Logic.{◌≢◌}
use mathlib.Core.Bool.{true, false, false≢true, ◌&&◌}
use mathlib.Core.List.{List, [], ◌∷◌}
use Prim.Native.Nat.{ℕ, suc, ◌+◌, ◌≤◌, ◌<◌}
use native.Mathlib.Numerals.{add-one}
use lib.Dec.{eqb}
use lib.ListN.{length, drop, get_or, drop_of_length-le}
use lib.Seq.{drop-cons}
use borrow.Author.Tests.{eq-eqb, ne_eqb, eqb-true}
use Rattle.model.specs.Lists.{same_numbers}
use Rattle.model.proofs.Laws.{by, and_left, and_right}

-- a list is the same as itself
pub same-itself : (q : List ℕ) → same_numbers q q ≡ true
unfolding same_numbers
same-itself [] = refl
same-itself (a ∷ q) = rw (eq-eqb a a refl) (same-itself q)

-- lists that are the same are equal
pub same_read : (q r : List ℕ) → same_numbers q r ≡ true → q ≡ r
unfolding same_numbers
same_read [] [] e = refl
same_read [] (b ∷ r) e = absurd (false≢true e)
same_read (a ∷ q) [] e = absurd (false≢true e)
same_read (a ∷ q) (b ∷ r) e = ap (λ (x : ℕ). x ∷ q) (eqb-true a b (and_left (eqb a b) _ e)) ∙ ap (λ (p : List ℕ). b ∷ p) (same_read q r (and_right (eqb a b) _ e))

-- those of other lengths are not the same
pub same-lengths : (q r : List ℕ) → length q ≢ length r → same_numbers q r ≡ false
unfolding same_numbers
same-lengths [] [] d = absurd (d refl)
same-lengths [] (b ∷ r) d = refl
same-lengths (a ∷ q) [] d = refl
same-lengths (a ∷ q) (b ∷ r) d = by (eqb a b) (λ e. rw e (same-lengths q r (λ l. d (ap suc l)))) (λ e. rw e)

-- lists with a first number are the same where these are and the rest is
same_first : (a b : ℕ) (q r : List ℕ) → same_numbers (a ∷ q) (b ∷ r) ≡ (eqb a b && same_numbers q r)
unfolding same_numbers
same_first a b q r = refl

module _ (q r : List ℕ) (i : ℕ) (inside : i < length q) (there : i < length r) where
  -- from a place on they are the same where their numbers there are and the rest is
  same_next : same_numbers (drop i q) (drop i r) ≡ (eqb (get_or q i 0) (get_or r i 0) && same_numbers (drop (i + 1) q) (drop (i + 1) r))
  same_next = rw (drop-cons q i 0 inside, drop-cons r i 0 there, add-one, same_first)

  -- numbers that are the same leave the rest
  pub same_number : get_or q i 0 ≡ get_or r i 0 → same_numbers (drop (i + 1) q) (drop (i + 1) r) ≡ same_numbers (drop i q) (drop i r)
  same_number e = sym (rw (eq-eqb _ _ e) at same_next)

  -- others make the lists others
  pub other-number : (get_or q i 0 ≡ get_or r i 0 → ⊥) → same_numbers (drop i q) (drop i r) ≡ false
  other-number d = rw (ne_eqb _ _ d) at same_next

-- at their ends they are the same
pub same_ends : (q r : List ℕ) (i : ℕ) → length q ≤ i → length r ≤ i → same_numbers (drop i q) (drop i r) ≡ true
unfolding same_numbers
same_ends q r i w n = rw (drop_of_length-le q w, drop_of_length-le r n) refl
