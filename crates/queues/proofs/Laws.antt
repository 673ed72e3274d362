-- Laws of the first place at which a test holds, of reading a list's first places, and of a list with one place gone.
use Rattle.std.proofs.Common.{◌≡◌, refl, ap, sym, ◌∙◌, Bool, true, false, not, cond, List, [], ◌∷◌, ◌++◌, ℕ, zero, suc, ◌+◌, ◌-◌, ◌≤◌, ◌<◌, length, get_or, take, drop, drop-cons, eqb, ltb, unwrap_or, add-one, arith}
use Rattle.std.specs.List.{position, position_or_len, copy_within}
use Rattle.std.proofs.lemmas.List.{drop-take}
use Rattle.std.proofs.lemmas.List.Recursion.{is_position_or_len}
use Rattle.std.proofs.lemmas.List.Sums.{prefix_len-le-length}
use Rattle.std.proofs.Math.ListN.{get_elem?}
use Rattle.std.specs.Prelude.{Some, None}
use borrow.Author.Tests.{ltb-false}
use Rattle.model.specs.Lists.{bit, occurs, without, place_where}
use Rattle.model.proofs.Laws.{by}
use Rattle.queues.specs.Options.{as_option}
use Rattle.queues.specs.Places.{place_of, moved_up}

-- ---- a search that goes up a list
module _ (f : ℕ → Bool) where
  -- a search stops in the list or at its end
  place_inside : (q : List ℕ) → place_where f q ≤ length q
  unfolding place_where
  place_inside [] = omega arith
  place_inside (a ∷ q) = by (f a) (λ e. rw e (omega arith)) (λ e. rw e (omega (arith, place_inside q)))

  -- a search that has passed i places goes on from there
  place-from : (q : List ℕ) (i : ℕ) → i ≤ place_where f q → place_where f q ≡ i + place_where f (drop i q)
  unfolding place_where
  place-from q zero h = omega arith
  place-from [] (suc i) h = absurd (omega arith)
  place-from (a ∷ q) (suc i) h = by (f a)
      (λ e. let none_passed : suc i ≤ 0 = rw e at h in absurd (omega arith))
      (λ e. let passed : suc i ≤ suc (place_where f q) = rw e at h in rw e (omega (arith, place-from q i (omega arith))))

  module _ (q : List ℕ) (i : ℕ) (reached : i ≤ place_where f q) where
    -- whether it stops at place i, f at what stands there decides
    place_at : i < length q → place_where f q ≡ i + cond (f (get_or q i 0)) 0 (suc (place_where f (drop (suc i) q)))
    unfolding place_where
    place_at h = place-from q i reached ∙ ap (λ (q : List ℕ). i + place_where f q) (drop-cons q i 0 h)

    -- it stops at place i, where f holds there
    pub stops-here : i < length q → f (get_or q i 0) ≡ true → i ≡ place_where f q
    stops-here h e = let k = rw e at (place_at h) in omega arith

    -- it passes place i, where f fails there
    pub goes_on : i < length q → f (get_or q i 0) ≡ false → i + 1 ≤ place_where f q
    goes_on h e = let k = rw e at (place_at h) in omega arith

    -- it stops at the end, where no place is left
    pub stops-at-end : length q ≤ i → i ≡ place_where f q
    stops-at-end h = omega (arith, place_inside q)

-- ---- the first place at which a test holds
-- it is what `position` finds, or the list's length
pub place_where_found : (f : ℕ → Bool) (q : List ℕ) → place_where f q ≡ unwrap_or (position f q) (length q)
unfolding place_where
place_where_found f q =
    let e : place_where f q ≡ position_or_len f q = is_position_or_len (place_where f) f refl (λ a r. by (f a) (λ h. rw h refl) (λ h. rw h (omega arith))) q in
    let inside : position_or_len f q ≤ length q = prefix_len-le-length (λ a. not (f a)) q in
    by (ltb (position_or_len f q) (length q))
    (λ h. rw h e)
    (λ h. rw h (let out = ltb-false (position_or_len f q) (length q) h in omega (arith, e)))

-- ---- a place among the first n of a list, read
-- one of them is read there
pub read-inside : (l : List ℕ) (n i : ℕ) → i < n → i < length l → Some (get_or l i 0) ≡ as_option (get_elem? (take n l) i)
read-inside [] n i h long = absurd (omega arith)
read-inside (a ∷ l) zero i h long = absurd (omega arith)
read-inside (a ∷ l) (suc n) zero h long = refl
read-inside (a ∷ l) (suc n) (suc i) h long = read-inside l n i (omega arith) (omega arith)

-- past them there is none
pub read_past : (l : List ℕ) (n i : ℕ) → n ≤ i → None ≡ as_option (get_elem? (take n l) i)
read_past l zero i h = refl
read_past [] (suc n) i h = refl
read_past (a ∷ l) (suc n) zero h = absurd (omega arith)
read_past (a ∷ l) (suc n) (suc i) h = read_past l n i (omega arith)

-- ---- a list with one place gone
-- what a copy of the places behind p to p leaves
pub copied_moved : (p n : ℕ) (l : List ℕ) → p < n → copy_within l (p + 1) n p ≡ moved_up p (n - 1) l
unfolding moved_up
copied_moved p n l h =
    let k = n - (p + 1) in
    let last : suc (n - 1) ≡ suc p + k = omega arith in
    let end : p + k ≡ n - 1 = omega arith in
    let moved : drop (suc p) (take (suc (n - 1)) l) ≡ take k (drop (p + 1) l) = ap (λ (m : ℕ). drop (suc p) (take m l)) last ∙ drop-take (suc p) k l ∙ ap (λ (m : ℕ). take k (drop m l)) (sym (add-one p)) in
    let behind : drop (p + k) l ≡ drop (n - 1) l = ap (λ (m : ℕ). drop m l) end in
    cc

-- a number that stands among the first n places has a place there
pub place-there : (s n : ℕ) (l : List ℕ) → 1 ≤ occurs s (take n l) → place_of s (take n l) < n
unfolding place_where occurs
place-there s zero l h = absurd (omega arith)
place-there s (suc n) [] h = absurd (omega arith)
place-there s (suc n) (a ∷ l) h = by (eqb a s)
    (λ e. rw e (omega arith))
    (λ e. let k : 1 ≤ bit false + occurs s (take n l) = rw e at h in rw e (omega (arith, place-there s n l (omega arith))))

-- a list moved up from the place of s to place last is without s up to there
moved-to-last : (s last : ℕ) (l : List ℕ) → 1 ≤ occurs s (take (suc last) l) → moved_up (place_of s (take (suc last) l)) last l ≡ without s (take (suc last) l) ++ drop last l
unfolding moved_up place_where without occurs
moved-to-last s last [] h = absurd (omega arith)
moved-to-last s zero (a ∷ l) h = by (eqb a s) (λ e. rw e refl) (λ e. let k : 1 ≤ bit false + 0 = rw e at h in absurd (omega arith))
moved-to-last s (suc last) (a ∷ l) h = by (eqb a s)
    (λ e. rw e refl)
    (λ e. let k : 1 ≤ bit false + occurs s (take (suc last) l) = rw e at h in
    rw e (ap (λ (q : List ℕ). a ∷ q) (moved-to-last s last l (omega arith))))

-- the same of its first n places
pub moved-without : (s n : ℕ) (l : List ℕ) → 1 ≤ occurs s (take n l) → moved_up (place_of s (take n l)) (n - 1) l ≡ without s (take n l) ++ drop (n - 1) l
unfolding occurs
moved-without s zero l h = absurd (omega arith)
moved-without s (suc last) l h = let e : suc last - 1 ≡ last = omega arith in rw e (moved-to-last s last l h)
