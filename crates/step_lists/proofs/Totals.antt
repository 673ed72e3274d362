-- The counts of all places: thread by thread, and together.
use mathlib.Core.Path.{◌≡◌, refl, sym, ap, ◌∙◌, subst}
use mathlib.Core.List.{◌∷◌, map}
use Prim.Native.Nat.{ℕ, zero, suc, ◌+◌, ◌*◌, ◌^◌, ◌≤◌}
use native.Mathlib.Omega.{arith}
use native.Mathlib.Nat.{pow-zero, pow-succ'}
use lib.ListN.{length, length-map}
use lib.Dec.{eqb}
use Rattle.model.specs.declared.Table.{Table}
use Rattle.model.specs.Lists.{bit, up_to, concat, occurs}
use Rattle.model.specs.WellFormed.{Shaped, WellFormed}
use Rattle.model.specs.Counting.{after_step, after_steps, step_lists, place_of, counted_threads, count_places, places, count_of, total}
use Rattle.step_lists.specs.Firsts.{count_from}
use Rattle.step_lists.proofs.Gathered.{map-concat, map-map, concat-same, concat-length, occurs_from, occurs_split, Under, under-concat, all-counted, occurs-few}
use Rattle.step_lists.proofs.Steps.{Steps, steps-well_formed, step-size, step-steps}
use Rattle.step_lists.proofs.Places.{place-below}

-- ---- how many lists there are
-- of k steps of n threads, n raised to k
pub list_count : (n k : ℕ) → length (step_lists n k) ≡ n ^ k
unfolding step_lists
list_count n zero = sym (pow-zero n)
list_count n (suc k) = concat-length (length (step_lists n k)) _ n (λ x. length-map (step_lists n k) (λ xs. x ∷ xs)) ∙ ap (λ (m : ℕ). n * m) (list_count n k) ∙ sym (pow-succ' n k)

-- each leads to one place
place-count : (t : Table) (k : ℕ) → length (places t k) ≡ t.n ^ k
unfolding places
place-count t k = length-map (step_lists t.n k) _ ∙ list_count t.n k

-- so no count is greater
pub count-few : (t : Table) (k p : ℕ) → count_of t k p ≤ t.n ^ k
unfolding count_of
count-few t k p = omega (arith, occurs-few p (places t k), place-count t k)

-- ---- by their first step
-- the lists of one step more: each thread's step, and the lists from there
pub places-more : (t : Table) (k : ℕ) → places t (suc k) ≡ concat (up_to t.n (λ x. places (after_step x t) k))
unfolding places step_lists after_steps
places-more t k = map-concat (λ xs. place_of (after_steps xs t)) (λ x. map (λ xs. x ∷ xs) (step_lists t.n k)) t.n ∙ concat-same t.n _ _ (λ x below.
    map-map (λ xs. place_of (after_steps xs t)) (λ xs. x ∷ xs) (step_lists t.n k)
    ∙ ap (λ (n : ℕ). map (λ xs. place_of (after_steps xs (after_step x t))) (step_lists n k)) (sym (step-size t x)))

count-from : (t : Table) (k p m x : ℕ) → count_from t m x k p ≡ occurs_from (λ y. places (after_step y t) k) m x p
unfolding count_from occurs_from count_of
count-from t k p zero x = refl
count-from t k p (suc m) x = ap (λ (j : ℕ). count_of (after_step x t) k p + j) (count-from t k p m (suc x))

-- the lists of one step more are those of all threads
pub count-all : (t : Table) (k p : ℕ) → count_of t (suc k) p ≡ count_from t t.n 0 k p
unfolding count_of up_to concat occurs
count-all t k p =
    let none : 0 + t.n ≡ t.n = omega arith in
    ap (occurs p) (places-more t k) ∙ sym (ap (λ (n : ℕ). occurs p (concat (up_to n (λ x. places (after_step x t) k)))) none)
    ∙ occurs_split (λ x. places (after_step x t) k) p t.n 0 ∙ omega (arith, count-from t k p t.n 0)

-- a list of no step leads to where it starts
pub count_none : (t : Table) (p : ℕ) → count_of t 0 p ≡ bit (eqb (place_of t) p)
unfolding count_of places step_lists after_steps occurs
count_none t p = omega arith

-- ---- together
-- every list leads to a place below 4096
places-below : (k : ℕ) (t : Table) → Steps t → t.n ≤ counted_threads → Under count_places (places t k)
unfolding places step_lists after_steps
places-below zero t steps few = (place-below t steps few, tt)
places-below (suc k) t steps few = subst (Under count_places) (sym (places-more t k)) (under-concat count_places _ t.n (λ x below.
    places-below k (after_step x t) (step-steps t steps x below) (subst (λ (n : ℕ). n ≤ counted_threads) (sym (step-size t x)) few)))

-- "The counts together equal N raised to the length"
pub counts_together : (t : Table) → WellFormed t → Shaped t → t.n ≤ counted_threads → (k : ℕ) → total (up_to count_places (count_of t k)) ≡ t.n ^ k
unfolding count_of
counts_together t w z few k = all-counted count_places (places t k) (places-below k t (steps-well_formed t w z) few) ∙ place-count t k
