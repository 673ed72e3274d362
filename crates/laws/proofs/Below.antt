-- Laws of the values of a function, and of a test, at each number below a bound, and of the first that passes a test. None is about messages.
use mathlib.Core.Path.{◌≡◌, refl, sym, ap, ◌∙◌}
use mathlib.Core.Bool.{Bool, true, false, not, true≢false, false≢true}
use mathlib.Core.List.{List, [], ◌∷◌}
use Prim.Native.Nat.{ℕ, zero, suc, ◌+◌, ◌≤◌, ◌<◌}
use native.Mathlib.Numerals.{add-one}
use native.Mathlib.Omega.{arith}
use lib.ListN.{length, get_or, take, get_or-append}
use lib.Seq.{take-suc, get_or_at}
use lib.Dec.{ltb}
use borrow.Author.Tests.{lt-ltb, le-ltb, ltb-true, ltb-false}
use Rattle.model.specs.Lists.{all_below, first_below, up_to}
use Rattle.model.proofs.Laws.{by, same?, and-made, all-below-read, all-below-made, length-up-to}

-- ---- the list of a function's values below a bound
-- a list that is f at each of its first k places starts with f's first k values
pub take-up-to {ℓ} : {A : Type ℓ} (l : List A) (d : A) (k : ℕ) (f : ℕ → A) → k ≤ length l → ((j : ℕ) → j < k → get_or l j d ≡ f j) → take k l ≡ up_to k f
unfolding up_to
take-up-to l d zero f long h = refl
take-up-to l d (suc k) f long h = rw (take-suc l k d (omega arith), take-up-to l d k f (omega arith) (λ j i. h j (omega arith)), h k (omega arith)) refl

-- a list of the values below m has each of them at its place
pub read-up-to {ℓ} : {A : Type ℓ} (m : ℕ) (f : ℕ → A) (d : A) (i : ℕ) → i < m → get_or (up_to m f) i d ≡ f i
unfolding up_to
read-up-to zero f d i l = absurd (omega arith)
read-up-to (suc m) f d i l = same? i m
    (λ e. rw e (get_or_at (up_to m f) (f m) [] d m (length-up-to m f)))
    (λ e. get_or-append (up_to m f) (f m ∷ []) d i (omega (arith, length-up-to m f)) ∙ read-up-to m f d i (omega arith))

-- functions with the same values below n have the same list of values below n
pub up_to-alike : (n : ℕ) (f g : ℕ → ℕ) → ((i : ℕ) → i < n → f i ≡ g i) → up_to n f ≡ up_to n g
unfolding up_to
up_to-alike zero f g h = refl
up_to-alike (suc k) f g h = rw (up_to-alike k f g (λ i l. h i (omega arith)), h k (omega arith)) refl

-- ---- a test of each number below a bound
-- tests with the same values below n hold of all numbers below n together
pub all-below-alike : (n : ℕ) (f g : ℕ → Bool) → ((i : ℕ) → i < n → f i ≡ g i) → all_below n f ≡ all_below n g
unfolding all_below
all-below-alike zero f g h = refl
all-below-alike (suc k) f g h = rw (all-below-alike k f g (λ i l. h i (omega arith)), h k (omega arith)) refl

-- a test that fails of one number below n does not hold of all
pub all-below-fails : (n : ℕ) (f : ℕ → Bool) (k : ℕ) → k < n → f k ≡ false → false ≡ all_below n f
all-below-fails n f k l e = by (all_below n f) (λ i. absurd (false≢true (sym e ∙ all-below-read n f i k l))) sym

-- a test that holds of all numbers below k and of k holds of all below k + 1
pub all-below-more : (f : ℕ → Bool) (k : ℕ) → all_below k f ≡ true → f k ≡ true → all_below (k + 1) f ≡ true
unfolding all_below
all-below-more f k h e = rw add-one (and-made (f k) (all_below k f) e h)

-- a test that holds of all numbers below k, which is n, holds of all below n
pub all-below-end : (n : ℕ) (f : ℕ → Bool) (k : ℕ) → all_below k f ≡ true → k ≡ n → true ≡ all_below n f
all-below-end n f k h e = sym (rw e at h)

-- ---- the first number below a bound that passes a test
-- tests with the same values below n have the same first
pub first_alike : (n : ℕ) (f g : ℕ → Bool) → ((k : ℕ) → k < n → f k ≡ g k) → first_below n f ≡ first_below n g
unfolding first_below
first_alike zero f g h = refl
first_alike (suc k) f g h = rw (first_alike k f g (λ i l. h i (omega arith)), h k (omega arith)) refl

-- where none passes there is no first
pub first-missing : (n : ℕ) (f : ℕ → Bool) → ((k : ℕ) → k < n → f k ≡ false) → first_below n f ≡ n
unfolding first_below
first-missing zero f none = refl
first-missing (suc m) f none = rw (first-missing m f (λ k l. none k (omega arith)), le-ltb m m (omega arith), none m (omega arith)) refl

-- one that passes, and none before it does, is the first
pub first-is : (n : ℕ) (f : ℕ → Bool) (i : ℕ) → i < n → f i ≡ true → ((k : ℕ) → k < i → f k ≡ false) → first_below n f ≡ i
unfolding first_below
first-is zero f i low passes before = absurd (omega arith)
first-is (suc m) f i low passes before = same? i m
    (λ e. let own : f m ≡ true = rw e at passes in rw (first-missing m f (λ k l. before k (omega arith)), le-ltb m m (omega arith), own) (sym e))
    (λ d. rw (first-is m f i (omega arith) passes before, lt-ltb i m (omega arith)) refl)

-- the first passes
pub first_passes : (n : ℕ) (f : ℕ → Bool) → first_below n f < n → f (first_below n f) ≡ true
unfolding first_below
first_passes zero f low = absurd (omega arith)
first_passes (suc m) f low = by (ltb (first_below m f) m)
    (λ e. rw e (first_passes m f (ltb-true (first_below m f) m e)))
    (λ e. by (f m) (λ p. rw (e, p) p) (λ p. let past : suc m < suc m = rw (e, p) at low in absurd (omega arith)))

-- those before it do not
pub first-earlier : (n : ℕ) (f : ℕ → Bool) (k : ℕ) → k < n → k < first_below n f → f k ≡ false
unfolding first_below
first-earlier zero f k within low = absurd (omega arith)
first-earlier (suc m) f k within low = by (ltb (first_below m f) m)
    (λ e. let here : k < first_below m f = rw e at low in first-earlier m f k (omega (arith, ltb-true (first_below m f) m e)) here)
    (λ e. let late = ltb-false (first_below m f) m e in same? k m
    (λ i. by (f m) (λ p. let own : k < m = rw (e, p) at low in absurd (omega arith)) (λ p. ap f i ∙ p))
    (λ d. first-earlier m f k (omega arith) (omega arith)))

-- where not all fail there is a first
pub first-there : (n : ℕ) (f : ℕ → Bool) → all_below n (λ k. not (f k)) ≡ false → first_below n f < n
first-there n f some = by (ltb (first_below n f) n) (λ e. ltb-true _ _ e)
    (λ e. absurd (true≢false (sym (all-below-made n _ (λ k l. ap not (first-earlier n f k l (omega (arith, ltb-false (first_below n f) n e))))) ∙ some)))
