-- How many numbers below a bound pass a test. None of this is about logs.
use mathlib.Core.Path.{◌≡◌, refl, ap, ◌∙◌}
use mathlib.Core.Logic.{◌≢◌}
use mathlib.Core.Bool.{Bool, true, false, not, ◌&&◌}
use Prim.Native.Nat.{ℕ, zero, suc, ◌+◌, ◌≤◌, ◌<◌}
use native.Mathlib.Omega.{arith}
use lib.Dec.{eqb}
use borrow.Author.Tests.{eq-eqb, ne_eqb}
use Rattle.model.specs.Lists.{bit}
use Rattle.model.proofs.Laws.{by, same?}
use Rattle.logs.specs.Comparison.{count_below}

-- one more number counts where it passes
pub count_next : (n : ℕ) (f : ℕ → Bool) → count_below (suc n) f ≡ bit (f n) + count_below n f
unfolding count_below
count_next n f = refl

-- tests with the same values below n pass as many
pub count-alike : (n : ℕ) (f g : ℕ → Bool) → ((k : ℕ) → k < n → f k ≡ g k) → count_below n f ≡ count_below n g
unfolding count_below
count-alike zero f g h = refl
count-alike (suc k) f g h = rw (count-alike k f g (λ i l. h i (omega arith)), h k (omega arith)) refl

-- a test with one number left out
abbrev minus : (ℕ → Bool) → ℕ → ℕ → Bool
minus f y k = f k && not (eqb k y)

-- of other numbers it says the same
minus-other : (f : ℕ → Bool) (y k : ℕ) → k ≢ y → minus f y k ≡ f k
minus-other f y k d = ap (λ (b : Bool). f k && not b) (ne_eqb k y d) ∙ same (f k)
  where
    same : (b : Bool) → (b && true) ≡ b
    same true = refl
    same false = refl

-- and the number itself does not pass
minus-own : (f : ℕ → Bool) (y k : ℕ) → k ≡ y → minus f y k ≡ false
minus-own f y k e = ap (λ (b : Bool). f k && not b) (eq-eqb k y e) ∙ none (f k)
  where
    none : (b : Bool) → (b && false) ≡ false
    none true = refl
    none false = refl

-- a number that passes is one of those that do
count-minus : (n : ℕ) (f : ℕ → Bool) (y : ℕ) → y < n → f y ≡ true → count_below n f ≡ suc (count_below n (minus f y))
count-minus zero f y low passes = absurd (omega arith)
count-minus (suc k) f y low passes = same? k y
    (λ e. omega (arith, count_next k f, count_next k (minus f y), ap bit (ap f e ∙ passes), ap bit (minus-own f y k e), count-alike k (minus f y) f (λ i l. minus-other f y i (λ g. omega arith))))
    (λ d. omega (arith, count_next k f, count_next k (minus f y), ap bit (minus-other f y k d), count-minus k f y (omega arith) passes))

-- numbers that go one to one into others are no more than these
pub fewer : (n m : ℕ) (f g : ℕ → Bool) (to : ℕ → ℕ) → ((k : ℕ) → k < n → f k ≡ true → (to k < m) × (g (to k) ≡ true))
    → ((k l : ℕ) → k < l → l < n → f k ≡ true → f l ≡ true → to k ≢ to l) → count_below n f ≤ count_below m g
unfolding count_below
fewer zero m f g to into apart = omega arith
fewer (suc k) m f g to into apart = by (f k)
    (λ e. let (low, passes) = into k (omega arith) e in
    let rest = fewer k m f (minus g (to k)) to
    (λ j l p. let (a, b) = into j (omega arith) p in (a, minus-other g (to k) (to j) (apart j k l (omega arith) p e) ∙ b))
    (λ j i l h. apart j i l (omega arith)) in
    omega (arith, rest, count-minus m g (to k) low passes, ap bit e))
    (λ e. omega (arith, fewer k m f g to (λ j l. into j (omega arith)) (λ j i l h. apart j i l (omega arith)), ap bit e))

-- below a greater bound there are more, if one in between passes
pub count-more : (n m : ℕ) (f : ℕ → Bool) → n < m → f n ≡ true → count_below n f < count_below m f
count-more n m f l p =
    let grows = fewer (suc n) m f f (λ k. k) (λ k h q. (omega arith, q)) (λ k j h i q r e. omega arith) in
    omega (arith, grows, count_next n f, ap bit p)
