-- A number's decimal by its last digit, and how long numbers as text are at most.
use mathlib.Core.Path.{◌≡◌, refl}
use mathlib.Core.List.{List, [], ◌∷◌, ◌++◌}
use Prim.Native.Nat.{ℕ, zero, suc, ◌*◌, ◌/◌, ◌%◌, ◌^◌, ◌≤◌, ◌<◌}
use native.Mathlib.Omega.{arith}
use native.Mathlib.Nat.{mod-eq_of_lt, div-lt_iff_lt-mul}
use lib.ListN.{length, get_or, length-append}
use lib.Dec.{ltb}
use borrow.Author.Tests.{lt-ltb, le-ltb, ltb-false}
use Rattle.model.specs.Lists.{up_to, concat}
use Rattle.model.specs.Bondtrace.{ascii, digit, digits, decimal, spaced}
use Rattle.model.proofs.Laws.{by}

-- where as many digits are allowed for as the number says, more change nothing
enough-digits : (most more n : ℕ) → n < most → n < more → digits most n ≡ digits more n
unfolding digits
enough-digits zero more n h k = absurd (omega arith)
enough-digits (suc most) zero n h k = absurd (omega arith)
enough-digits (suc most) (suc more) n h k = by (ltb n 10)
    (λ e. rw e refl)
    (λ e. let some : 10 ≤ n = ltb-false n 10 e in rw (e, enough-digits most more (n / 10) (tenth_less n most some h) (tenth_less n more some k)) refl)
  where
    -- a tenth of a number is less than it
    tenth_less : (n most : ℕ) → 10 ≤ n → n < suc most → n / 10 < most
    tenth_less n most some h = omega arith

-- a number below ten is its digit
pub decimal-one : (n : ℕ) → n < 10 → decimal n ≡ digit (n % 10) ∷ []
unfolding decimal digits
decimal-one n h = rw (lt-ltb n 10 h, mod-eq_of_lt h) refl

-- another is its tenth, and then its last digit
pub decimal-more : (n : ℕ) → 10 ≤ n → decimal n ≡ decimal (n / 10) ++ (digit (n % 10) ∷ [])
unfolding decimal digits
decimal-more n h = rw (le-ltb n 10 h, enough-digits n (suc (n / 10)) (n / 10) (omega arith) (omega arith)) refl

-- a number below 10 to the k + 1 has at most k + 1 digits
digits-short : (most k n : ℕ) → n < 10 ^ suc k → length (digits most n) ≤ suc k
unfolding digits
digits-short zero k n small = omega arith
digits-short (suc most) zero n small = let h : n < 10 = omega arith in rw (lt-ltb n 10 h) (omega arith)
digits-short (suc most) (suc k) n small = by (ltb n 10)
    (λ e. rw e (omega arith))
    (λ e. rw e (omega (arith, length-append (digits most (n / 10)) (digit (n % 10) ∷ []), digits-short most k (n / 10) ((div-lt_iff_lt-mul (omega arith)).1 (omega arith)))))

-- the same of its text
pub decimal-short : (k n : ℕ) → n < 10 ^ suc k → length (decimal n) ≤ suc k
unfolding decimal
decimal-short k n small = digits-short (suc n) k n small

-- each of some words of 32 bits has at most eleven bytes, the space before it included
pub spaced-short : (words : List ℕ) → ((i : ℕ) → get_or words i 0 < 2 ^ 32) → length (spaced words) ≤ 11 * length words
unfolding spaced concat ascii up_to
spaced-short [] small = omega arith
spaced-short (word ∷ words) small =
    simp length-append
    (omega (arith, decimal-short 9 word (omega (arith, small 0)), spaced-short words (λ i. small (suc i))))
