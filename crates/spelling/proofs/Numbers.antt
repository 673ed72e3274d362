-- A number's decimal is a word of digits that stands for the number.
use mathlib.Core.Path.{◌≡◌, refl, ap}
use mathlib.Core.Bool.{true, false, not}
use mathlib.Core.List.{List, [], ◌∷◌, ◌++◌, map}
use Prim.Native.Nat.{ℕ, zero, suc, ◌+◌, ◌-◌, ◌*◌, ◌/◌, ◌%◌, ◌≤◌, ◌<◌}
use native.Mathlib.Omega.{arith}
use lib.Dec.{leb, ltb}
use borrow.Author.Tests.{leb-true, le-leb, ltb-false, ltb-true, ne_eqb}
use Rattle.model.specs.Schedule.{is_empty}
use Rattle.model.specs.Lists.{concat, up_to, same_numbers}
use Rattle.model.specs.Bondtrace.{ascii, digit, digits, decimal, spaced}
use Rattle.model.proofs.Laws.{by, and_left, and_right, and-made}
use Rattle.language.specs.Words.{comma, has_comma, is_digit, all_digits, is_number, grown, value}
use Rattle.language.specs.Runs.{each}
use Rattle.spelling.proofs.Texts.{is_word, are_words, apart}

-- ---- the value
-- the number that digits make of one, and then one digit more
grown-last : (number : ℕ) (word : List ℕ) (byte : ℕ) → grown number (word ++ (byte ∷ [])) ≡ 10 * grown number word + (byte - 48)
unfolding grown
grown-last number [] byte = refl
grown-last number (first ∷ word) byte = grown-last (10 * number + (first - 48)) word byte

-- digits stand for their number where enough of them are allowed for
value-digits : (most n : ℕ) → n < most → grown 0 (digits most n) ≡ n
unfolding digits
value-digits zero n h = absurd (omega arith)
value-digits (suc most) n h = by (ltb n 10)
    (λ e. unfold grown in rw e (omega arith))
    (λ e. let some : 10 ≤ n = ltb-false n 10 e in rw (e, grown-last 0 (digits most (n / 10)) (digit (n % 10)), value-digits most (n / 10) (omega arith)) (omega arith))

-- a number's decimal stands for it
pub value-decimal : (n : ℕ) → value (decimal n) ≡ n
unfolding value decimal
value-decimal n = value-digits (suc n) n (omega arith)

-- ---- the digits
-- a digit of a number
is-digit : (d : ℕ) → d < 10 → is_digit (digit d) ≡ true
unfolding is_digit
is-digit d h = and-made _ _ (le-leb 48 (digit d) (omega arith)) (le-leb (digit d) 57 (omega arith))

-- one digit more at the end
digits_last : (word : List ℕ) (byte : ℕ) → all_digits word ≡ true → is_digit byte ≡ true → all_digits (word ++ (byte ∷ [])) ≡ true
unfolding all_digits
digits_last [] byte e f = and-made (is_digit byte) true f refl
digits_last (first ∷ word) byte e f = and-made (is_digit first) _ (and_left _ (all_digits word) e) (digits_last word byte (and_right (is_digit first) (all_digits word) e) f)

-- every byte of a number's digits is one
all-digits : (most n : ℕ) → all_digits (digits most n) ≡ true
unfolding digits
all-digits zero n = unfold all_digits in refl
all-digits (suc most) n = by (ltb n 10)
    (λ e. rw e (digits_last [] (digit n) (unfold all_digits in refl) (is-digit n (ltb-true n 10 e))))
    (λ e. rw e (digits_last (digits most (n / 10)) (digit (n % 10)) (all-digits most (n / 10)) (is-digit (n % 10) (omega arith))))

-- what has a byte at its end is not empty
not-empty-last : (word : List ℕ) (byte : ℕ) → is_empty (word ++ (byte ∷ [])) ≡ false
not-empty-last [] byte = refl
not-empty-last (first ∷ word) byte = refl

-- there is a digit
digit-there : (most n : ℕ) → is_empty (digits (suc most) n) ≡ false
unfolding digits
digit-there most n = by (ltb n 10) (λ e. rw e refl) (λ e. rw e (not-empty-last (digits most (n / 10)) (digit (n % 10))))

-- a number's decimal is a number
pub number-decimal : (n : ℕ) → is_number (decimal n) ≡ true
unfolding is_number decimal
number-decimal n = rw (digit-there n n) (all-digits (suc n) n)

-- ---- as words
-- digits are past the blanks
digits-large : (word : List ℕ) → all_digits word ≡ true → each (leb 33) word ≡ true
unfolding all_digits is_digit each
digits-large [] e = refl
digits-large (byte ∷ word) e =
    let large : 48 ≤ byte = leb-true 48 byte (and_left _ (leb byte 57) (and_left _ (all_digits word) e)) in
    and-made (leb 33 byte) _ (le-leb 33 byte (omega arith)) (digits-large word (and_right (is_digit byte) (all_digits word) e))

-- a number is a word
number_word : (word : List ℕ) → is_number word ≡ true → is_word word ≡ true
unfolding is_number is_word
number_word word e = and-made (not (is_empty word)) (each (leb 33) word) (and_left _ (all_digits word) e) (digits-large word (and_right (not (is_empty word)) (all_digits word) e))

-- so are decimals
pub words-decimal : (numbers : List ℕ) → are_words (map decimal numbers) ≡ true
unfolding are_words
words-decimal [] = refl
words-decimal (n ∷ numbers) = and-made (is_word (decimal n)) _ (number_word (decimal n) (number-decimal n)) (words-decimal numbers)

-- numbers, each behind a space
pub spaced-apart : (numbers : List ℕ) → spaced numbers ≡ apart (map decimal numbers)
unfolding spaced concat apart ascii up_to
spaced-apart [] = refl
spaced-apart (n ∷ numbers) = ap (λ (l : List ℕ). 32 ∷ decimal n ++ l) (spaced-apart numbers)

-- no digit is a comma
digits-no-comma : (word : List ℕ) → all_digits word ≡ true → has_comma word ≡ false
unfolding all_digits is_digit has_comma
digits-no-comma [] e = refl
digits-no-comma (byte ∷ word) e =
    let large : 48 ≤ byte = leb-true 48 byte (and_left _ (leb byte 57) (and_left _ (all_digits word) e)) in
    rw (ne_eqb byte comma (λ same. omega arith)) (digits-no-comma word (and_right (is_digit byte) (all_digits word) e))

-- so a number's decimal has none
pub decimal-no-comma : (n : ℕ) → has_comma (decimal n) ≡ false
unfolding decimal
decimal-no-comma n = digits-no-comma (decimal n) (all-digits (suc n) n)

-- a number is no name that starts with a letter
pub number-no_name : (word : List ℕ) (letter : ℕ) (name : List ℕ) → is_number word ≡ true → 57 < letter → same_numbers word (letter ∷ name) ≡ false
unfolding is_number all_digits is_digit same_numbers
number-no_name [] letter name e h = refl
number-no_name (byte ∷ word) letter name e h =
    let small : byte ≤ 57 = leb-true byte 57 (and_right (leb 48 byte) (leb byte 57) (and_left _ (all_digits word) e)) in
    rw (ne_eqb byte letter (λ same. omega arith)) refl
