-- A number in decimal is read by its letter of the grammar.
use mathlib.Core.Path.{◌≡◌, refl}
use mathlib.Core.Bool.{false}
use mathlib.Core.List.{List, [], ◌∷◌, ◌++◌}
use Prim.Native.Nat.{ℕ, ◌≤◌, ◌<◌}
use Prim.Native.Char.{code}
use native.Mathlib.Omega.{arith}
use borrow.Author.Tests.{le-ltb}
use Rattle.model.specs.Refusals.{first_refusal, unless}
use Rattle.model.specs.Bondtrace.{decimal}
use Rattle.language.specs.Grammar.{largest, least, takes_sign, takes_choice}
use Rattle.language.specs.Commands.{is_negative, digits_of, wrong_digits, wrong_number, kept, reached, read_number}
use Rattle.spelling.proofs.Numbers.{value-decimal, number-decimal}

-- ---- a letter that takes no sign, and neither yes nor no
module _ (letter : ℕ) (unsigned : takes_sign letter ≡ false) (unchosen : takes_choice letter ≡ false) where
  -- the digits of a number are the whole word
  digits-all : (word : List ℕ) → digits_of letter word ≡ word
  unfolding digits_of is_negative
  digits-all word = rw (unchosen, unsigned) refl

  -- a number that is in range is not wrong
  pub not-wrong : (n : ℕ) → n ≤ largest letter → least letter ≤ n → wrong_number letter (decimal n) ≡ 0
  unfolding wrong_number wrong_digits first_refusal
  not-wrong n low high = rw (digits-all (decimal n), number-decimal n, value-decimal n, le-ltb (largest letter) n low, le-ltb n (least letter) high) refl

  -- the number itself is kept of it
  pub number-kept : (n : ℕ) → kept letter (decimal n) ≡ n ∷ []
  unfolding kept
  number-kept n = rw (digits-all (decimal n), value-decimal n, unsigned) refl

  -- so one number more is read
  pub number_read : (n : ℕ) (numbers : List ℕ) (left : List (List ℕ)) → n ≤ largest letter → least letter ≤ n
      → read_number letter (reached numbers (decimal n ∷ left)) ≡ reached (numbers ++ (n ∷ [])) left
  unfolding read_number unless
  number_read n numbers left low high = rw (not-wrong n low high, number-kept n) refl

-- ---- the letters of a schedule
-- a byte is read
pub byte-read : (n : ℕ) (numbers : List ℕ) (left : List (List ℕ)) → n < 256 → read_number (code "b") (reached numbers (decimal n ∷ left)) ≡ reached (numbers ++ (n ∷ [])) left
unfolding takes_sign takes_choice largest least
byte-read n numbers left small = number_read (code "b") refl refl n numbers left (omega arith) (omega arith)

-- so is a number of 32 bits
pub wide_read : (n : ℕ) (numbers : List ℕ) (left : List (List ℕ)) → n < 0x1_0000_0000 → read_number (code "w") (reached numbers (decimal n ∷ left)) ≡ reached (numbers ++ (n ∷ [])) left
unfolding takes_sign takes_choice largest least
wide_read n numbers left small = number_read (code "w") refl refl n numbers left (omega arith) (omega arith)

-- a word of 32 bits is not wrong
pub word-not-wrong : (n : ℕ) → n < 0x1_0000_0000 → wrong_number (code "w") (decimal n) ≡ 0
unfolding takes_sign takes_choice largest least
word-not-wrong n small = not-wrong (code "w") refl refl n (omega arith) (omega arith)
