-- A number by its letter: bounds of its largest and its least, and what is found of the digits of a word.
use mathlib.Core.Path.{◌≡◌, refl, sym}
use mathlib.Core.Logic.{◌≢◌}
use mathlib.Core.Bool.{Bool, true, false, cond}
use mathlib.Core.List.{List, [], ◌∷◌}
use Prim.Native.Nat.{ℕ, ◌-◌, ◌≤◌, ◌<◌}
use native.Mathlib.Omega.{arith}
use lib.Dec.{ltb, lit<}
use lib.ListN.{length, drop, length-drop}
use lib.Seq.{take_all}
use borrow.Author.Tests.{lt-ltb, le-ltb}
use Rattle.model.specs.Refusals.{first_refusal}
use Rattle.model.proofs.Laws.{by, and_right}
use Rattle.std.specs.Prelude.{Some, Ok}
use Rattle.language.specs.Words.{is_number, value}
use Rattle.language.specs.Grammar.{largest, least, takes_sign, takes_choice, most_more}
use Rattle.language.specs.Commands.{not_number, too_large, too_small, is_negative, choice_digits, digits_of, reason_for, wrong_digits}
use Rattle.scanning.specs.Scanned.{between, cap, NumberRead}
use Rattle.letters.specs.Measured.{Measured}

-- ---- bounds
-- one of two numbers below a bound
cond_below : (b : Bool) (x y n : ℕ) → x < n → y < n → cond b x y < n
cond_below true x y n p q = p
cond_below false x y n p q = q

-- every number of a letter is below the cap
pub largest-below : (letter : ℕ) → largest letter < cap
unfolding largest
largest-below letter = search (cond_below, lit<, tt) depth 14

-- the least number is 0 or 1
pub least-below : (letter : ℕ) → least letter < 2
unfolding least
least-below letter = search (cond_below, lit<, tt)

-- at most 2,048 numbers more may follow
pub more-below : (letter : ℕ) → most_more letter < 2049
unfolding most_more
more-below letter = search (cond_below, lit<, tt) depth 8

-- ---- a sign
-- a word with one is not empty
pub negative_some : (letter : ℕ) (word : List ℕ) → is_negative letter word ≡ true → 1 ≤ length word
unfolding is_negative
negative_some letter [] e = let clash : ◌≡◌ {A = ℕ} 0 1 = cc (and_right (takes_sign letter) false e) in omega arith
negative_some letter (byte ∷ word) e = omega arith

-- of yes or no the digits are what they stand for
pub digits-chosen : (letter : ℕ) (word : List ℕ) → takes_choice letter ≡ true → digits_of letter word ≡ choice_digits word
unfolding digits_of
digits-chosen letter word e = rw e refl

-- of another word those behind its sign
pub digits-behind : (letter : ℕ) (word : List ℕ) → takes_choice letter ≡ false → is_negative letter word ≡ true → digits_of letter word ≡ between 1 (length word) word
unfolding digits_of
digits-behind letter word c e = rw (c, e) (sym (take_all (length word - 1) (drop 1 word) (simp length-drop (omega arith))))

-- or the whole word
pub digits-whole : (letter : ℕ) (word : List ℕ) → takes_choice letter ≡ false → is_negative letter word ≡ false → digits_of letter word ≡ word
unfolding digits_of
digits-whole letter word c e = rw (c, e)

-- ---- digits
-- a reason stays one, whatever the letter
pub reason-there : (letter reason : ℕ) → reason ≢ 0 → reason_for letter reason ≢ 0
unfolding reason_for
reason-there letter reason d = by (takes_choice letter) (λ e. rw e (λ z. omega arith)) (λ e. rw e d)

module _ (letter : ℕ) (word : List ℕ) where
  -- what is no number
  pub measured-none : is_number word ≡ false → wrong_digits letter word ≡ reason_for letter not_number
  unfolding wrong_digits first_refusal
  measured-none e = rw e

  module _ {number : ℕ} (n : NumberRead word (Some number)) where
    -- one that is too large
    pub measured-large : largest letter < number → wrong_digits letter word ≡ too_large
    unfolding wrong_digits first_refusal
    measured-large l = rw (n.0, lt-ltb (largest letter) (value word) (omega (arith, n.1)))

    module _ (l : number ≤ largest letter) where
      -- it is the number that was read
      same : number ≡ value word
      same = omega (arith, n.1, largest-below letter)

      -- it is not too large
      not-large : ltb (largest letter) (value word) ≡ false
      not-large = le-ltb (largest letter) (value word) (omega (arith, same))

      -- one that is too small
      pub measured-small : number < least letter → wrong_digits letter word ≡ too_small
      unfolding wrong_digits first_refusal
      measured-small s = rw (n.0, not-large, lt-ltb (value word) (least letter) (omega (arith, same)))

      -- one that is neither
      pub measured_fine : least letter ≤ number → Measured letter word (Ok number)
      unfolding wrong_digits first_refusal
      measured_fine s = (rw (n.0, not-large, le-ltb (value word) (least letter) (omega (arith, same))), same)
