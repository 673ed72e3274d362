-- A word read digit by digit.
use mathlib.Core.Path.{◌≡◌, refl, sym, ap, ◌∙◌}
use mathlib.Core.Bool.{true, false}
use mathlib.Core.List.{List, ◌∷◌}
use Rattle.std.specs.Prelude.{Some}
use Prim.Native.Nat.{ℕ, ◌+◌, ◌-◌, ◌*◌, ◌≤◌, ◌<◌, min}
use native.Mathlib.Numerals.{add-one}
use native.Mathlib.Nat.{min-eq_left}
use native.Mathlib.Omega.{arith}
use lib.ListN.{length, drop, get_or, drop_of_length-le}
use lib.Seq.{drop-cons}
use borrow.Author.Tests.{leb-true}
use Rattle.model.proofs.Laws.{by, and_left}
use Rattle.model.specs.Schedule.{is_empty}
use Rattle.laws.proofs.Records.{not-empty, is-empty}
use Rattle.language.specs.Words.{is_digit, all_digits, is_number, grown, value}
use Rattle.language.proofs.Words.{grown-capped}
use Rattle.scanning.specs.Scanned.{cap, NumberRead}

-- ---- digits
-- a digit is at least the first
pub digit-above : (byte : ℕ) → is_digit byte ≡ true → 48 ≤ byte
unfolding is_digit
digit-above byte e = leb-true 48 byte (and_left _ _ e)

-- the first i bytes are digits, and number is what they make, cut down to the cap
pub record Digits (word : List ℕ) (number i : ℕ) : Type 0 where
  pub within : i ≤ length word
  pub capped : number ≤ cap
  pub digits : all_digits (drop i word) ≡ all_digits word
  pub grows : min (grown number (drop i word)) cap ≡ min (value word) cap

module _ (word : List ℕ) where
  -- no byte so far
  pub digits-start : Digits word 0 0
  unfolding value
  digits-start = record { within = omega arith; capped = omega arith; digits = refl; grows = refl }

  -- an empty word is none
  pub digits-none : length word ≡ 0 → is_number word ≡ false
  unfolding is_number
  digits-none e = rw (is-empty word e)

  module _ (number i : ℕ) (so_far : Digits word number i) where
    -- one digit more
    pub digits_more : (more : ℕ) → i < length word → is_digit (get_or word i 0) ≡ true → more ≡ min (10 * number + (get_or word i 0 - 48)) cap → Digits word more (i + 1)
    unfolding all_digits grown
    digits_more more lt digit e =
        let front : drop i word ≡ get_or word i 0 ∷ drop (i + 1) word = rw add-one (drop-cons word i 0 lt) in record {
          within = omega arith;
          capped = omega arith;
          digits = sym (ap all_digits front ∙ rw digit refl) ∙ so_far.digits;
          grows = rw e (grown-capped cap (10 * number + (get_or word i 0 - 48)) (drop (i + 1) word)) ∙ sym (ap (λ (rest : List ℕ). min (grown number rest) cap) front) ∙ so_far.grows;
        }

    -- a byte that is no digit
    pub digits-stop : i < length word → is_digit (get_or word i 0) ≡ false → is_number word ≡ false
    unfolding all_digits is_number
    digits-stop lt other =
        let none : all_digits word ≡ false = sym so_far.digits ∙ ap all_digits (drop-cons word i 0 lt) ∙ rw other refl in
        by (is_empty word) (λ e. rw e) (λ e. rw (e, none))

    -- every byte is a digit
    pub digits-all : 0 < length word → length word ≤ i → NumberRead word (Some number)
    unfolding all_digits grown is_number
    digits-all some le =
        let nothing = drop_of_length-le word le in (
          rw (not-empty word some) (sym so_far.digits ∙ ap all_digits nothing),
          sym (min-eq_left so_far.capped) ∙ sym (ap (λ (rest : List ℕ). min (grown number rest) cap) nothing) ∙ so_far.grows,
        )
