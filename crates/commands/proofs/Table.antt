-- The rows of the grammar: which row a word names, found row by row, and the letters of a row.
use mathlib.Core.Path.{◌≡◌, refl, ap, ◌∙◌}
use mathlib.Core.Bool.{true, false}
use mathlib.Core.List.{List, [], ◌∷◌}
use Prim.Native.Nat.{ℕ, zero, suc, ◌+◌, ◌-◌, ◌*◌, ◌≤◌, ◌<◌}
use native.Mathlib.Numerals.{add-one}
use native.Mathlib.Omega.{arith}
use lib.ListN.{length, take, drop, get_or, length-take}
use borrow.Author.Tests.{not-true, not-false}
use Rattle.model.specs.Lists.{up_to, concat}
use Rattle.model.specs.Bondtrace.{ascii}
use Rattle.language.specs.Words.{is_blank}
use Rattle.language.specs.Grammar.{grammar, rows, row_length, name_length, most_numbers, is_name, find_row, until_blank, number_letters}
use Rattle.language.specs.Runs.{each}
use Rattle.language.proofs.Words.{each_first, each-rest}
use Rattle.scanning.specs.Scanned.{between, Run, of_word}
use Rattle.scanning.proofs.Runs.{between-length}
use Rattle.commands.specs.declared.rows.TheConstants.{GRAMMAR}
use Rattle.commands.specs.Standing.{Letters}

-- the table has its rows
pub grammar-length : length grammar ≡ row_length * rows
unfolding grammar concat ascii up_to
grammar-length = refl

-- they are those of the program
pub table-grammar : GRAMMAR ≡ grammar
unfolding grammar concat ascii up_to
table-grammar = refl

-- ---- the row of a word
module _ (word : List ℕ) (end row : ℕ) (inside : row < end) where
  -- there is a row left
  one_left : end - row ≡ suc (end - (row + 1))
  one_left = omega arith

  -- the word names it
  pub find-here : is_name row word ≡ true → find_row (end - row) row word ≡ row
  unfolding find_row
  find-here e = rw (one_left, e)

  -- or it names a later one
  pub find-next : is_name row word ≡ false → find_row (end - (row + 1)) (row + 1) word ≡ find_row (end - row) row word
  unfolding find_row
  find-next e = rw (one_left, e, add-one)

-- no row is left
pub find_none : (word : List ℕ) (end row : ℕ) → end ≤ row → find_row (end - row) row word ≡ row
unfolding find_row
find_none word end row le = let none : end - row ≡ 0 = omega arith in rw none

-- ---- the letters of a row
-- the bytes before the first blank
until_run : (bytes : List ℕ) (stop : ℕ) → stop ≤ length bytes → each of_word (take stop bytes) ≡ true → (stop < length bytes → of_word (get_or bytes stop 0) ≡ false) → take stop bytes ≡ until_blank bytes
unfolding until_blank
until_run [] zero le pass stops = refl
until_run [] (suc stop) le pass stops = refl
until_run (byte ∷ bytes) zero le pass stops = rw (not-false (is_blank byte) (stops (omega arith)))
until_run (byte ∷ bytes) (suc stop) le pass stops =
    rw (not-true (is_blank byte) (each_first of_word byte (take stop bytes) pass))
    (ap (λ (l : List ℕ). byte ∷ l) (until_run bytes stop (omega arith) (each-rest of_word byte (take stop bytes) pass) (λ lt. stops (omega arith))))

module _ (row stop : ℕ) (inside : row < rows) where
  -- the place where the letters start
  abbrev start : ℕ
  start = row_length * row + name_length

  -- the places of letters
  abbrev field : List ℕ
  field = between start (start + most_numbers) grammar

  -- there are seven
  field-length : length field ≡ most_numbers
  field-length =
      let width : start + most_numbers - start ≡ most_numbers = omega arith in
      between-length grammar start (start + most_numbers) (omega arith) (omega (arith, grammar-length)) ∙ width

  -- the letters are its first bytes
  letters-front : Run of_word field 0 stop → Letters row (take stop field)
  unfolding number_letters
  letters-front r =
      let few : stop ≤ 7 = omega (arith, field-length, r.passing.within) in
      let width : start + most_numbers - start ≡ most_numbers = omega arith in
      let all : stop - 0 ≡ stop = omega arith in record {
        few = simp length-take (omega arith);
        are = until_run field stop r.passing.within (rw all at r.passing.pass) r.stops ∙ ap (λ (k : ℕ). until_blank (take k (drop start grammar))) width;
      }

  -- in the program's table too
  pub letters_found : (table : List ℕ) → table ≡ grammar → Run of_word (between start (start + most_numbers) table) 0 stop → Letters row (take stop (between start (start + most_numbers) table))
  letters_found table e r = rw e (letters-front (rw e at r))
