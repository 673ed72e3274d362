-- The numbers of a line that names threads are bytes.
use mathlib.Core.Path.{◌≡◌, refl}
use mathlib.Core.Bool.{Bool, true, false, cond}
use mathlib.Core.List.{List, [], ◌∷◌, ◌++◌}
use Prim.Native.Nat.{ℕ, zero, suc, ◌-◌, ◌≤◌, ◌<◌}
use Prim.Native.Char.{code}
use native.Mathlib.Omega.{arith}
use lib.Dec.{eqb, leb}
use lib.ListN.{length, get_or}
use borrow.Author.Tests.{ltb-false}
use Rattle.model.specs.declared.Operation.{Operation}
use Rattle.model.specs.Lists.{up_to, concat}
use Rattle.model.specs.RecordBytes.{tick_kind}
use Rattle.model.specs.Threads.{no_operation}
use Rattle.model.specs.Bondtrace.{ascii}
use Rattle.model.specs.Refusals.{unless}
use Rattle.laws.proofs.Rows.{none-holds}
use Rattle.roundtrip.specs.Fits.{Bytes}
use Rattle.roundtrip.proofs.Lists.{append-under, cons_under, nil-under}
use Rattle.language.specs.Words.{is_blank, words, without_return, value}
use Rattle.language.specs.Grammar.{grammar, column, is_name, find_row, until_blank, number_letters, rest_letter, most_more, largest, takes_sign, takes_choice, first_field, set_row, rows}
use Rattle.language.specs.Commands.{
  Progress,
  Command,
  Spelled,
  stopped,
  reached,
  misspelled,
  spelled,
  skipped,
  wrong,
  asked,
  no_command,
  no_field,
  too_long,
  line_limit,
  digits_of,
  reason_for,
  wrong_digits,
  wrong_number,
  kept,
  read_number,
  read_numbers,
  read_more,
  read_parts,
  with_parts,
  complete,
  read_rest,
  read_row,
  read_field,
  from_words,
  command_of,
}

-- ---- what holds either way
-- by a reason
unless-either : {A : Type 0} (P : A → Type 0) (g : ℕ) {f : ℕ → A} {x : A} → ((k : ℕ) → P (f k)) → (g ≡ 0 → P x) → P (unless g f x)
unfolding unless
unless-either P zero p q = q refl
unless-either P (suc g) p q = p (suc g)

-- by the row: the four rows that name threads, and the others
by_row : (P : ℕ → Type 0) → P 0 → P 1 → P 2 → P 3 → ((row : ℕ) → tick_kind ≤ row → P row) → (row : ℕ) → P row
by_row P a b c d others zero = a
by_row P a b c d others (suc zero) = b
by_row P a b c d others (suc (suc zero)) = c
by_row P a b c d others (suc (suc (suc zero))) = d
by_row P a b c d others (suc (suc (suc (suc row)))) = others (suc (suc (suc (suc row)))) (omega arith)

-- ---- the numbers of a row are bytes, where the row names threads
abbrev Fitting : ℕ → List ℕ → Type 0
Fitting row numbers = row < tick_kind → Bytes numbers

-- no numbers are
none : Bytes []
none = nil-under 256 (omega arith)

-- so far
abbrev FittingSoFar : ℕ → Progress → Type 0
FittingSoFar row (stopped reason word) = Unit {0}
FittingSoFar row (reached numbers left) = Fitting row numbers

-- of a whole line
abbrev FittingCommand : Command → Type 0
FittingCommand skipped = Unit {0}
FittingCommand (wrong reason word) = Unit {0}
FittingCommand (asked row numbers operation) = Fitting row numbers

-- another row names none
other_row : (row : ℕ) → tick_kind ≤ row → (p : Progress) → FittingSoFar row p
other_row row high (stopped reason word) = tt
other_row row high (reached numbers left) = λ low. absurd (omega arith)

-- ---- numbers
-- a number of a thread is a byte
byte-kept : (word : List ℕ) → wrong_number (code "b") word ≡ 0 → Bytes (kept (code "b") word)
unfolding wrong_number wrong_digits reason_for kept takes_sign takes_choice largest
byte-kept word right =
    let number = value (digits_of (code "b") word) in
    let low : number ≤ 255 = ltb-false 255 number (none-holds _ refl right).1.0 in
    cons_under 256 number [] (omega arith) none

-- one more
thread-fits : (row : ℕ) (p : Progress) → FittingSoFar row p → FittingSoFar row (read_number (code "b") p)
unfolding read_number
thread-fits row (stopped reason word) f = tt
thread-fits row (reached numbers []) f = tt
thread-fits row (reached numbers (word ∷ left)) f =
    unless-either (FittingSoFar row) (wrong_number (code "b") word) (λ k. tt) (λ right low. append-under 256 numbers (kept (code "b") word) (f low) (byte-kept word right))

-- those that a row has
numbers_fit : (row : ℕ) (p : Progress) → FittingSoFar row p → FittingSoFar row (read_numbers (number_letters row) p)
unfolding read_numbers number_letters until_blank is_blank grammar concat ascii up_to
numbers_fit row p = by_row (λ row. FittingSoFar row p → FittingSoFar row (read_numbers (number_letters row) p))
    (thread-fits 0 p) (thread-fits 1 p) (thread-fits 2 p) (thread-fits 3 p) (λ row high f. other_row row high (read_numbers (number_letters row) p)) row

-- threads to the end of the line
threads-fit : (row most : ℕ) (numbers : List ℕ) (left : List (List ℕ)) → Fitting row numbers → FittingSoFar row (read_more (code "b") most numbers left)
unfolding read_more
threads-fit row most numbers [] f = f
threads-fit row zero numbers (word ∷ left) f = tt
threads-fit row (suc most) numbers (word ∷ left) f =
    unless-either (FittingSoFar row) (wrong_number (code "b") word) (λ k. tt)
    (λ right. threads-fit row most (numbers ++ kept (code "b") word) left (λ low. append-under 256 numbers (kept (code "b") word) (f low) (byte-kept word right)))

-- nothing more
none-fits : (row letter : ℕ) (numbers : List ℕ) (left : List (List ℕ)) → Fitting row numbers → FittingSoFar row (read_more letter 0 numbers left)
unfolding read_more
none-fits row letter numbers [] f = f
none-fits row letter numbers (word ∷ left) f = tt

-- what a row has behind its numbers
more-fits : (row : ℕ) (numbers : List ℕ) (left : List (List ℕ)) → Fitting row numbers → FittingSoFar row (read_more (rest_letter row) (most_more (rest_letter row)) numbers left)
unfolding rest_letter most_more column grammar concat ascii up_to
more-fits row numbers left = by_row (λ row. Fitting row numbers → FittingSoFar row (read_more (rest_letter row) (most_more (rest_letter row)) numbers left))
    (none-fits 0 _ numbers left) (none-fits 1 _ numbers left) (threads-fit 2 _ numbers left) (none-fits 3 _ numbers left) (λ row high f. other_row row high (read_more (rest_letter row) (most_more (rest_letter row)) numbers left)) row

-- ---- lines
-- a row whose operation was read
parts-fit : (row : ℕ) (numbers : List ℕ) (s : Spelled) → Fitting row numbers → FittingCommand (with_parts row numbers s)
unfolding with_parts
parts-fit row numbers (misspelled reason word) f = tt
parts-fit row numbers (spelled operation) f = f

-- a row whose numbers were read
complete-fits : (row : ℕ) (p : Progress) → FittingSoFar row p → FittingCommand (complete row p)
unfolding complete
complete-fits row (stopped reason word) f = tt
complete-fits row (reached numbers left) f = f

-- what stands behind the numbers of a row
rest-fits : (row : ℕ) (p : Progress) → FittingSoFar row p → FittingCommand (read_rest row p)
unfolding read_rest
rest-fits row (stopped reason word) f = tt
rest-fits row (reached numbers left) f = by_letter (eqb (rest_letter row) (code "p")) (eqb (rest_letter row) (code "a"))
  where
    more : Progress
    more = read_more (rest_letter row) (most_more (rest_letter row)) numbers left

    by_letter : (parts any : Bool) → FittingCommand (cond parts (with_parts row numbers (read_parts left)) (cond any (asked row numbers no_operation) (complete row more)))
    by_letter true any = parts-fit row numbers (read_parts left) f
    by_letter false true = f
    by_letter false false = complete-fits row more (more-fits row numbers left f)

-- a line by its row
row_fits : (row : ℕ) (p : Progress) → FittingSoFar row p → FittingCommand (read_row row p)
unfolding read_row
row_fits row p f = rest-fits row (read_numbers (number_letters row) p) (numbers_fit row p f)

-- a row is found from the first on that is looked at
found_from : (k row : ℕ) (word : List ℕ) → row ≤ find_row k row word
unfolding find_row
found_from zero row word = omega arith
found_from (suc k) row word = by_name (is_name row word) (found_from k (suc row) word)
  where
    by_name : (named : Bool) → suc row ≤ find_row k (suc row) word → row ≤ cond named row (find_row k (suc row) word)
    by_name true later = omega arith
    by_name false later = omega arith

-- a field names no thread
field_fits : (p : Progress) → FittingCommand (read_field p)
unfolding read_field
field_fits (stopped reason word) = tt
field_fits (reached numbers []) = tt
field_fits (reached numbers (word ∷ left)) = by_name (eqb row rows)
  where
    row : ℕ
    row = find_row (rows - first_field) first_field word

    by_name : (missing : Bool) → FittingCommand (cond missing (wrong no_field word) (read_row row (reached numbers left)))
    by_name true = tt
    by_name false = row_fits row (reached numbers left) (λ low. absurd (omega (arith, found_from (rows - first_field) first_field word)))

-- a line by its words
words-fit : (l : List (List ℕ)) → FittingCommand (from_words l)
unfolding from_words
words-fit [] = tt
words-fit (word ∷ left) = by_name (eqb (get_or word 0 0) (code "#")) (eqb row first_field) (eqb row set_row)
  where
    row : ℕ
    row = find_row first_field 0 word

    fields : Command
    fields = read_field (read_numbers (number_letters row) (reached [] left))

    by_name : (comment missing sets : Bool) → FittingCommand (cond comment skipped (cond missing (wrong no_command word) (cond sets fields (read_row row (reached [] left)))))
    by_name true missing sets = tt
    by_name false true sets = tt
    by_name false false true = field_fits (read_numbers (number_letters row) (reached [] left))
    by_name false false false = row_fits row (reached [] left) (λ low. none)

-- a whole line
line-fits : (line : List ℕ) → FittingCommand (command_of line)
unfolding command_of
line-fits line = by_length (leb (length (without_return line)) line_limit)
  where
    by_length : (short : Bool) → FittingCommand (cond short (from_words (words (without_return line))) (wrong too_long []))
    by_length true = words-fit (words (without_return line))
    by_length false = tt

-- the numbers of a line that names threads are bytes
pub numbers-bytes : (line : List ℕ) (row : ℕ) (numbers : List ℕ) (operation : Operation) → command_of line ≡ asked row numbers operation → row < tick_kind → Bytes numbers
numbers-bytes line row numbers operation e = rw e at (line-fits line)
