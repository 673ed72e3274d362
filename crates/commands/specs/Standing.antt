-- What the structs of this crate stand for, and what its functions promise of them.
use Rattle.std.specs.Prelude.{◌≡◌, cond, List, [], ◌++◌, ℕ, ◌≤◌, eqb, length, take, drop, Option, Some, None, Result, Ok, Err}
use Rattle.model.specs.declared.Operation.{Operation}
use Rattle.model.specs.Refusals.{unless}
use Rattle.language.specs.Words.{words}
use Rattle.language.specs.Grammar.{most_numbers, first_field, set_row, find_row, number_letters}
use Rattle.language.specs.Commands.{digits_of, wrong_number, kept, Progress, stopped, reached, read_numbers, read_more, Spelled, misspelled, spelled, Command, skipped, wrong, asked, read_row, read_field, no_command}
use Rattle.scanning.specs.Scanned.{between}
use Rattle.scanning.specs.declared.Span.{Span}
use Rattle.letters.specs.Measured.{Measured, number_of}
use Rattle.commands.specs.declared.Misread.{Misread}
use Rattle.commands.specs.declared.Asked.{Asked}
use Rattle.commands.specs.declared.cursors.Cursor.{Cursor}

-- ---- what the structs stand for
-- how far a line is read
abbrev pub progress : List ℕ → List ℕ → Cursor → Progress
progress line numbers cursor = reached (take cursor.count numbers) (words (drop cursor.at line))

-- the command that a row is, with its numbers and its operation
abbrev pub meant : List ℕ → Asked → Command
meant numbers a = asked a.row (take a.count numbers) a.op

-- ---- room for numbers, two for each that is read: its sign and its value
-- for those of a row
abbrev pub row_room : ℕ
row_room = 14

-- for those that may follow
abbrev pub rest_room : ℕ
rest_room = 4096

-- for a line: more than twice those of a row, since `set` reads two rows, and those that may follow
abbrev pub line_room : ℕ
line_room = 4128

-- ---- promises
-- two places in order, within a line
pub record Placed (line : List ℕ) (start end : ℕ) : Type 0 where
  pub ordered : start ≤ end
  pub within : end ≤ length line

-- the word that is wrong lies within the line, and the refusal with its reason is what the line comes to
pub record Refuses {A : Type 0} (line : List ℕ) (refusal : ℕ → List ℕ → A) (a : A) (m : Misread) : Type 0 where
  pub word : Placed line m.word.start m.word.end
  pub means : refusal (number_of m.reason) (between m.word.start m.word.end line) ≡ a

-- a word is a number of its letter, or it is why it is none
abbrev pub Valued : ℕ → List ℕ → Span → Result ℕ Misread → Type 0
Valued letter line word (Ok value) = Measured letter (digits_of letter (between word.start word.end line)) (Ok value)
Valued letter line word (Err m) = (m.word ≡ word) × Measured letter (digits_of letter (between word.start word.end line)) (Err m.reason)

-- a cursor stands within the line and for some progress, and counts at most so many numbers
pub record Reaches (line numbers : List ℕ) (p : Progress) (most : ℕ) (cursor : Cursor) : Type 0 where
  pub behind : cursor.at ≤ length line
  pub few : cursor.count ≤ most
  pub means : progress line numbers cursor ≡ p

-- reading went on, or stopped
abbrev pub Advanced : List ℕ → List ℕ → Progress → ℕ → Result Cursor Misread → Type 0
Advanced line numbers p most (Ok cursor) = Reaches line numbers p most cursor
Advanced line numbers p most (Err m) = Refuses line stopped p m

-- an operation is what words spell, or they spell none
abbrev pub Spells : List ℕ → Spelled → Result Operation Misread → Type 0
Spells line s (Ok op) = spelled op ≡ s
Spells line s (Err m) = Refuses line misspelled s m

-- a row is the command that a line is; its numbers lie within the slice
pub record Asks (numbers : List ℕ) (c : Command) (a : Asked) : Type 0 where
  pub few : a.count ≤ length numbers
  pub means : meant numbers a ≡ c

-- a line asks for a row, or is no command
abbrev pub Demands : List ℕ → List ℕ → Command → Result Asked Misread → Type 0
Demands line numbers c (Ok a) = Asks numbers c a
Demands line numbers c (Err m) = Refuses line wrong c m

-- or it is skipped
abbrev pub Parses : List ℕ → List ℕ → Command → Result (Option Asked) Misread → Type 0
Parses line numbers c (Ok None) = skipped ≡ c
Parses line numbers c (Ok (Some a)) = Asks numbers c a
Parses line numbers c (Err m) = Refuses line wrong c m

-- these are the letters of a row's numbers
pub record Letters (row : ℕ) (letters : List ℕ) : Type 0 where
  pub few : length letters ≤ most_numbers
  pub are : letters ≡ number_letters row

-- a word read as one number more
unfoldable pub one_more : ℕ → List ℕ → List ℕ → List (List ℕ) → Progress
one_more letter numbers word left = unless (wrong_number letter word) (λ reason. stopped reason word) (reached (numbers ++ kept letter word) left)

-- more numbers, where reading did not stop
unfoldable pub read_on : ℕ → ℕ → Progress → Progress
read_on letter most (stopped reason word) = stopped reason word
read_on letter most (reached numbers left) = read_more letter most numbers left

-- ---- what a line comes to
-- a line by its first word and those behind it
unfoldable pub from_first : List ℕ → List (List ℕ) → Command
from_first word left =
    let row = find_row first_field 0 word in
    cond (eqb row first_field) (wrong no_command word)
    (cond (eqb row set_row) (read_field (read_numbers (number_letters row) (reached [] left)))
    (read_row row (reached [] left)))
