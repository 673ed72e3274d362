-- What is found of a word that stands where the grammar has a letter.
use Rattle.std.specs.Prelude.{◌≡◌, List, ℕ, Result, Ok, Err}
use Rattle.language.specs.Words.{value}
use Rattle.language.specs.Commands.{no_command, no_field, no_part, missing, not_number, too_large, too_small, too_much, too_long, not_record, table_first, no_choice, rows_full, log_full, wrong_digits}
use Rattle.letters.specs.declared.Reason.{Reason}
use Rattle.letters.specs.declared.Reason.TheVariants.{NoCommand, NoField, NoPart, Missing, NotNumber, TooLarge, TooSmall, TooMuch, TooLong, NotRecord, TableFirst, NoChoice, RowsFull, LogFull}

-- the number of a reason, by which the language names it
abbrev pub number_of : Reason → ℕ
number_of NoCommand = no_command
number_of NoField = no_field
number_of NoPart = no_part
number_of Missing = missing
number_of NotNumber = not_number
number_of TooLarge = too_large
number_of TooSmall = too_small
number_of TooMuch = too_much
number_of TooLong = too_long
number_of NotRecord = not_record
number_of TableFirst = table_first
number_of NoChoice = no_choice
number_of RowsFull = rows_full
number_of LogFull = log_full

-- digits are such a number, and which, or why they are none
abbrev pub Measured : ℕ → List ℕ → Result ℕ Reason → Type 0
Measured letter digits (Ok number) = (wrong_digits letter digits ≡ 0) × (number ≡ value digits)
Measured letter digits (Err reason) = wrong_digits letter digits ≡ number_of reason
