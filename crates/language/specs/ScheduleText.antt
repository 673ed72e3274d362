-- A whole schedule as text: what programs `totext` and `tobytes` make of their input.
use Rattle.std.specs.Prelude.{Bool, true, false, List, [], ◌∷◌, ◌++◌, map, ℕ, suc}
use Rattle.std.proofs.Math.Option.{Option, none, some}
use Rattle.model.specs.declared.Record.{Record}
use Rattle.model.specs.Lists.{concat}
use Rattle.model.specs.Schedule.{Fault, decode_all, encode_all}
use Rattle.model.specs.Bondtrace.{bad_line}
use Rattle.language.specs.Words.{lines}
use Rattle.language.specs.Commands.{command_of}
use Rattle.language.specs.RecordText.{record_text, records_of}

-- ---- bytes to text
-- the lines of records
unfoldable pub records_text : List Record → List ℕ
records_text records = concat (map record_text records)

-- "and then `bad 12 at BYTE`"
unfoldable pub fault_text : Option Fault → List ℕ
fault_text none = []
fault_text (some fault) = bad_line fault.number fault.place

-- "where a record is unlawful or cut short it prints the lines before it and then" that
unfoldable pub totext : List ℕ → List ℕ
totext bytes = let reading = decode_all bytes in records_text reading.records ++ fault_text reading.fault

-- ---- text to bytes
-- the records up to the first line that is none of a schedule, and that line's number
pub record TextRead : Type 0 where
  pub records : List Record
  pub wrong_line : Option ℕ

-- what the next record is told: that it is the first, where there was none before it
unfoldable pub first_after : Bool → Option (List Record) → Bool
first_after first none = first
first_after first (some []) = first
first_after first (some (r ∷ later)) = false

-- the records of line n before those of the later lines; "at the first line that is no record it writes nothing more"
unfoldable pub read_then : ℕ → Option (List Record) → TextRead → TextRead
read_then n none later = record { records = []; wrong_line = some n }
read_then n (some records) later = record { records = records ++ later.records; wrong_line = later.wrong_line }

-- the lines from line n on
unfoldable pub read_lines : Bool → ℕ → List (List ℕ) → TextRead
read_lines first n [] = record { records = []; wrong_line = none }
read_lines first n (line ∷ later) = let records = records_of first (command_of line) in read_then n records (read_lines (first_after first records) (suc n) later)

-- a whole text; "lines counted from 1, skipped ones too"
unfoldable pub read_text : List ℕ → TextRead
read_text text = read_lines true 1 (lines text)

-- the bytes that are written
unfoldable pub tobytes : List ℕ → List ℕ
tobytes text = encode_all (read_text text).records
