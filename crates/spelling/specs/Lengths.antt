-- How long the line of a record is at most.
use Rattle.std.specs.Prelude.{ℕ, ◌≤◌, length}
use Rattle.model.specs.declared.Record.{Record}
use Rattle.roundtrip.specs.Fits.{FitsRecord}
use Rattle.language.specs.RecordText.{record_line}

-- the bytes that the line of a record takes at most: 255 words of at most eleven bytes each, and what else stands there
abbrev pub longest_line : ℕ
longest_line = 2900

-- no line is longer
abbrev pub LineShort : Type 0
LineShort = (r : Record) → FitsRecord r → length (record_line r) ≤ longest_line
