-- The text of schedules: what is lawful survives being printed and read, and what is read from any text is lawful.
use Rattle.std.specs.Prelude.{◌≡◌, ◌⊎◌, Bool, true, List, [], ◌∷◌, ℕ}
use Rattle.std.proofs.Math.Option.{none, some}
use Rattle.model.specs.declared.Record.{Record}
use Rattle.model.specs.Encoding.{lawful_record}
use Rattle.model.specs.Schedule.{LawfulRecords, LawfulSchedule}
use Rattle.roundtrip.specs.Fits.{Bytes, FitsRecord, AllFit}
use Rattle.roundtrip.specs.WholeSchedule.{LawfulSoFar}
use Rattle.language.specs.Commands.{command_of}
use Rattle.language.specs.RecordText.{record_line, records_of}
use Rattle.language.specs.ScheduleText.{records_text, totext, read_text, tobytes}

-- the line of a lawful record is read back as that record
abbrev pub RecordRespelled : Type 0
RecordRespelled = (first : Bool) (r : Record) → FitsRecord r → lawful_record first r ≡ true → records_of first (command_of (record_line r)) ≡ some (r ∷ [])

-- the text of a lawful schedule is read back as its records, with no wrong line
abbrev pub ScheduleRespelled : Type 0
ScheduleRespelled = (records : List Record) → AllFit records → LawfulRecords records → read_text (records_text records) ≡ record { records = records; wrong_line = none }

-- bytes are printed as a text without a wrong line that is turned into the same bytes
pub record TurnsBack (bytes : List ℕ) : Type 0 where
  pub same : tobytes (totext bytes) ≡ bytes
  pub no_wrong_line : (read_text (totext bytes)).wrong_line ≡ none

-- "What `totext` prints for a lawful schedule, `tobytes` turns into the same bytes"
abbrev pub BytesRespelled : Type 0
BytesRespelled = (bytes : List ℕ) → Bytes bytes → LawfulSchedule bytes → TurnsBack bytes

-- the records that are read from any text are lawful as far as they go
abbrev pub LawfulWritten : Type 0
LawfulWritten = (text : List ℕ) → LawfulSoFar true (read_text text).records

-- so the bytes that are written for any text are none, or those of a lawful schedule
abbrev pub LawfulBytesWritten : Type 0
LawfulBytesWritten = (text : List ℕ) → (tobytes text ≡ []) ⊎ LawfulSchedule (tobytes text)
