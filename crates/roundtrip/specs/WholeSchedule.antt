-- Demand 2, whole schedules: lawful ones survive reading and writing, and any other stops reading at its first unlawful record.
use Rattle.std.specs.Prelude.{◌≡◌, ◌⊎◌, ◌↔◌, Bool, true, false, List, [], ◌∷◌, ◌++◌, ℕ, ◌<◌, length}
use Rattle.std.proofs.Math.Option.{none, some}
use Rattle.model.specs.declared.Record.{Record}
use Rattle.model.specs.Decoding.{front}
use Rattle.model.specs.RecordBytes.{lawful}
use Rattle.model.specs.Encoding.{lawful_record}
use Rattle.model.specs.Schedule.{AllLawful, LawfulRecords, LawfulSchedule, Reading, encode_all, decode_all}
use Rattle.roundtrip.specs.Fits.{Bytes, AllFit}

-- ---- lawful schedules
-- records are written as lawful bytes, and read back with no fault
pub record ReadsBack (records : List Record) : Type 0 where
  pub reads : decode_all (encode_all records) ≡ record { records = records; fault = none }
  pub lawfully : LawfulSchedule (encode_all records)

-- so are the records of every lawful schedule
abbrev pub ScheduleReadWritten : Type 0
ScheduleReadWritten = (records : List Record) → AllFit records → LawfulRecords records → ReadsBack records

-- reading found no fault: the records read are lawful, and are written as the bytes that were read
pub record Complete (bytes : List ℕ) (reading : Reading) : Type 0 where
  pub no_fault : reading.fault ≡ none
  pub writes : encode_all reading.records ≡ bytes
  pub lawfully : LawfulRecords reading.records
  pub fits : AllFit reading.records

-- so are the bytes of every lawful schedule read
abbrev pub ScheduleWrittenRead : Type 0
ScheduleWrittenRead = (bytes : List ℕ) → Bytes bytes → LawfulSchedule bytes → Complete bytes (decode_all bytes)

-- what is written of records are bytes
abbrev pub ScheduleBytes : Type 0
ScheduleBytes = (records : List Record) → AllFit records → Bytes (encode_all records)

-- ---- any bytes
-- records in a row that are lawful, the first of them told whether it is the first; there may be none
abbrev pub LawfulSoFar : Bool → List Record → Type 0
LawfulSoFar first [] = Unit {0}
LawfulSoFar first (r ∷ rest) = AllLawful lawful_record first (r ∷ rest)

-- what a record behind these is told: that it is the first where there are none
abbrev pub told : Bool → List Record → Bool
told first [] = first
told first (r ∷ rest) = false

-- reading stopped: behind the lawful records that were read stands what is no lawful record, and the fault is 12 at its first byte
pub record Stopped (bytes : List ℕ) (reading : Reading) : Type 0 where
  pub rest : List ℕ
  pub whole : bytes ≡ encode_all reading.records ++ rest
  pub fault : reading.fault ≡ some (record { number = 12; place = length (encode_all reading.records) })
  pub lawfully : LawfulSoFar true reading.records
  pub fits : AllFit reading.records
  pub unlawful : lawful (told true reading.records) (front rest) ≡ false
  pub left : told true reading.records ≡ false → 0 < length rest

-- reading ends in one of the two ways, and in one only
pub record OneEnd (bytes : List ℕ) (reading : Reading) : Type 0 where
  pub ends : Complete bytes reading ⊎ Stopped bytes reading
  pub once : Complete bytes reading → Stopped bytes reading → ⊥

-- so it does for any bytes
abbrev pub ReadingEnds : Type 0
ReadingEnds = (bytes : List ℕ) → Bytes bytes → OneEnd bytes (decode_all bytes)

-- there is no fault in lawful schedules, and in no other
abbrev pub FaultTells : Type 0
FaultTells = (bytes : List ℕ) → Bytes bytes → ((decode_all bytes).fault ≡ none) ↔ LawfulSchedule bytes
