-- Demand 2, whole schedules: the proofs.
use mathlib.Core.Path.{◌≡◌, refl, sym, ap, ◌∙◌}
use mathlib.Core.Logic.{◌⊎◌, inl, inr}
use mathlib.Core.Bool.{Bool, true, false}
use mathlib.Core.Option.{none, none-ne-some}
use mathlib.Core.List.{List, [], ◌∷◌, map, append-nil}
use Prim.Native.Nat.{ℕ, suc}
use native.Mathlib.Omega.{arith}
use lib.ListN.{length}
use Rattle.model.specs.declared.Record.{Record}
use Rattle.model.specs.Lists.{concat}
use Rattle.model.specs.RecordBytes.{lawful}
use Rattle.model.specs.Encoding.{lawful_record, encode}
use Rattle.model.specs.Schedule.{AllLawful, LawfulRecords, LawfulSchedule, Reading, encode_all, decode_all}
use Rattle.model.specs.Decoding.{record_of}
use Rattle.roundtrip.specs.Fits.{AllFit}
use Rattle.roundtrip.specs.WholeSchedule.{ScheduleReadWritten, Complete, ScheduleWrittenRead, ScheduleBytes, Stopped, ReadingEnds, FaultTells}
use Rattle.roundtrip.proofs.Lists.{append-under, nil-under}
use Rattle.roundtrip.proofs.Records.{bytes-lawful, record_read}
use Rattle.roundtrip.proofs.OneRecord.{record_bytes}
use Rattle.roundtrip.proofs.Reading.{reads-lawful}
use Rattle.roundtrip.proofs.Ends.{Finished, Faulty, Ends, fault_at, lawful-all, reading_ends}

-- ---- lawful schedules
-- lawful records have lawful bytes
all-bytes-lawful : (first : Bool) (records : List Record) → AllLawful lawful_record first records → AllLawful lawful first (map encode records)
all-bytes-lawful first [] rules = rules
all-bytes-lawful first (r ∷ records) rules = (bytes-lawful first r rules.0, all-bytes-lawful false records rules.1)

-- and are read from them
all_read : (first : Bool) (records : List Record) → AllFit records → AllLawful lawful_record first records → map record_of (map encode records) ≡ records
all_read first [] fits rules = refl
all_read first (r ∷ records) fits rules = λ i. record_read first r rules.0 fits.0 i ∷ all_read false records fits.1 rules.1 i

-- records of a lawful schedule are written as one
pub schedule-lawful : (records : List Record) → LawfulRecords records → LawfulSchedule (encode_all records)
unfolding encode_all
schedule-lawful records rules = record { records = map encode records; whole = refl; lawfully = all-bytes-lawful true records rules }

-- the bytes of a lawful schedule are read to the end
schedule-read : (bytes : List ℕ) (s : LawfulSchedule bytes) → decode_all bytes ≡ record { records = map record_of s.records; fault = none }
unfolding decode_all
schedule-read bytes s = rw s.whole (reads-lawful s.records _ true 0 (omega arith) s.lawfully)

-- the records of a lawful schedule are read back
pub schedule-read-written : ScheduleReadWritten
unfolding schedule-lawful
schedule-read-written records fits rules = record {
  reads = schedule-read (encode_all records) (schedule-lawful records rules) ∙ ap {B = Reading} (λ (l : List Record). record { records = l; fault = none }) (all_read true records fits rules);
  lawfully = schedule-lawful records rules;
}

-- what is written of records are bytes
pub schedule-bytes : ScheduleBytes
unfolding encode_all concat
schedule-bytes [] fits = nil-under 256 (omega arith)
schedule-bytes (r ∷ records) fits = append-under 256 (encode r) (encode_all records) (record_bytes r fits.0) (schedule-bytes records fits.1)

-- ---- any bytes
-- a reading that stopped has a fault
has-fault : (bytes : List ℕ) (reading : Reading) → Stopped bytes reading → reading.fault ≡ none → ⊥
has-fault bytes reading s e = none-ne-some _ (sym e ∙ s.fault)

-- reading ends in one of the two ways
pub schedule-ends : ReadingEnds
unfolding decode_all
schedule-ends bytes u = record { ends = ending e.end; once = λ c s. has-fault bytes (decode_all bytes) s c.no_fault }
  where
    e : Ends true 0 bytes (decode_all bytes)
    e = reading_ends (suc (length bytes)) true 0 bytes (omega arith) u

    ending : Finished true e.rest (decode_all bytes) ⊎ Faulty true 0 e.rest (decode_all bytes) → Complete bytes (decode_all bytes) ⊎ Stopped bytes (decode_all bytes)
    ending (inl f) = inl (record {
      no_fault = f.no_fault;
      writes = sym (e.whole ∙ rw f.nothing (append-nil (encode_all (decode_all bytes).records)));
      lawfully = lawful-all true (decode_all bytes).records e.lawfully f.begun;
      fits = e.fits;
    })
    ending (inr f) = inr (record {
      rest = e.rest;
      whole = e.whole;
      fault = f.fault ∙ ap fault_at (omega arith);
      lawfully = e.lawfully;
      fits = e.fits;
      unlawful = f.unlawful;
      left = f.left;
    })

-- there is no fault in lawful schedules, and in no other
pub fault-tells : FaultTells
fault-tells bytes u = (λ e. whole e (schedule-ends bytes u).ends, λ s. ap (λ (reading : Reading). reading.fault) (schedule-read bytes s))
  where
    whole : (decode_all bytes).fault ≡ none → Complete bytes (decode_all bytes) ⊎ Stopped bytes (decode_all bytes) → LawfulSchedule bytes
    whole e (inl c) = rw c.writes at (schedule-lawful (decode_all bytes).records c.lawfully)
    whole e (inr s) = absurd (has-fault bytes (decode_all bytes) s e)

-- the bytes of a lawful schedule are written back
pub schedule-written-read : ScheduleWrittenRead
schedule-written-read bytes u s = complete (schedule-ends bytes u).ends
  where
    complete : Complete bytes (decode_all bytes) ⊎ Stopped bytes (decode_all bytes) → Complete bytes (decode_all bytes)
    complete (inl c) = c
    complete (inr t) = absurd (has-fault bytes (decode_all bytes) t ((fault-tells bytes u).1 s))
