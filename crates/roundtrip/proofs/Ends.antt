-- How reading ends, from any byte of an input on.
use mathlib.Core.Path.{◌≡◌, refl, sym, ap, ◌∙◌, subst}
use mathlib.Core.Logic.{◌⊎◌, inl, inr}
use mathlib.Core.Bool.{true≢false, Bool, true, false}
use mathlib.Core.Option.{Option, none, some}
use mathlib.Core.List.{List, [], ◌∷◌, ◌++◌, append_assoc}
use Prim.Native.Nat.{ℕ, zero, suc, ◌+◌, ◌<◌}
use native.Mathlib.Omega.{arith}
use lib.ListN.{length, drop, length-append}
use Rattle.model.specs.declared.Record.{Record}
use Rattle.model.specs.Lists.{concat}
use Rattle.model.specs.Decoding.{front, record_of}
use Rattle.model.specs.RecordBytes.{lawful}
use Rattle.model.specs.Schedule.{AllLawful, Fault, Reading, read_from, encode_all}
use Rattle.model.specs.Encoding.{encode, lawful_record}
use Rattle.model.proofs.Laws.{by}
use Rattle.laws.proofs.Schedule.{front-and-behind}
use Rattle.roundtrip.specs.Fits.{Bytes, AllFit}
use Rattle.roundtrip.specs.WholeSchedule.{LawfulSoFar, told}
use Rattle.roundtrip.proofs.Lists.{drop-under}
use Rattle.roundtrip.proofs.Records.{front_bytes, record_written, record_lawful, record_fits}
use Rattle.roundtrip.proofs.Reading.{at_end, reads_none, reads-fault, later, reads-one, enough}

-- the fault of what is no lawful record
abbrev pub fault_at : ℕ → Option Fault
fault_at place = some (record { number = 12; place = place })

-- with no fault nothing is left
pub record Finished (first : Bool) (rest : List ℕ) (reading : Reading) : Type 0 where
  pub no_fault : reading.fault ≡ none
  pub nothing : rest ≡ []
  pub begun : told first reading.records ≡ false

-- with a fault, what is left does not start with a lawful record
pub record Faulty (first : Bool) (place : ℕ) (rest : List ℕ) (reading : Reading) : Type 0 where
  pub fault : reading.fault ≡ fault_at (place + length (encode_all reading.records))
  pub unlawful : lawful (told first reading.records) (front rest) ≡ false
  pub left : told first reading.records ≡ false → 0 < length rest

-- reading from byte `place` on took lawful records, and ended in one of the two ways
pub record Ends (first : Bool) (place : ℕ) (input : List ℕ) (reading : Reading) : Type 0 where
  pub rest : List ℕ
  pub whole : input ≡ encode_all reading.records ++ rest
  pub lawfully : LawfulSoFar first reading.records
  pub fits : AllFit reading.records
  pub end : Finished first rest reading ⊎ Faulty first place rest reading

-- at the end of the input
ends_there : (first : Bool) (place : ℕ) (input : List ℕ) → at_end first input ≡ true → Ends first place input (record { records = []; fault = none })
unfolding encode_all concat
ends_there true place input e = absurd (true≢false (sym e))
ends_there false place [] e = record { rest = []; whole = refl; lawfully = tt; fits = tt; end = inl (record { no_fault = refl; nothing = refl; begun = refl }) }
ends_there false place (a ∷ l) e = absurd (true≢false (sym e))

-- at what is no lawful record
ends-at-fault : (first : Bool) (place : ℕ) (input : List ℕ) → at_end first input ≡ false → lawful first (front input) ≡ false
    → Ends first place input (record { records = []; fault = fault_at place })
unfolding encode_all concat
ends-at-fault first place input e f =
    record { rest = input; whole = refl; lawfully = tt; fits = tt; end = inr (record { fault = ap fault_at (omega arith); unlawful = f; left = more first input e }) }
  where
    more : (first : Bool) (input : List ℕ) → at_end first input ≡ false → first ≡ false → 0 < length input
    more true input e d = absurd (true≢false d)
    more false [] e d = absurd (true≢false e)
    more false (a ∷ l) e d = omega arith

-- where the first is told otherwise, all behind it are
told_otherwise : (records : List Record) → told false records ≡ false
told_otherwise [] = refl
told_otherwise (r ∷ records) = refl

-- records that are lawful so far are lawful where there is one
pub lawful-all : (first : Bool) (records : List Record) → LawfulSoFar first records → told first records ≡ false → AllLawful lawful_record first records
lawful-all first [] rules e = e
lawful-all first (r ∷ records) rules e = rules

-- past a lawful record
module _ (first : Bool) (place : ℕ) (input : List ℕ) (u : Bytes input) (rules : lawful first (front input) ≡ true) (reading : Reading)
    (ends : Ends false (place + length (front input)) (drop (length (front input)) input) reading) where
  -- the record is written as the bytes that were read
  written : encode (record_of (front input)) ≡ front input
  written = record_written first (front input) rules (front_bytes input u)

  -- one record more
  abbrev more : Reading
  more = record { records = record_of (front input) ∷ reading.records; fault = reading.fault }

  -- it takes so many bytes
  more-length : place + length (front input) + length (encode_all reading.records) ≡ place + length (encode_all more.records)
  unfolding encode_all concat
  more-length = rw (length-append, written) (omega arith)

  -- and stands at the front
  more-whole : input ≡ encode_all more.records ++ ends.rest
  unfolding encode_all concat
  more-whole = sym (append_assoc (encode (record_of (front input))) (encode_all reading.records) ends.rest
      ∙ rw written (rw (← ends.whole) (front-and-behind input)))

  -- reading ends as it does there
  ends-past : Ends first place input more
  ends-past = record {
    rest = ends.rest;
    whole = more-whole;
    lawfully = (record_lawful first (front input) rules (front_bytes input u), lawful-all false reading.records ends.lawfully (told_otherwise reading.records));
    fits = (record_fits first (front input) rules (front_bytes input u), ends.fits);
    end = past ends.end;
  }
    where
      past : Finished false ends.rest reading ⊎ Faulty false (place + length (front input)) ends.rest reading → Finished first ends.rest more ⊎ Faulty first place ends.rest more
      past (inl f) = inl (record { no_fault = f.no_fault; nothing = f.nothing; begun = refl })
      past (inr f) = inr (record {
        fault = f.fault ∙ ap fault_at more-length;
        unlawful = rw (told_otherwise reading.records) at f.unlawful;
        left = λ e. f.left (told_otherwise reading.records);
      })

-- reading ends in one of the two ways, where enough records are allowed for
pub reading_ends : (most : ℕ) (first : Bool) (place : ℕ) (input : List ℕ) → length input < most → Bytes input → Ends first place input (read_from most first place input)
reading_ends zero first place input h u = absurd (omega arith)
reading_ends (suc most) first place input h u =
    by (at_end first input)
    (λ e. subst (Ends first place input) (sym (reads_none most first place input e)) (ends_there first place input e))
    (λ e. by (lawful first (front input))
    (λ rules. subst (Ends first place input) (sym (reads-one most first place input rules)) (ends-past first place input u rules (later most first place input)
    (reading_ends most false (place + length (front input)) (drop (length (front input)) input) (enough most first place input rules h) (drop-under 256 (length (front input)) input u))))
    (λ f. subst (Ends first place input) (sym (reads-fault most first place input e f)) (ends-at-fault first place input e f)))
