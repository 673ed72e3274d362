-- Document 01, "Schedule bytes": a whole schedule, as bytes and as records.
use Rattle.std.specs.Prelude.{Bool, true, false, not, cond, ◌&&◌, List, [], ◌∷◌, map, ◌≡◌, ℕ, zero, suc, ◌+◌, drop, length}
use Rattle.std.proofs.Math.Option.{Option, none, some}
use Rattle.model.specs.declared.Record.{Record}
use Rattle.model.specs.RecordBytes.{lawful}
use Rattle.model.specs.Decoding.{record_of, front, decode_refusal}
use Rattle.model.specs.Encoding.{encode, lawful_record}
use Rattle.model.specs.Refusals.{unless}
use Rattle.model.specs.Lists.{concat}

-- records in a row that pass a test, the first of them told that it is the first; "a lawful schedule has at least its table record"
abbrev pub AllLawful : {A : Type 0} → (Bool → A → Bool) → Bool → List A → Type 0
AllLawful test first [] = first ≡ false
AllLawful test first (r ∷ rest) = (test first r ≡ true) × AllLawful test false rest

-- the bytes of a lawful schedule
pub record LawfulSchedule (bytes : List ℕ) : Type 0 where
  pub records : List (List ℕ)
  pub whole : bytes ≡ concat records
  pub lawfully : AllLawful lawful true records

-- the records of a lawful schedule
abbrev pub LawfulRecords : List Record → Type 0
LawfulRecords records = AllLawful lawful_record true records

-- a record that is refused, by its number and "byte where that record starts"
pub record Fault : Type 0 where
  pub number : ℕ
  pub place : ℕ

-- the records read, and the fault at which reading stopped
pub record Reading : Type 0 where
  pub records : List Record
  pub fault : Option Fault

-- no byte is left
abbrev pub is_empty : List ℕ → Bool
is_empty [] = true
is_empty (a ∷ l) = false

-- reading goes on from byte `place`; `most` bounds the records that are left
unfoldable pub read_from : ℕ → Bool → ℕ → List ℕ → Reading
read_from zero first place input = record { records = []; fault = none }
read_from (suc most) first place input =
    let bytes = front input in
    let later = read_from most false (place + length bytes) (drop (length bytes) input) in
    let read : Reading = record { records = record_of bytes ∷ later.records; fault = later.fault } in
    cond (not first && is_empty input) (record { records = []; fault = none })
    (unless (decode_refusal first input) (λ g. record { records = []; fault = some (record { number = g; place = place }) }) read)

-- a whole schedule read
unfoldable pub decode_all : List ℕ → Reading
decode_all input = read_from (suc (length input)) true 0 input

-- a whole schedule written
unfoldable pub encode_all : List Record → List ℕ
encode_all records = concat (map encode records)
