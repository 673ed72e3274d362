-- Places of a buffer: the next record, and what is not used yet.
use Rattle.std.specs.Prelude.{◌≡◌, Bool, false, List, ℕ, ◌+◌, ◌-◌, ◌<◌, ◌≤◌, length, take, drop}
use Rattle.model.specs.RecordBytes.{longest_record}
use Rattle.model.specs.Answers.{refused}
use Rattle.model.specs.Decoding.{decode, decode_answer}
use Rattle.record_input.specs.declared.Found.{Found}
use Rattle.record_input.specs.declared.Next.{Next}
use Rattle.record_input.specs.declared.Next.TheVariants.{Over, Refused}
use Rattle.record_input.specs.declared.Next.TheVariants as next

-- the bytes of a record lie within the buffer, up to the place from which on none is used, and are not many; the record is that of the bytes from its place on
pub record Places (first : Bool) (buffer : List ℕ) (start end : ℕ) (found : Found) : Type 0 where
  pub own : found.start + found.length ≤ length buffer
  pub some : 0 < found.length
  pub few : found.length ≤ longest_record
  pub rest : start ≡ found.start + found.length
  pub item : found.item ≡ decode first (take (end - found.start) (drop found.start buffer))

-- what comes next, where the bytes from start to end are those that are not used yet: the end, past the first record and where there are none; a record, which is used; or what reading refuses
abbrev pub Comes : Bool → List ℕ → ℕ → ℕ → Next → Type 0
Comes first buffer start end Over = (first ≡ false) × (start ≡ end)
Comes first buffer start end (next.Found found) = Places first buffer start end found
Comes first buffer start end (Refused number) = refused number ≡ decode_answer first (take (end - start) (drop start buffer))
