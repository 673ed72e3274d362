-- What reading a record promises, where it is refused and where it is accepted.
use mathlib.Core.Path.{◌≡◌, refl}
use mathlib.Core.Bool.{Bool, true, false}
use mathlib.Core.List.{List}
use Prim.Native.Nat.{ℕ}
use Rattle.model.specs.declared.Answer.TheVariants.{Refused, Accepted}
use Rattle.model.specs.declared.Record.{Record}
use Rattle.model.specs.Threads.{no_operation}
use Rattle.model.specs.Refusals.{unless}
use Rattle.model.specs.RecordBytes.{is_begin, kind_byte, thread_byte, lawful}
use Rattle.model.specs.Decoding.{operation_by, record_of, front, decode_answer, decode, DecodePromise}
use Rattle.laws.proofs.Schedule.{no-begin, no-set, front-kind, front-thread}
use Rattle.laws.proofs.Records.{read-accepted, read-refused}
use Rattle.reading.proofs.Fronts.{front-operation}

-- the record at the front of bytes
pub front_read : (bytes : List ℕ) → record { kind = kind_byte bytes; thread = thread_byte bytes; op = operation_by (kind_byte bytes) bytes } ≡ record_of (front bytes)
unfolding record_of
front_read bytes = rw (front-kind bytes, front-thread bytes, front-operation bytes) refl

-- it has no operation where they start with no begin
pub bare-read : (bytes : List ℕ) → is_begin (kind_byte bytes) ≡ false → record { kind = kind_byte bytes; thread = thread_byte bytes; op = no_operation } ≡ record_of (front bytes)
unfolding operation_by
bare-read bytes d = rw (no-begin (kind_byte bytes) d, no-set (kind_byte bytes) d) at (front_read bytes)

module _ (first : Bool) (bytes : List ℕ) where
  -- reading bytes that start with no lawful record is refused
  pub refused-read : (item : Record) → lawful first (front bytes) ≡ false → item ≡ record { kind = 0; thread = 0; op = no_operation } → DecodePromise first bytes (Refused 12) item
  unfolding decode_answer decode unless
  refused-read item e i = record { answers = rw (read-refused first bytes e) refl; reads = rw (read-refused first bytes e) i }

  -- reading a lawful one is accepted
  pub accepted-read : (item : Record) → lawful first (front bytes) ≡ true → item ≡ record_of (front bytes) → DecodePromise first bytes Accepted item
  unfolding decode_answer decode unless
  accepted-read item e i = record { answers = rw (read-accepted first bytes e) refl; reads = rw (read-accepted first bytes e) i }
