-- Demand 2, record by record: the proofs.
use mathlib.Core.Path.{◌≡◌, refl, sym, ap, ◌∙◌}
use mathlib.Core.Logic.{◌⊎◌, inl, inr}
use mathlib.Core.Bool.{Bool, true, false, and-false}
use mathlib.Core.List.{List, ◌++◌}
use Prim.Native.Nat.{ℕ, zero, suc, ◌≤◌, ◌<◌}
use native.Mathlib.Omega.{arith}
use lib.ListN.{length, drop, length-append, length-drop}
use lib.Dec.{leb}
use borrow.Author.Tests.{leb-true, leb-false, le-leb, lt-leb}
use Rattle.model.specs.declared.Record.{Record}
use Rattle.model.specs.Answers.{accepted, refused, replied}
use Rattle.model.specs.Refusals.{unless}
use Rattle.model.specs.RecordBytes.{is_begin, lawful}
use Rattle.model.specs.Decoding.{front, record_of, decode_answer, decode}
use Rattle.model.specs.Encoding.{encode, lawful_record, encode_refusal, encode_answer, encode_buffer}
use Rattle.model.proofs.Laws.{by, and-made}
use Rattle.laws.proofs.Records.{read-accepted, read-refused, writable, write-accepted, write-refused}
use Rattle.roundtrip.specs.Fits.{Bytes}
use Rattle.roundtrip.specs.OneRecord.{Reads, ReadWritten, WrittenRead, ReadingRefused, Writes, RecordWritten, WritingRefused, BytesWritten, WriteThenRead, ReadThenWrite}
use Rattle.roundtrip.proofs.Operations.{operation-bytes}
use Rattle.roundtrip.proofs.Records.{front_bytes, front-lawful, record_written, record_lawful, record_fits, bytes-lawful, record_read}

-- ---- reading
module _ (first : Bool) (input : List ℕ) where
  -- what reading answers and gives where it is not refused
  reads-front : lawful first (front input) ≡ true → (r : Record) → record_of (front input) ≡ r → front input ≡ encode r → Reads first input r
  unfolding decode_answer decode unless
  reads-front e r item takes = record { answers = rw (read-accepted first input e) refl; item = rw (read-accepted first input e) item; takes = takes }

-- a lawful record is read back from its bytes
pub read-written : ReadWritten
read-written first r rest fits rules =
    let bytes = bytes-lawful first r rules in
    let at_front : front (encode r ++ rest) ≡ encode r = front-lawful first (encode r) bytes rest in
    reads-front first (encode r ++ rest) (rw at_front bytes) r (rw at_front (record_read first r rules fits)) at_front

-- lawful bytes are written back from their record
pub written_read : WrittenRead
written_read first input u rules =
    let small : Bytes (front input) = front_bytes input u in
    record {
      reads = reads-front first input rules _ refl (sym (record_written first (front input) rules small));
      lawfully = record_lawful first (front input) rules small;
      fits = record_fits first (front input) rules small;
    }

-- all else is refused in reading
pub reading_refused : ReadingRefused
unfolding decode_answer decode unless
reading_refused first input e = record { answers = rw (read-refused first input e) refl; item = rw (read-refused first input e) refl }

-- ---- writing
-- what is written of a record are bytes
pub record_bytes : BytesWritten
unfolding encode
record_bytes r fits zero = omega arith
record_bytes r fits (suc zero) = omega arith
record_bytes r fits (suc (suc zero)) = fits.kind
record_bytes r fits (suc (suc (suc zero))) = fits.thread
record_bytes r fits (suc (suc (suc (suc i)))) = by (is_begin r.kind) (λ e. rw e (operation-bytes r.op fits.op i)) (λ e. rw e (omega arith))

-- a lawful record is written where it has room, and read back
pub record_is-written : RecordWritten
unfolding encode_answer encode_buffer unless
record_is-written first r buffer rules room =
    let zero : encode_refusal first r buffer ≡ 0 = write-accepted first r buffer (and-made _ _ rules (le-leb (length (encode r)) (length buffer) room)) in
    record {
      answers = rw zero refl;
      buffer = rw zero refl;
      same_length = rw (zero, length-append, length-drop) (omega arith);
      reads = λ fits. rw zero (read-written first r (drop (length (encode r)) buffer) fits rules);
    }

-- all else is refused in writing
pub writing_refused : WritingRefused
unfolding encode_answer encode_buffer unless
writing_refused first r buffer why = record { answers = rw twelve refl; buffer = rw twelve refl }
  where
    fails : (lawful_record first r ≡ false) ⊎ (length buffer < length (encode r)) → writable first r buffer ≡ false
    fails (inl e) = rw e refl
    fails (inr short) = rw (lt-leb (length (encode r)) (length buffer) short) (and-false (lawful_record first r))

    twelve : encode_refusal first r buffer ≡ 12
    twelve = write-refused first r buffer (fails why)

-- ---- what two calls promise together
-- a call that was accepted was not refused
not-refused : (g : ℕ) → refused g ≡ replied accepted → ⊥
not-refused g e = let z : ◌≡◌ {A = ℕ} 0 1 = cc in omega arith

-- what reading accepts is lawful
pub read-was-lawful : (first : Bool) (input : List ℕ) → decode_answer first input ≡ replied accepted → lawful first (front input) ≡ true
read-was-lawful first input e = by (lawful first (front input)) (λ rules. rules) (λ f. absurd (not-refused 12 (sym (reading_refused first input f).answers ∙ e)))

-- what writing accepts is lawful and has room
pub written-was-lawful : (first : Bool) (r : Record) (buffer : List ℕ) → encode_answer first r buffer ≡ replied accepted → (lawful_record first r ≡ true) × (length (encode r) ≤ length buffer)
written-was-lawful first r buffer e =
    by (lawful_record first r)
    (λ rules. by (leb (length (encode r)) (length buffer))
    (λ room. (rules, leb-true (length (encode r)) (length buffer) room))
    (λ short. absurd (not-refused 12 (sym (writing_refused first r buffer (inr (leb-false (length (encode r)) (length buffer) short))).answers ∙ e))))
    (λ f. absurd (not-refused 12 (sym (writing_refused first r buffer (inl f)).answers ∙ e)))

-- writing a record and then reading the buffer gives the record back
pub write_then_read : WriteThenRead
write_then_read first r buffer after wrote read item fits writing done reading =
    let (rules, room) = written-was-lawful first r buffer (sym writing.answers ∙ done) in
    let back : Reads first after r = rw writing.writes ((record_is-written first r buffer rules room).reads fits) in
    (reading.answers ∙ back.answers, reading.reads ∙ back.item)

-- reading a record and then writing it puts the same bytes there
pub read_then-write : ReadThenWrite
read_then-write first input buffer after read wrote item u reading done writing room =
    let rules = read-was-lawful first input (sym reading.answers ∙ done) in
    let back = written_read first input u rules in
    let same : item ≡ record_of (front input) = reading.reads ∙ back.reads.item in
    let written : Writes first item buffer = rw same (record_is-written first (record_of (front input)) buffer back.lawfully (rw (← back.reads.takes) room)) in
    (writing.answers ∙ written.answers, writing.writes ∙ written.buffer ∙ ap (λ (l : List ℕ). l ++ drop (length l) buffer) (ap encode same ∙ sym back.reads.takes))
