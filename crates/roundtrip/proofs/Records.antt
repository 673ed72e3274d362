-- One record as bytes, and back.
use mathlib.Core.Path.{◌≡◌, refl, sym, ap, ◌∙◌}
use mathlib.Core.Bool.{Bool, true, false, not, cond}
use mathlib.Core.List.{List, [], ◌∷◌, ◌++◌, map}
use Prim.Native.Nat.{ℕ, ◌+◌, ◌*◌}
use native.Mathlib.Omega.{arith}
use lib.ListN.{length, length-append, replicate, get_or-append}
use mathlib.Core.Logic.{◌≢◌}
use lib.Seq.{take_all, take_at}
use lib.Dec.{eqb}
use borrow.Author.Tests.{eqb-true, eq-eqb, not-true}
use Rattle.model.specs.declared.Operation.{Operation}
use Rattle.model.specs.declared.Record.{Record}
use Rattle.model.specs.Lists.{bit, concat, up_to}
use Rattle.model.specs.Operations.{has_receive, open_part, names_set}
use Rattle.model.specs.declared.Receive.{Receive}
use Rattle.model.specs.declared.Receive.TheVariants.{Absent, Open, Closed, OneOf}
use Rattle.model.specs.Threads.{no_operation}
use Rattle.model.specs.RecordBytes.{begin_kind, set_kind, is_begin, lawful_set, record_length, byte, kind_byte, send_bit, receive_bit, open_bit, word_at, lawful_begin, lawful}
use Rattle.model.specs.Encoding.{word_bytes, set_bytes, parts_of, operation_bytes, encode, all_zero, lawful_record}
use Rattle.model.specs.Decoding.{operation_of, set_operation_of, operation_by, record_of, front}
use Rattle.model.proofs.Laws.{alike_read, and_left, and_right, implies-read, implies-made, all_of-read, all_of-made, ◌and◌}
use Rattle.laws.proofs.Joined.{take-under}
use Rattle.laws.proofs.Schedule.{is-begin, is_set, no-begin, no-set, record_begin, record_set, record_other, begin_kinds, by_kind, words-length, set-length, length-tells, lawful-length, lawful-least}
use Rattle.roundtrip.specs.Fits.{Bytes, FitsOperation, FitsRecord}
use Rattle.roundtrip.proofs.Lists.{replicate-under}
use Rattle.roundtrip.proofs.Words.{four_bytes}
use Rattle.roundtrip.proofs.Operations.{operation-read, set-operation-read, operation-written, set-operation-written, operation-fits, set-operation-fits}

-- ---- no operation
-- an operation of eight words takes 38 bytes, and four more if it names a set
pub operation-length : (o : Operation) → length o.send.words ≡ 8 → length (operation_bytes o) ≡ 38 + 4 * bit (names_set o.receive)
unfolding operation_bytes
operation-length o e = omega (arith, words-length o.send.words, length-append (concat (map word_bytes o.send.words)) (set_bytes o.receive), set-length o.receive)

-- one whose bytes are all 0 names no set
zero-set : (o : Operation) → all_zero (operation_bytes o) ≡ true → names_set o.receive ≡ false
unfolding operation_bytes parts_of all_zero
zero-set o z = named (bit o.send.present) o.receive (eqb-true _ 0 (and_left _ _ z))
  where
    named : (b : ℕ) (w : Receive) → b + 2 * bit (has_receive w) + 4 * bit (open_part w) ≡ 0 → names_set w ≡ false
    named b Absent e = refl
    named b (Open w) e = refl
    named b (Closed w) e = refl
    named b (OneOf time set) e = absurd (omega arith)

-- bytes that are all 0
zeros : (l : List ℕ) → all_zero l ≡ true → l ≡ replicate (length l) 0
unfolding all_zero
zeros [] e = refl
zeros (a ∷ l) e = λ i. eqb-true a 0 (and_left _ _ e) i ∷ zeros l (and_right (eqb a 0) (all_zero l) e) i

-- bytes that are all 0 are those of no operation
no-operation-read : operation_of (replicate 42 0) ≡ no_operation
unfolding operation_of no_operation send_bit receive_bit open_bit word_at up_to
no-operation-read = refl

-- and no operation has such bytes
no-operation-written : all_zero (operation_bytes no_operation) ≡ true
unfolding operation_bytes no_operation parts_of word_bytes concat all_zero
no-operation-written = refl

-- an operation whose bytes are all 0 is none
no-operation : (o : Operation) → FitsOperation o → all_zero (operation_bytes o) ≡ true → no_operation ≡ o
no-operation o fits e =
    sym no-operation-read ∙ ap (λ (l : List ℕ). operation_of (0 ∷ 0 ∷ 0 ∷ 0 ∷ l)) (sym (zeros (operation_bytes o) e ∙ ap (λ (k : ℕ). replicate k 0) (operation-length o fits.eight ∙ ap (λ (b : Bool). 38 + 4 * bit b) (zero-set o e))))
    ∙ operation-read 0 0 0 0 o fits (zero-set o e)

-- the fields of no operation are in range
no-operation-fits : FitsOperation no_operation
unfolding no_operation
no-operation-fits = record {
  target = omega arith;
  count = omega arith;
  time = omega arith;
  eight = refl;
  words = replicate-under 0x1_0000_0000 8 0 (omega arith);
  partner = omega arith;
  set = omega arith;
  wait = omega arith;
}

-- ---- the operation by the kind
module _ (kind : ℕ) where
  -- that of a begin
  pub operation-begin : kind ≡ begin_kind → (bytes : List ℕ) → operation_by kind bytes ≡ operation_of bytes
  unfolding operation_by
  operation-begin e bytes = rw e refl

  -- that of one with a set
  pub operation-set : kind ≡ set_kind → (bytes : List ℕ) → operation_by kind bytes ≡ set_operation_of bytes
  unfolding operation_by
  operation-set e bytes = rw e refl

  -- that of any other record
  pub operation-none : is_begin kind ≡ false → (bytes : List ℕ) → operation_by kind bytes ≡ no_operation
  unfolding operation_by
  operation-none e bytes = rw (no-begin kind e, no-set kind e) refl

-- ---- lawful bytes
-- the front of bytes has bytes
pub front_bytes : (input : List ℕ) → Bytes input → Bytes (front input)
unfolding front
front_bytes input u = take-under 256 (record_length (kind_byte input)) input u

module _ (first : Bool) (bytes : List ℕ) (rules : lawful first bytes ≡ true) where
  -- they start with the mark
  marked : (rest : List ℕ) → 0x4C ∷ 0x34 ∷ rest ≡ byte bytes 0 ∷ byte bytes 1 ∷ rest
  unfolding lawful
  marked rest =
      let (mark, (secondMark, others)) = all_of-read _ rules in
      λ i. sym (eqb-true (byte bytes 0) 0x4C mark) i ∷ sym (eqb-true (byte bytes 1) 0x34 secondMark) i ∷ rest

  -- those of a begin are lawful in its own way
  begin-rules : is_begin (kind_byte bytes) ≡ true → lawful_begin bytes ≡ true
  unfolding lawful
  begin-rules e = implies-read _ _ (all_of-read _ rules).1.1.1.1.1.1.0 e

  -- those of a begin with a set too
  set-rules : kind_byte bytes ≡ set_kind → lawful_set bytes ≡ true
  unfolding lawful
  set-rules e = implies-read _ _ (all_of-read _ rules).1.1.1.1.1.1.1.0 (eq-eqb _ _ e)

  -- they are 42
  begin-length : kind_byte bytes ≡ begin_kind → length bytes ≡ 42
  begin-length e = lawful-length first bytes rules ∙ record_begin (kind_byte bytes) e

  -- or 46
  set-begin-length : kind_byte bytes ≡ set_kind → length bytes ≡ 46
  set-begin-length e = lawful-length first bytes rules ∙ record_set (kind_byte bytes) e

  -- the others are four
  short-length : kind_byte bytes ≢ begin_kind → kind_byte bytes ≢ set_kind → length bytes ≡ 4
  short-length d e = lawful-length first bytes rules ∙ record_other (kind_byte bytes) d e

  -- they are the front of what starts with them
  pub front-lawful : (rest : List ℕ) → front (bytes ++ rest) ≡ bytes
  unfolding front
  front-lawful rest = take_at bytes rest (record_length (kind_byte (bytes ++ rest))) (lawful-length first bytes rules ∙ ap record_length (sym (get_or-append bytes rest 0 2 (omega (arith, lawful-least first bytes rules)))))

  -- the record that they stand for is written as they are
  pub record_written : Bytes bytes → encode (record_of bytes) ≡ bytes
  unfolding encode record_of
  record_written u = marked _ ∙ by_kind (kind_byte bytes)
      (λ e. head (is-begin (kind_byte bytes) e) (operation-begin (kind_byte bytes) e bytes) ∙ operation-written bytes (begin-rules (is-begin (kind_byte bytes) e)) u (begin-length e))
      (λ e. head (is_set (kind_byte bytes) e) (operation-set (kind_byte bytes) e bytes) ∙ set-operation-written bytes (begin-rules (is_set (kind_byte bytes) e)) (set-rules e) u (set-begin-length e))
      (λ d e. rw (begin_kinds (kind_byte bytes) d e) (four d e))
    where
      head : {o : Operation} → is_begin (kind_byte bytes) ≡ true → operation_by (kind_byte bytes) bytes ≡ o
          → byte bytes 0 ∷ byte bytes 1 ∷ byte bytes 2 ∷ byte bytes 3 ∷ cond (is_begin (kind_byte bytes)) (operation_bytes (operation_by (kind_byte bytes) bytes)) [] ≡ byte bytes 0 ∷ byte bytes 1 ∷ byte bytes 2 ∷ byte bytes 3 ∷ operation_bytes o
      head b e = rw (b, e) refl

      four : kind_byte bytes ≢ begin_kind → kind_byte bytes ≢ set_kind → byte bytes 0 ∷ byte bytes 1 ∷ byte bytes 2 ∷ byte bytes 3 ∷ [] ≡ bytes
      four d e = sym (four_bytes bytes (lawful-least first bytes rules)) ∙ take_all 4 bytes (omega (arith, short-length d e))

  -- it is lawful
  pub record_lawful : Bytes bytes → lawful_record first (record_of bytes) ≡ true
  unfolding lawful_record record_of
  record_lawful u = all_of-made _ (rw (record_written u) rules and implies-made _ _ without and tt)
    where
      without : not (is_begin (kind_byte bytes)) ≡ true → all_zero (operation_bytes (record_of bytes).op) ≡ true
      without e = unfold record_of in rw (operation-none (kind_byte bytes) (not-true (is_begin (kind_byte bytes)) e) bytes) no-operation-written

  -- and its fields are in range
  pub record_fits : Bytes bytes → FitsRecord (record_of bytes)
  unfolding record_of
  record_fits u = record {
    kind = u 2;
    thread = u 3;
    op = by_kind (kind_byte bytes)
        (λ e. rw (operation-begin (kind_byte bytes) e bytes) (operation-fits bytes (begin-rules (is-begin (kind_byte bytes) e)) u))
        (λ e. rw (operation-set (kind_byte bytes) e bytes) (set-operation-fits bytes (begin-rules (is_set (kind_byte bytes) e)) (set-rules e) u))
        (λ d e. rw (operation-none (kind_byte bytes) (begin_kinds (kind_byte bytes) d e) bytes) no-operation-fits);
  }

-- ---- lawful records
module _ (first : Bool) (r : Record) (rules : lawful_record first r ≡ true) where
  -- their bytes are lawful
  pub bytes-lawful : lawful first (encode r) ≡ true
  unfolding lawful_record
  bytes-lawful = (all_of-read _ rules).0

  -- those of a begin are as many as its kind says, so its kind tells whether it names a set
  pub begin_names : FitsRecord r → is_begin r.kind ≡ true → names_set r.op.receive ≡ eqb r.kind set_kind
  unfolding encode
  begin_names fits b =
      let long = lawful-length first (encode r) bytes-lawful in
      let all = operation-length r.op fits.op.eight in
      sym (alike_read _ _ (length-tells r.kind (names_set r.op.receive) b (omega (arith, rw b at long, all))))

  -- the record is read from its bytes
  pub record_read : FitsRecord r → record_of (encode r) ≡ r
  unfolding record_of encode
  record_read fits = λ i. record { kind = r.kind; thread = r.thread; op = op i }
    where
      op : operation_by r.kind (encode r) ≡ r.op
      op = by_kind r.kind
          (λ e. operation-begin r.kind e (encode r) ∙ (unfold encode in rw (is-begin r.kind e) (operation-read 0x4C 0x34 r.kind r.thread r.op fits.op (begin_names fits (is-begin r.kind e) ∙ rw e refl))))
          (λ e. operation-set r.kind e (encode r) ∙ (unfold encode in rw (is_set r.kind e) (set-operation-read 0x4C 0x34 r.kind r.thread r.op fits.op (begin_names fits (is_set r.kind e) ∙ rw e refl))))
          (λ d e. operation-none r.kind (begin_kinds r.kind d e) (encode r) ∙ no-operation r.op fits.op (unfold lawful_record in implies-read _ _ (all_of-read _ rules).1.0 (rw (begin_kinds r.kind d e) refl)))
