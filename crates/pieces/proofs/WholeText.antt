-- Playing record by record prints what reading all of them first and then playing them prints.
use mathlib.Core.Path.{◌≡◌, refl, sym, ap, ◌∙◌}
use mathlib.Core.Bool.{true, false, cond}
use mathlib.Core.Option.{Option, none, some}
use mathlib.Core.List.{List, ◌++◌}
use Prim.Native.Nat.{ℕ, ◌+◌, ◌≤◌, ◌<◌}
use native.Mathlib.Omega.{arith}
use lib.ListN.{length, take, drop, get_or-append}
use lib.Seq.{take_at, take-append-le, drop_at}
use borrow.Author.Tests.{eqb-true}
use Rattle.model.specs.declared.Record.{Record}
use Rattle.model.specs.Refusals.{unless, make_refusal}
use Rattle.model.specs.RecordBytes.{table_kind, record_length, kind_byte, thread_byte, lawful}
use Rattle.model.specs.Decoding.{front, record_of}
use Rattle.model.specs.Schedule.{Fault, Reading, is_empty, read_from, decode_all}
use Rattle.model.specs.Bondtrace.{Tally, records_played, started, final_text, bad_line, calls_text, reading_text, bondtrace}
use Rattle.model.proofs.Laws.{by, all_of-read, alike_read}
use Rattle.laws.proofs.Lists.{cond-true, cond-false}
use Rattle.laws.proofs.Joined.{take-and-rest}
use Rattle.laws.proofs.Tests.{same_test}
use Rattle.laws.proofs.Schedule.{front-thread, front-and-behind, lawful-length}
use Rattle.roundtrip.proofs.Records.{front-lawful}
use Rattle.roundtrip.proofs.Reading.{reads-fault, later, reads-one, enough}
use Rattle.pieces.specs.Playing.{Progress, played_on}
use Rattle.pieces.specs.Pieces.{end_text, text_of, WholeText}
use Rattle.pieces.proofs.Playing.{behind}
use Rattle.pieces.proofs.Fronts.{whole_if_lawful, front-stays}
use Rattle.pieces.proofs.AsRead.{as_read}

-- ---- from a byte on, behind the table record
-- what is printed of a reading that is played from a tally on
played_text : Tally → List Record → Option Fault → List ℕ
played_text p records none = final_text (records_played records p)
played_text p records (some fault) = bad_line fault.number fault.place

-- behind the table record the tally is that of a new table
calls-played : (n : ℕ) (records : List Record) (fault : Option Fault) → calls_text n records fault ≡ played_text (started n) records fault
unfolding played_text calls_text
calls-played n records none = refl
calls-played n records (some fault) = refl

-- the same text by how far playing came in an input that starts at a byte
abbrev end_from : ℕ → List ℕ → Progress → List ℕ
end_from place input q = cond (is_empty (drop q.taken input)) (final_text q.tally) (bad_line 12 (place + q.taken))

-- reading from that byte on prints it
prints-all : (p : Tally) (input : List ℕ) (most place : ℕ) → length input < most
    → played_text p (read_from most false place input).records (read_from most false place input).fault ≡ end_from place input (played_on p input)
unfolding played_text
prints-all p input most place h = let read = as_read p input most place h in rw read.fault (
    by (is_empty (drop (played_on p input).taken input)) (λ e. rw e (ap final_text (sym read.tally))) (λ e. rw e refl))

-- ---- the table record
module _ (input : List ℕ) (rules : lawful true (front input) ≡ true) where
  -- it is of four bytes
  table-length : length (front input) ≡ 4
  unfolding lawful record_length
  table-length =
      let kind : kind_byte (front input) ≡ table_kind = eqb-true (kind_byte (front input)) table_kind (sym (alike_read true _ (all_of-read _ rules).1.1.1.0)) in
      lawful-length true (front input) rules ∙ rw kind refl

  -- the first four
  pub front-four : take 4 input ≡ front input
  front-four = ap (take 4) (sym (front-and-behind input)) ∙ take_at (front input) (behind input) 4 table-length

  -- its thread byte is that of the input
  thread-byte : (record_of (front input)).thread ≡ thread_byte input
  unfolding record_of
  thread-byte = front-thread input

  -- behind it, what is printed is what playing comes to
  calls-text : (n : ℕ) → let reading = later (length input) true 0 input in let q = played_on (started n) (drop 4 input) in
      calls_text n reading.records reading.fault ≡ end_text q (drop q.taken (drop 4 input))
  unfolding end_text
  calls-text n =
      calls-played n _ _ ∙ prints-all (started n) (behind input) (length input) (0 + length (front input)) (enough (length input) true 0 input rules (omega arith))
      ∙ ap (λ (k : ℕ). end_from (0 + k) (drop k input) (played_on (started n) (drop k input))) table-length

-- what is printed of a whole reading
abbrev printed : Reading → List ℕ
printed reading = reading_text reading.records reading.fault

-- playing prints what the model says
pub whole-text : WholeText
unfolding bondtrace decode_all reading_text calls_text text_of
whole-text input =
    by (lawful true (front input))
    (λ e. ap printed (reads-one (length input) true 0 input e) ∙ rw (thread-byte input e, calls-text input e) refl ∙ sym (cond-true _ _ _ e))
    (λ e. ap printed (reads-fault (length input) true 0 input refl e) ∙ sym (cond-false _ _ _ e))

-- ---- what the table record settles
module _ (bytes more : List ℕ) (four : 4 ≤ length bytes) where
  -- bytes that go on have the same first four
  first-four : take 4 (bytes ++ more) ≡ take 4 bytes
  first-four = take-append-le 4 bytes more four

  -- where they are lawful, they are the record at the front
  four-front : lawful true (take 4 bytes) ≡ true → front bytes ≡ take 4 bytes
  four-front rules = ap front (sym (take-and-rest 4 bytes)) ∙ front-lawful true (take 4 bytes) rules (drop (length (take 4 bytes)) bytes)

  -- so what comes behind four bytes does not make them lawful, nor unlawful
  pub table_stays : lawful true (front (bytes ++ more)) ≡ lawful true (front bytes)
  table_stays = same_test (lawful true (front (bytes ++ more))) (lawful true (front bytes))
      (λ later. let rules : lawful true (take 4 bytes) ≡ true = ap (lawful true) (sym first-four ∙ front-four (bytes ++ more) later) ∙ later in ap (lawful true) (four-front rules) ∙ rules)
      (λ now. ap (lawful true) (front-stays bytes (whole_if_lawful true bytes now) more) ∙ now)

module _ (head input : List ℕ) (rules : lawful true head ≡ true) where
  -- what is played behind it
  abbrev pub calls : Progress
  calls = played_on (started (thread_byte head)) input

  -- the text by its thread byte and what stands behind it
  pub table-text : bondtrace (head ++ input) ≡ unless (make_refusal (thread_byte head)) (λ g. bad_line g 0) (end_text calls (drop calls.taken input))
  unfolding text_of
  table-text =
      let at_front : front (head ++ input) ≡ head = front-lawful true head rules input in
      let four : length head ≡ 4 = rw at_front at (table-length (head ++ input) (rw at_front rules)) in
      let thread : thread_byte (head ++ input) ≡ thread_byte head = get_or-append head input 0 3 (omega arith) in
      whole-text (head ++ input) ∙ rw (at_front, rules, thread, drop_at head input 4 four) refl
