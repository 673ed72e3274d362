-- Laws of the records of a line that are written one behind the other: each is written where it is lawful.
use mathlib.Core.Path.{◌≡◌, refl, sym, ◌∙◌, ap}
use mathlib.Core.Bool.{Bool, true, false, ◌&&◌, and-true, and-false}
use mathlib.Core.List.{List, map}
use Prim.Native.Nat.{ℕ, suc, ◌+◌, ◌≤◌, ◌<◌}
use native.Mathlib.Numerals.{add-one}
use native.Mathlib.Omega.{arith}
use lib.Dec.{eqb}
use lib.ListN.{length, get_or, drop, drop_of_length-le}
use lib.Seq.{drop-cons}
use borrow.Author.Tests.{ne_eqb}
use Rattle.model.specs.declared.Answer.{Answer}
use Rattle.model.specs.declared.Answer.TheVariants.{Refused}
use Rattle.model.specs.declared.Operation.{Operation}
use Rattle.model.specs.declared.Record.{Record}
use Rattle.model.specs.Operations.{names_set}
use Rattle.model.specs.RecordBytes.{longest_record, is_begin}
use Rattle.model.specs.Answers.{said, accepted, refused, replied}
use Rattle.model.specs.Refusals.{unless}
use Rattle.model.specs.Encoding.{encode, lawful_record, encode_refusal, encode_answer, EncodePromise}
use Rattle.model.proofs.Laws.{by}
use Rattle.laws.proofs.Lists.{bit-small}
use Rattle.roundtrip.proofs.Records.{operation-length}
use Rattle.roundtrip.proofs.OneRecord.{record_is-written, written-was-lawful}
use Rattle.language.specs.RecordText.{threads_of, records_asked, lawful_row}
use Rattle.record_input.proofs.Accepted.{Accepts, no_ground}
use Rattle.schedule_text.specs.Steps.{record_for}

-- ---- one record
module _ {first : Bool} {r : Record} {buffer after : List ℕ} {a : Answer} (promise : EncodePromise first r buffer a after) where
  -- one that is not refused is lawful
  pub accepted-lawful : Accepts a → true ≡ lawful_record first r
  unfolding encode_answer unless
  accepted-lawful other =
      let none : encode_refusal first r buffer ≡ 0 = no_ground a (encode_refusal first r buffer) accepted promise.answers other in
      sym (written-was-lawful first r buffer (rw none refl)).0

  -- one that is refused, though there is room for the longest, is not
  pub refused-unlawful : {g : ℕ} → a ≡ Refused g → length r.op.send.words ≡ 8 → longest_record ≤ length buffer → false ≡ lawful_record first r
  refused-unlawful {g} e eight room =
      by (lawful_record first r)
      (λ rules. absurd (impossible g (ap said (sym e) ∙ promise.answers ∙ (record_is-written first r buffer rules (fits eight room)).answers)))
      (λ not-lawful. sym not-lawful)
    where
      fits : length r.op.send.words ≡ 8 → longest_record ≤ length buffer → length (encode r) ≤ length buffer
      fits eight room = unfold encode in by (is_begin r.kind) (λ e. rw e (omega (arith, operation-length r.op eight, bit-small (names_set r.op.receive)))) (λ e. rw e (omega arith))

      impossible : (g : ℕ) → refused g ≡ replied accepted → ⊥
      impossible g e = let z : ◌≡◌ {A = ℕ} 0 1 = cc in omega arith

-- ---- the records of a line
module _ (first : Bool) (row : ℕ) (operation : Operation) (threads : List ℕ) where
  -- those from place i on are lawful
  unfoldable pub lawful_from : ℕ → Bool
  lawful_from i = lawful_row (first && eqb i 0) (map (record_for row operation) (drop i threads))

  -- the record at a place
  abbrev record_at : ℕ → Record
  record_at i = record_for row operation (get_or threads i 0)

  -- past the last there is none
  pub all-lawful : (i : ℕ) → length threads ≤ i → lawful_from i ≡ true
  unfolding lawful_from lawful_row
  all-lawful i past = rw (drop_of_length-le threads past) refl

  -- a lawful record is passed
  pub one-lawful : (i : ℕ) → i < length threads → lawful_record (first && eqb i 0) (record_at i) ≡ true → lawful_from i ≡ lawful_from (i + 1)
  unfolding lawful_from lawful_row
  one-lawful i inside rules = rw (drop-cons threads i 0 inside, rules, add-one, later) refl
    where
      later : (first && eqb (suc i) 0) ≡ false
      later = rw (ne_eqb (suc i) 0 (λ e. omega arith)) (and-false first)

  -- an unlawful one decides
  pub one-unlawful : (i : ℕ) → i < length threads → lawful_record (first && eqb i 0) (record_at i) ≡ false → lawful_from i ≡ false
  unfolding lawful_from lawful_row
  one-unlawful i inside breaks = rw (drop-cons threads i 0 inside, breaks) refl

-- those from the first on are all
pub from_first : (first : Bool) (row : ℕ) (operation : Operation) (numbers : List ℕ) → lawful_row first (records_asked row numbers operation) ≡ lawful_from first row operation (threads_of row numbers) 0
unfolding lawful_from records_asked
from_first first row operation numbers = rw (and-true first) refl
