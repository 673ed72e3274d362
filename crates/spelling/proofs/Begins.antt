-- The operation of a lawful begin has nothing where its parts do not use it.
use mathlib.Core.Path.{◌≡◌, refl, sym, ap, ◌∙◌}
use mathlib.Core.Bool.{Bool, true, false, not, ◌&&◌, or-true}
use mathlib.Core.List.{List, ◌∷◌}
use Prim.Native.Nat.{ℕ, ◌+◌, ◌*◌, ◌≤◌, ◌<◌}
use native.Mathlib.Omega.{arith}
use lib.ListN.{get_or, replicate, get_or-eq_default}
use lib.Seq.{ext_get_or}
use lib.Dec.{eqb, leb}
use borrow.Author.Tests.{eqb-true, le-ltb, leb-true, leb-false}
use Rattle.model.specs.declared.Receive.{Receive}
use Rattle.model.specs.declared.Receive.TheVariants.{Absent, Open, Closed, OneOf}
use Rattle.model.specs.declared.Operation.{Operation}
use Rattle.model.specs.Lists.{bit}
use Rattle.model.specs.Operations.{has_receive, open_part}
use Rattle.model.specs.Threads.{no_operation}
use Rattle.model.specs.RecordBytes.{send_bit, open_bit, receive_bit, word_at, lawful_begin}
use Rattle.model.specs.Encoding.{partner_of, parts_of, operation_bytes}
use Rattle.model.proofs.Laws.{by, and_left, and_right, implies-read, all_of-read, all-below-read}
use Rattle.laws.proofs.Below.{read-up-to}
use Rattle.roundtrip.specs.Fits.{FitsOperation}
use Rattle.roundtrip.proofs.Lists.{replicate-under}
use Rattle.roundtrip.proofs.Operations.{sends-read, words_back}
use Rattle.spelling.proofs.Parts.{Tidy}

-- the open bit of an open receive part
open-bit : (sends : Bool) (receive : Receive) → open_part receive ≡ true → open_bit (bit sends + 2 * bit (has_receive receive) + 4 * bit (open_part receive)) ≡ true
unfolding open_bit
open-bit true Absent e = cc
open-bit false Absent e = cc
open-bit true (Open wait) e = refl
open-bit false (Open wait) e = refl
open-bit true (Closed wait) e = cc
open-bit false (Closed wait) e = cc
open-bit true (OneOf time set) e = cc
open-bit false (OneOf time set) e = cc

module _ (a b c d : ℕ) (o : Operation) (fits : FitsOperation o) (rules : lawful_begin (a ∷ b ∷ c ∷ d ∷ operation_bytes o) ≡ true) where
  -- the bytes of the begin
  abbrev bytes : List ℕ
  bytes = a ∷ b ∷ c ∷ d ∷ operation_bytes o

  -- its send bit
  sends : send_bit (parts_of o) ≡ o.send.present
  unfolding parts_of
  sends = sends-read o.send.present o.receive

  -- its words
  word-here : (i : ℕ) → i < 8 → word_at bytes i ≡ get_or o.send.words i 0
  unfolding operation_bytes
  word-here i h = sym (read-up-to 8 (word_at bytes) 0 i h) ∙ ap (λ (l : List ℕ). get_or l i 0) (words_back a b c d o fits)

  -- "words past the count, are 0"
  past_the_count : (i : ℕ) → o.send.count ≤ i → get_or o.send.words i 0 ≡ 0
  unfolding lawful_begin operation_bytes
  past_the_count i h = by (leb 8 i)
      (λ e. get_or-eq_default o.send.words 0 (omega (arith, fits.eight, leb-true 8 i e)))
      (λ e. let near : i < 8 = leb-false 8 i e in sym (word-here i near) ∙ zero_word i h near)
    where
      zero_word : (i : ℕ) → o.send.count ≤ i → i < 8 → word_at bytes i ≡ 0
      zero_word i h near = eqb-true (word_at bytes i) 0 (rw (le-ltb i o.send.count h) at (all-below-read 8 _ (all_of-read _ rules).1.1.1.1.1.0 i near))

  -- "Fields that the parts do not use": those of a send part that is not there
  unused : o.send.present ≡ false → (o.send.target ≡ 0) × (o.send.count ≡ 0) × (o.send.time ≡ 0)
  unfolding lawful_begin operation_bytes
  unused e =
      let target = eqb o.send.target 0 in
      let count = eqb o.send.count 0 in
      let time = eqb o.send.time 0 in
      let all : (target && count && time) ≡ true = implies-read _ _ (all_of-read _ rules).1.1.0 (rw (sends ∙ e) refl) in
      let two : (target && count) ≡ true = and_left (target && count) time all in
      (eqb-true _ 0 (and_left target count two), eqb-true _ 0 (and_right target count two), eqb-true _ 0 (and_right (target && count) time all))

  -- the partner of an open receive part
  no-partner : open_part o.receive ≡ true → partner_of o.receive ≡ 0
  unfolding lawful_begin operation_bytes parts_of
  no-partner e = eqb-true (partner_of o.receive) 0 (implies-read _ _ (all_of-read _ rules).1.1.1.1.0 (rw (open-bit o.send.present o.receive e) (or-true (not (receive_bit (parts_of o))))))

  -- a send part that is not there is that of no operation
  no-send : o.send.present ≡ false → no_operation.send ≡ o.send
  unfolding no_operation
  no-send e = let (target, count, time) = unused e in
      λ i. record { present = sym e i; target = sym target i; count = sym count i; time = sym time i; words = sym words-zero i }
    where
      words-zero : o.send.words ≡ replicate 8 0
      words-zero = ext_get_or 0 o.send.words (replicate 8 0) fits.eight
          (λ i h. let zero-there : get_or (replicate 8 0) i 0 < 1 = replicate-under 1 8 0 (omega arith) i in omega (arith, past_the_count i (omega (arith, (unused e).1))))

  -- so the operation is tidy
  pub begin_tidy : Tidy o
  begin_tidy = record { unsent = no-send; beyond = past_the_count; anyone = no-partner }
