-- What writing a record promises, where it is refused and where it is accepted.
use mathlib.Core.Path.{◌≡◌, refl, sym, ◌∙◌, ap}
use mathlib.Core.Bool.{Bool, true, false, not, ◌&&◌, and-true, and-false, true≢false}
use mathlib.Core.List.{List, ◌++◌, append-nil}
use Prim.Native.Nat.{ℕ, ◌+◌, ◌*◌, ◌≤◌, ◌<◌}
use native.Mathlib.Omega.{arith}
use lib.ListN.{length, take, drop, length-append}
use lib.Seq.{take_all, take_at, length-take-le}
use lib.Dec.{eqb, leb}
use borrow.Author.Tests.{not-true, le-leb, lt-leb}
use Rattle.model.specs.declared.Answer.TheVariants.{Refused, Accepted}
use Rattle.model.specs.declared.Record.{Record}
use Rattle.model.specs.Lists.{all_of, bit}
use Rattle.model.specs.Refusals.{unless}
use Rattle.model.specs.Operations.{names_set}
use Rattle.model.specs.RecordBytes.{begin_kind, set_kind, is_begin, record_length, kind_byte, lawful}
use Rattle.model.specs.Decoding.{front}
use Rattle.model.specs.Encoding.{word_bytes, set_of, set_bytes, operation_bytes, encode, all_zero, lawful_record, encode_answer, encode_buffer, EncodePromise}
use Rattle.model.proofs.Laws.{by, same?, alike_read, implies-read, implies-made, all_of-read}
use Rattle.laws.proofs.Schedule.{no-begin, no-set, must_set, record_begin, record_set, record_longest, set-bytes, no-set-bytes, set-length, length-tells, lawful-length}
use Rattle.laws.proofs.Records.{writable, write-accepted, write-refused}
use Rattle.writing.specs.Spelled.{up_to_set, spelled, fits_kind}
use Rattle.writing.proofs.Sets.{zero_with_set}

module _ (first : Bool) (item : Record) (bytes : List ℕ) where
  -- a record that may not be written is refused
  refused-write : writable first item bytes ≡ false → EncodePromise first item bytes (Refused 12) bytes
  unfolding encode_answer encode_buffer unless
  refused-write e = record { answers = rw (write-refused first item bytes e) refl; writes = rw (write-refused first item bytes e) refl }

  -- a record that may be written stands before the bytes past it
  accepted-write : writable first item bytes ≡ true → (after : List ℕ) → after ≡ encode item ++ drop (length (encode item)) bytes → EncodePromise first item bytes Accepted after
  unfolding encode_answer encode_buffer unless
  accepted-write e after i = record { answers = rw (write-accepted first item bytes e) refl; writes = rw (write-accepted first item bytes e) i }

module _ (item : Record) (space : List ℕ) (is : space ≡ spelled item) (whole : length space ≡ 46) where
  -- a record is not longer than what is spelled
  pub record_fits : record_length item.kind ≤ length space
  record_fits = omega (arith, record_longest item.kind)

  -- up to its set a begin has 42 bytes
  set-place : length (up_to_set item) ≡ 42
  unfolding spelled word_bytes
  set-place = omega (arith, ap length is, length-append (up_to_set item) (word_bytes (set_of item.op.receive)))

  -- the bytes of a begin
  begin_encoded : is_begin item.kind ≡ true → encode item ≡ up_to_set item ++ set_bytes item.op.receive
  unfolding encode operation_bytes
  begin_encoded b = rw b refl

  -- the bytes of an operation are 0 exactly if they are where it is spelled
  bare-spelled : all_zero (operation_bytes item.op) ≡ all_zero (drop 4 space)
  unfolding operation_bytes spelled
  bare-spelled = rw is (zero_with_set (drop 4 (up_to_set item)) item.op.receive)

  -- the operation of a lawful record is one of its kind
  lawful-fits : (first : Bool) → lawful_record first item ≡ true → fits_kind item.kind item.op.receive space ≡ true
  unfolding fits_kind lawful_record encode
  lawful-fits first rules = by (is_begin item.kind)
      (λ b. rw b (length-tells item.kind (names_set item.op.receive) b (sym (lawful-length first (encode item) (all_of-read _ rules).0) ∙ ap length (begin_encoded b) ∙ long)))
      (λ b. rw b (sym bare-spelled ∙ implies-read _ _ (all_of-read _ rules).1.0 (rw b refl)))
    where
      long : length (up_to_set item ++ set_bytes item.op.receive) ≡ 42 + 4 * bit (names_set item.op.receive)
      long = omega (arith, length-append (up_to_set item) (set_bytes item.op.receive), set-place, set-length item.op.receive)

  module _ (fits : fits_kind item.kind item.op.receive space ≡ true) where
    -- a begin names a set exactly if its kind has one
    set-fits : is_begin item.kind ≡ true → names_set item.op.receive ≡ eqb item.kind set_kind
    unfolding fits_kind
    set-fits b = sym (alike_read _ _ (rw b at fits))

    -- the bytes of the record are at the front of those that are spelled
    front-spelled : take (record_length item.kind) space ≡ encode item
    unfolding spelled
    front-spelled = by (is_begin item.kind)
        (λ b. same? item.kind begin_kind
        (λ e. rw (record_begin item.kind e, is, take_at (up_to_set item) _ 42 set-place, begin_encoded b, no-set-bytes item.op.receive (set-fits b ∙ rw e refl)) (sym (append-nil _)))
        (λ d. let e = must_set item.kind b d in
        rw (record_set item.kind e, take_all 46 space (omega arith), begin_encoded b, set-bytes item.op.receive (set-fits b ∙ rw e refl)) is))
        (λ b. unfold encode record_length in rw (no-begin item.kind b, no-set item.kind b, b, is) refl)

    -- as many as it has
    encoded_length : length (encode item) ≡ record_length item.kind
    encoded_length = sym (ap length front-spelled) ∙ length-take-le (record_length item.kind) space record_fits

    -- and are found there by their kind
    front_encoded : front space ≡ encode item
    unfolding front spelled
    front_encoded = rw (ap kind_byte is) front-spelled

    -- what is no begin has no operation
    bare : not (is_begin item.kind) ≡ true → all_zero (operation_bytes item.op) ≡ true
    unfolding fits_kind
    bare d = bare-spelled ∙ rw (not-true (is_begin item.kind) d) at fits

  module _ (first : Bool) (bytes : List ℕ) where
    -- refused: an operation that is not one of its kind
    pub not_fitting : fits_kind item.kind item.op.receive space ≡ false → EncodePromise first item bytes (Refused 12) bytes
    not_fitting e = refused-write first item bytes (by (lawful_record first item) (λ rules. absurd (true≢false (sym (lawful-fits first rules) ∙ e))) (λ d. rw d refl))

    module _ (fits : fits_kind item.kind item.op.receive space ≡ true) where
      -- else it may be written where what is spelled is lawful, and there is room
      writable-spelled : writable first item bytes ≡ (lawful first (front space) && leb (record_length item.kind) (length bytes))
      unfolding lawful_record all_of
      writable-spelled = rw (front_encoded fits, encoded_length fits, implies-made _ _ (bare fits), and-true) refl

      -- refused: bytes that are not lawful
      pub not-lawful : lawful first (front space) ≡ false → EncodePromise first item bytes (Refused 12) bytes
      not-lawful e = refused-write first item bytes (writable-spelled ∙ rw e refl)

      module _ (n : ℕ) (long : n ≡ record_length item.kind) where
        -- refused: fewer bytes than the record has
        pub too_long : length bytes < n → EncodePromise first item bytes (Refused 12) bytes
        too_long short = refused-write first item bytes (writable-spelled ∙ rw (← long, lt-leb n (length bytes) short) (and-false (lawful first (front space))))

        -- else it is written
        pub well_written : lawful first (front space) ≡ true → n ≤ length bytes
            → (after : List ℕ) → after ≡ take n space ++ drop (length (take n space)) bytes → EncodePromise first item bytes Accepted after
        well_written e room after copied = accepted-write first item bytes (writable-spelled ∙ rw (e, ← long, le-leb n (length bytes) room) refl) after (rw (long, front-spelled fits) at copied)
