-- Whole records at the front of an input, and of an input that goes on.
use mathlib.Core.Path.{◌≡◌}
use mathlib.Core.Bool.{Bool, true, false}
use mathlib.Core.List.{List, ◌++◌}
use Prim.Native.Nat.{ℕ, ◌≤◌, ◌<◌}
use native.Mathlib.Omega.{arith}
use lib.ListN.{length, drop, length-append, get_or-append}
use lib.Seq.{take-append-le, drop-append-le}
use lib.Dec.{leb}
use borrow.Author.Tests.{leb-true, leb-false, le-leb}
use Rattle.model.specs.RecordBytes.{longest_record, record_length, kind_byte, lawful}
use Rattle.model.specs.Decoding.{front}
use Rattle.model.proofs.Laws.{by, and_left, and_right, and-made}
use Rattle.laws.proofs.Lists.{second-fails}
use Rattle.laws.proofs.Schedule.{record_longest, front_length, lawful-long, lawful-head-long}
use Rattle.pieces.specs.Playing.{whole_record}
use Rattle.pieces.proofs.Playing.{behind}

-- a record with its first four bytes, and as many as its kind says, is whole
whole-made : (input : List ℕ) → 4 ≤ length input → record_length (kind_byte input) ≤ length input → whole_record input ≡ true
unfolding whole_record
whole-made input four all = and-made _ _ (le-leb 4 (length input) four) (le-leb (record_length (kind_byte input)) (length input) all)

-- lawful ones are
pub whole_if_lawful : (first : Bool) (input : List ℕ) → lawful first (front input) ≡ true → whole_record input ≡ true
whole_if_lawful first input e = whole-made input (lawful-head-long input first e) (lawful-long input first e)

module _ (input : List ℕ) (whole : whole_record input ≡ true) where
  -- it has four bytes
  pub whole-least : 4 ≤ length input
  unfolding whole_record
  whole-least = leb-true 4 (length input) (and_left _ _ whole)

  -- and as many as its kind says
  whole_length : record_length (kind_byte input) ≤ length input
  unfolding whole_record
  whole_length = leb-true (record_length (kind_byte input)) (length input) (and_right (leb 4 (length input)) _ whole)

  module _ (more : List ℕ) where
    -- what comes in behind it does not change its kind
    whole-kind : kind_byte (input ++ more) ≡ kind_byte input
    whole-kind = get_or-append input more 0 2 (omega (arith, whole-least))

    -- nor that it is whole
    pub whole-stays : whole_record (input ++ more) ≡ true
    whole-stays = whole-made (input ++ more) (omega (arith, whole-least, length-append input more)) (rw whole-kind (omega (arith, whole_length, length-append input more)))

    -- nor its bytes
    pub front-stays : front (input ++ more) ≡ front input
    unfolding front
    front-stays = rw whole-kind (take-append-le (record_length (kind_byte input)) input more whole_length)

-- what is no whole record is shorter than the longest one
pub cut_short : (input : List ℕ) → whole_record input ≡ false → length input < longest_record
unfolding whole_record
cut_short input e =
    by (leb 4 (length input))
    (λ f. omega (arith, leb-false (record_length (kind_byte input)) (length input) (second-fails _ _ e f), record_longest (kind_byte input)))
    (λ f. omega (arith, leb-false 4 (length input) f))

-- what comes in comes in behind what stands behind the front
pub behind-stays : (input more : List ℕ) → drop (length (front input)) (input ++ more) ≡ behind input ++ more
behind-stays input more = drop-append-le (length (front input)) input more (omega (arith, front_length input))
