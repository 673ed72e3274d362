-- Reading and writing one record: what is not refused, and what is refused by number 12; whether bytes are left to read.
use mathlib.Core.Path.{◌≡◌, refl}
use mathlib.Core.Bool.{Bool, true, false, ◌&&◌}
use mathlib.Core.List.{List, [], ◌∷◌}
use Prim.Native.Nat.{ℕ, ◌<◌}
use native.Mathlib.Omega.{arith}
use lib.ListN.{length}
use lib.Dec.{leb}
use Rattle.model.specs.declared.Record.{Record}
use Rattle.model.specs.Refusals.{first_refusal}
use Rattle.model.specs.RecordBytes.{lawful}
use Rattle.model.specs.Decoding.{front, unreadable, decode_refusal}
use Rattle.model.specs.Encoding.{encode, lawful_record, unwritable, encode_refusal}
use Rattle.model.specs.Schedule.{is_empty}

-- ---- reading
module _ (first : Bool) (input : List ℕ) where
  -- reading bytes with a lawful record at the front is not refused
  pub read-accepted : lawful first (front input) ≡ true → decode_refusal first input ≡ 0
  unfolding decode_refusal unreadable first_refusal
  read-accepted e = rw e refl

  -- reading bytes without a lawful record at the front is refused by number 12
  pub read-refused : lawful first (front input) ≡ false → decode_refusal first input ≡ 12
  unfolding decode_refusal unreadable first_refusal
  read-refused e = rw e refl

-- a list with a byte in it is not empty
pub not-empty : (l : List ℕ) → 0 < length l → is_empty l ≡ false
not-empty [] h = absurd (omega arith)
not-empty (a ∷ l) h = refl

-- a list with no byte in it is empty
pub is-empty : (l : List ℕ) → length l ≡ 0 → is_empty l ≡ true
is-empty [] e = refl
is-empty (a ∷ l) e = absurd (omega arith)

-- ---- writing
module _ (first : Bool) (r : Record) (buffer : List ℕ) where
  -- the test that writing makes: the record is lawful, and its bytes have room in the buffer
  abbrev pub writable : Bool
  writable = lawful_record first r && leb (length (encode r)) (length buffer)

  -- writing a record that passes the test is not refused
  pub write-accepted : writable ≡ true → encode_refusal first r buffer ≡ 0
  unfolding encode_refusal unwritable first_refusal
  write-accepted e = rw e refl

  -- writing a record that fails the test is refused by number 12
  pub write-refused : writable ≡ false → encode_refusal first r buffer ≡ 12
  unfolding encode_refusal unwritable first_refusal
  write-refused e = rw e refl
