-- Demand 2, record by record: what is lawful survives reading and writing, and all else is refused.
use Rattle.std.specs.Prelude.{◌≡◌, ◌⊎◌, Bool, true, false, List, ◌++◌, ℕ, ◌≤◌, ◌<◌, length, drop}
use Rattle.model.specs.declared.Record.{Record}
use Rattle.model.specs.declared.Answer.{Answer}
use Rattle.model.specs.Answers.{accepted, refused, replied, said}
use Rattle.model.specs.Threads.{no_operation}
use Rattle.model.specs.Decoding.{front, record_of, decode_answer, decode, DecodePromise}
use Rattle.model.specs.RecordBytes.{lawful}
use Rattle.model.specs.Encoding.{encode, lawful_record, encode_answer, encode_buffer, EncodePromise}
use Rattle.roundtrip.specs.Fits.{Bytes, FitsRecord}

-- ---- reading
-- reading is accepted: it takes the record's bytes off the front of the input and gives the record
pub record Reads (first : Bool) (input : List ℕ) (r : Record) : Type 0 where
  pub answers : decode_answer first input ≡ replied accepted
  pub item : decode first input ≡ r
  pub takes : front input ≡ encode r

-- reading is refused, and the record is all zero
pub record RefusesToRead (first : Bool) (input : List ℕ) : Type 0 where
  pub answers : decode_answer first input ≡ refused 12
  pub item : decode first input ≡ record { kind = 0; thread = 0; op = no_operation }

-- a lawful record is read back from its bytes, whatever stands behind them
abbrev pub ReadWritten : Type 0
ReadWritten = (first : Bool) (r : Record) (rest : List ℕ) → FitsRecord r → lawful_record first r ≡ true → Reads first (encode r ++ rest) r

-- bytes are read as a lawful record, which is written as those bytes
pub record WritesBack (first : Bool) (input : List ℕ) : Type 0 where
  pub reads : Reads first input (record_of (front input))
  pub lawfully : lawful_record first (record_of (front input)) ≡ true
  pub fits : FitsRecord (record_of (front input))

-- lawful bytes are written back from the record that is read from them
abbrev pub WrittenRead : Type 0
WrittenRead = (first : Bool) (input : List ℕ) → Bytes input → lawful first (front input) ≡ true → WritesBack first input

-- "record cut short, unlawful, or input empty"
abbrev pub ReadingRefused : Type 0
ReadingRefused = (first : Bool) (input : List ℕ) → lawful first (front input) ≡ false → RefusesToRead first input

-- ---- writing
-- what is written of a record are bytes
abbrev pub BytesWritten : Type 0
BytesWritten = (r : Record) → FitsRecord r → Bytes (encode r)

-- writing is accepted: the record stands at the front of the buffer, which is unchanged past it, and reading gives it back
pub record Writes (first : Bool) (r : Record) (before : List ℕ) : Type 0 where
  pub answers : encode_answer first r before ≡ replied accepted
  pub buffer : encode_buffer first r before ≡ encode r ++ drop (length (encode r)) before
  pub same_length : length (encode_buffer first r before) ≡ length before
  pub reads : FitsRecord r → Reads first (encode_buffer first r before) r

-- writing is refused, and the buffer is unchanged
pub record RefusesToWrite (first : Bool) (r : Record) (before : List ℕ) : Type 0 where
  pub answers : encode_answer first r before ≡ refused 12
  pub buffer : encode_buffer first r before ≡ before

-- a lawful record is written where it has room
abbrev pub RecordWritten : Type 0
RecordWritten = (first : Bool) (r : Record) (buffer : List ℕ) → lawful_record first r ≡ true → length (encode r) ≤ length buffer → Writes first r buffer

-- a record that is unlawful, or longer than the buffer, is not written
abbrev pub WritingRefused : Type 0
WritingRefused = (first : Bool) (r : Record) (buffer : List ℕ) → (lawful_record first r ≡ false) ⊎ (length buffer < length (encode r)) → RefusesToWrite first r buffer

-- ---- what two calls promise together
-- writing a record and then reading the buffer gives the record back
abbrev pub WriteThenRead : Type 0
WriteThenRead =
    (first : Bool) (r : Record) (buffer after : List ℕ) (wrote read : Answer) (item : Record) → FitsRecord r
    → EncodePromise first r buffer wrote after → said wrote ≡ replied accepted → DecodePromise first after read item
    → (said read ≡ replied accepted) × (item ≡ r)

-- reading a record and then writing it into a buffer with room puts the same bytes there
abbrev pub ReadThenWrite : Type 0
ReadThenWrite =
    (first : Bool) (input buffer after : List ℕ) (read wrote : Answer) (item : Record) → Bytes input
    → DecodePromise first input read item → said read ≡ replied accepted → EncodePromise first item buffer wrote after → length (front input) ≤ length buffer
    → (said wrote ≡ replied accepted) × (after ≡ front input ++ drop (length (front input)) buffer)
