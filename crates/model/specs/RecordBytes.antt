-- Document 01, "Schedule bytes": the bytes of one record, and when they are lawful.
use Rattle.std.specs.Prelude.{Bool, not, cond, ◌&&◌, ◌||◌, List, [], ◌∷◌, ℕ, ◌+◌, ◌*◌, ◌/◌, ◌%◌, eqb, leb, ltb, get_or, length}
use Rattle.std.specs.Bool.{beq}
use Rattle.model.specs.Lists.{implies, all_of, all_below}

-- ---- kinds: "0 table .., 1 begin, 2 step, 3 cancel, 4 tick"
-- makes a table of as many threads as its thread byte says
abbrev pub table_kind : ℕ
table_kind = 0

-- begins the operation that the rest of the record holds
abbrev pub begin_kind : ℕ
begin_kind = 1

-- a step of the thread
abbrev pub step_kind : ℕ
step_kind = 2

-- a cancel of the thread
abbrev pub cancel_kind : ℕ
cancel_kind = 3

-- a tick
abbrev pub tick_kind : ℕ
tick_kind = 4

-- document 02, #104: "a new kind 5 is begin with the set", the last kind there is
abbrev pub set_kind : ℕ
set_kind = 5

-- a begin, of either kind
unfoldable pub is_begin : ℕ → Bool
is_begin kind = eqb kind begin_kind || eqb kind set_kind

-- "others 4": the bytes of a record that is no begin, and of the head that every record has
abbrev pub head_length : ℕ
head_length = 4

-- begin is "42 bytes in all, others 4"; with a set it has "four more bytes"
unfoldable pub record_length : ℕ → ℕ
record_length kind = cond (eqb kind begin_kind) 42 (cond (eqb kind set_kind) 46 head_length)

-- the bytes of the longest record
abbrev pub longest_record : ℕ
longest_record = 46

-- ---- the fields
-- byte i
abbrev pub byte : List ℕ → ℕ → ℕ
byte bytes i = get_or bytes i 0

-- "a kind byte"
abbrev pub kind_byte : List ℕ → ℕ
kind_byte bytes = byte bytes 2

-- "and a thread byte"
abbrev pub thread_byte : List ℕ → ℕ
thread_byte bytes = byte bytes 3

-- "Begin goes on with one byte each: parts .."
abbrev pub parts_byte : List ℕ → ℕ
parts_byte bytes = byte bytes 4

-- "target"
abbrev pub target_byte : List ℕ → ℕ
target_byte bytes = byte bytes 5

-- "partner"
abbrev pub partner_byte : List ℕ → ℕ
partner_byte bytes = byte bytes 6

-- "word count"
abbrev pub count_byte : List ℕ → ℕ
count_byte bytes = byte bytes 7

-- "send code"
abbrev pub send_time_byte : List ℕ → ℕ
send_time_byte bytes = byte bytes 8

-- "receive code"
abbrev pub receive_time_byte : List ℕ → ℕ
receive_time_byte bytes = byte bytes 9

-- "then eight words, low byte first"
unfoldable pub word_at : List ℕ → ℕ → ℕ
word_at bytes i = byte bytes (10 + 4 * i) + 256 * byte bytes (11 + 4 * i) + 65536 * byte bytes (12 + 4 * i) + 16777216 * byte bytes (13 + 4 * i)

-- document 02, #104: "the set in four more bytes, low byte first, after the words": as a ninth word
abbrev pub set_word : List ℕ → ℕ
set_word bytes = word_at bytes 8

-- "1 send"
unfoldable pub send_bit : ℕ → Bool
send_bit parts = eqb (parts % 2) 1

-- "2 receive"
unfoldable pub receive_bit : ℕ → Bool
receive_bit parts = eqb (parts / 2 % 2) 1

-- "4 open"
unfoldable pub open_bit : ℕ → Bool
open_bit parts = eqb (parts / 4 % 2) 1

-- ---- lawful
-- the rules of a begin: "4 open, only with 2; nothing above 7"; "Fields that the parts do not use, and words past the count, are 0"
unfoldable pub lawful_begin : List ℕ → Bool
lawful_begin bytes =
    let parts = parts_byte bytes in all_of (
    leb parts 7
    ∷ implies (open_bit parts) (receive_bit parts)
    ∷ implies (not (send_bit parts)) (eqb (target_byte bytes) 0 && eqb (count_byte bytes) 0 && eqb (send_time_byte bytes) 0)
    ∷ implies (not (receive_bit parts)) (eqb (receive_time_byte bytes) 0)
    ∷ implies (not (receive_bit parts) || open_bit parts) (eqb (partner_byte bytes) 0)
    ∷ all_below 8 (λ i. ltb i (count_byte bytes) || eqb (word_at bytes i) 0)
    ∷ []
    )

-- document 02, #104, the rules of a begin with a set: "its parts with 2 and without 4, and partner 0"
unfoldable pub lawful_set : List ℕ → Bool
lawful_set bytes = all_of (receive_bit (parts_byte bytes) ∷ not (open_bit (parts_byte bytes)) ∷ eqb (partner_byte bytes) 0 ∷ [])

-- the rules of every record, told whether it is the first: "the two-byte mark 4C 34"; kind 0 "first record, and only there"; "4 tick (thread byte 0)"
unfoldable pub lawful : Bool → List ℕ → Bool
lawful first bytes = all_of (
    eqb (byte bytes 0) 0x4C
    ∷ eqb (byte bytes 1) 0x34
    ∷ leb (kind_byte bytes) set_kind
    ∷ beq first (eqb (kind_byte bytes) table_kind)
    ∷ eqb (length bytes) (record_length (kind_byte bytes))
    ∷ implies (eqb (kind_byte bytes) tick_kind) (eqb (thread_byte bytes) 0)
    ∷ implies (is_begin (kind_byte bytes)) (lawful_begin bytes)
    ∷ implies (eqb (kind_byte bytes) set_kind) (lawful_set bytes)
    ∷ []
    )
