-- What `bondtrace` prints, worked out for document 01's own examples.
use mathlib.Core.Path.{◌≡◌, refl}
use mathlib.Core.List.{List, [], ◌∷◌}
use Prim.Native.Nat.{ℕ}
use lib.ListN.{take}
use Rattle.model.specs.declared.Receive.TheVariants.{Absent}
use Rattle.model.specs.declared.Operation.{Operation}
use Rattle.model.specs.declared.Record.{Record}
use Rattle.model.specs.Threads.{no_operation}
use Rattle.model.specs.Schedule.{encode_all, decode_all}
use Rattle.model.specs.Bondtrace.{ascii, bondtrace}
use Rattle.model.specs.Examples.{send_to, receive_only, open_for}
use Rattle.model.proofs.Examples.{after_examples}

-- a record without an operation, and a begin
abbrev short : ℕ → ℕ → Record
short kind thread = record { kind = kind; thread = thread; op = no_operation }

abbrev beginning : ℕ → Operation → Record
beginning thread o = record { kind = 1; thread = thread; op = o }

-- P1 as a schedule
unfoldable pub p1 : List Record
p1 =
    short 0 2 ∷ beginning 1 (receive_only (open_for 15)) ∷ beginning 0 (send_to 1 (250 ∷ []) 15 Absent)
    ∷ short 2 0 ∷ short 2 0 ∷ short 2 0 ∷ short 2 0 ∷ short 2 0 ∷ short 2 1 ∷ []

-- its bytes
unfoldable pub p1_bytes : List ℕ
p1_bytes =
    0x4C ∷ 0x34 ∷ 0 ∷ 2
    ∷ 0x4C ∷ 0x34 ∷ 1 ∷ 1 ∷ 6 ∷ 0 ∷ 0 ∷ 0 ∷ 0 ∷ 15 ∷ 0 ∷ 0 ∷ 0 ∷ 0 ∷ 0 ∷ 0 ∷ 0 ∷ 0 ∷ 0 ∷ 0 ∷ 0 ∷ 0 ∷ 0 ∷ 0 ∷ 0 ∷ 0 ∷ 0 ∷ 0 ∷ 0 ∷ 0 ∷ 0 ∷ 0 ∷ 0 ∷ 0 ∷ 0 ∷ 0 ∷ 0 ∷ 0 ∷ 0 ∷ 0 ∷ 0 ∷ 0
    ∷ 0x4C ∷ 0x34 ∷ 1 ∷ 0 ∷ 1 ∷ 1 ∷ 0 ∷ 1 ∷ 15 ∷ 0 ∷ 250 ∷ 0 ∷ 0 ∷ 0 ∷ 0 ∷ 0 ∷ 0 ∷ 0 ∷ 0 ∷ 0 ∷ 0 ∷ 0 ∷ 0 ∷ 0 ∷ 0 ∷ 0 ∷ 0 ∷ 0 ∷ 0 ∷ 0 ∷ 0 ∷ 0 ∷ 0 ∷ 0 ∷ 0 ∷ 0 ∷ 0 ∷ 0 ∷ 0 ∷ 0 ∷ 0 ∷ 0
    ∷ 0x4C ∷ 0x34 ∷ 2 ∷ 0
    ∷ 0x4C ∷ 0x34 ∷ 2 ∷ 0
    ∷ 0x4C ∷ 0x34 ∷ 2 ∷ 0
    ∷ 0x4C ∷ 0x34 ∷ 2 ∷ 0
    ∷ 0x4C ∷ 0x34 ∷ 2 ∷ 0
    ∷ 0x4C ∷ 0x34 ∷ 2 ∷ 1
    ∷ []

pub p1_encoded : encode_all p1 ≡ p1_bytes
unfolding after_examples p1 p1_bytes
p1_encoded = refl

pub p1_decoded : (decode_all p1_bytes).records ≡ p1
unfolding after_examples p1 p1_bytes
p1_decoded = refl

-- "P1 below prints exactly"
pub p1-printed : bondtrace p1_bytes ≡ ascii "records 9 refused 0\n0 0 255 0\n1 0 0 1 250\n"
unfolding after_examples p1_bytes
p1-printed = refl

-- "`bad 12 at 46`": P1 cut short within its third record
pub cut_short : bondtrace (take 60 p1_bytes) ≡ ascii "bad 12 at 46\n"
unfolding after_examples p1_bytes
cut_short = refl

-- "input empty"
pub empty-input : bondtrace [] ≡ ascii "bad 12 at 0\n"
unfolding after_examples
empty-input = refl

-- opens what the rows of the next file are worked out from, once those of this file hold
unfoldable pub after_printed : ℕ
unfolding after_examples
after_printed = let first = p1_encoded in let second = p1_decoded in let third = p1-printed in let fourth = cut_short in let fifth = empty-input in 0
