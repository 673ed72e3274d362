-- Document 02, #104: a receive that is closed on a set. Each row has an operation that thread 0 begins on a new table of four threads, and the number by which
-- it is refused; then a trace, and records with a set.
use mathlib.Core.Path.{◌≡◌, refl}
use mathlib.Core.Bool.{true, false}
use mathlib.Core.List.{List, [], ◌∷◌, ◌++◌, map}
use Prim.Native.Nat.{ℕ}
use lib.ListN.{replicate}
use Rattle.model.specs.declared.Receive.TheVariants.{Absent}
use Rattle.model.specs.declared.Receive.{Receive}
use Rattle.model.specs.declared.Operation.{Operation}
use Rattle.model.specs.declared.Record.{Record}
use Rattle.model.specs.Answers.{accepted, moved, replied, asleep}
use Rattle.model.specs.Operations.{closed_beyond}
use Rattle.model.specs.Codes.{done, running, code_only}
use Rattle.model.specs.Calls.{Call, begin, spark_begin}
use Rattle.model.specs.Refusals.{refusal}
use Rattle.model.specs.Atomic.{first_machine}
use Rattle.model.specs.Encoding.{encode, lawful_record}
use Rattle.model.specs.Decoding.{record_of}
use Rattle.model.specs.Examples.{first_state, send_to, receive_only, open_for, closed_for, one_of_for, steps, received_from}
use Rattle.model.specs.Lists.{concat}
use Rattle.model.specs.Bondtrace.{ascii, bondtrace}
use Rattle.model.proofs.LawfulBytes.{brief, table, begin_of, set_receive}
use Rattle.model.proofs.Replay.{agree}
use Rattle.model.proofs.Answered.{Shown, showing, receiving}
use Rattle.model.proofs.EntryPoints.{after_entry_points}

-- ---- begins
-- an operation, and by which number it is refused, or 0
pub record SetRow : Type 0 where
  pub op : Operation
  pub number : ℕ

-- a receive part alone, and what is returned
abbrev receives : Receive → ℕ → SetRow
receives receive number = record { op = receive_only receive; number = number }

-- so many words to a target with a time code, then a receive part, and what is returned
abbrev calling : ℕ → ℕ → ℕ → Receive → ℕ → SetRow
calling target count time receive number = record { op = send_to target (replicate count 1) time receive; number = number }

-- the rows, named by what they show
pub data Name : Type 0 where
  two-members every-other empty itself itself-among-others beyond beyond-among-others itself-and-beyond : Name
  empty-behind-target empty-before-words empty-before-time words_of_a_set time_of_a_set : Name
  partner_40 partner_255 itself-before-partner_40 : Name

-- each operation, and what is returned
unfoldable pub row : Name → SetRow
-- "one bit of a 32-bit number each, thread 0 the lowest"
row two-members = receives (one_of_for 6 15) 0
row every-other = receives (one_of_for 14 15) 0
-- "15, empty set"
row empty = receives (one_of_for 0 15) 15
-- "Refusals 7 and 8 hold for every member"
row itself = receives (one_of_for 1 15) 7
row itself-among-others = receives (one_of_for 15 15) 7
row beyond = receives (one_of_for 16 15) 8
row beyond-among-others = receives (one_of_for 0x80000006 15) 8
row itself-and-beyond = receives (one_of_for 17 15) 7
-- "at begin after 8": so behind 7, and before 9 and 10
row empty-behind-target = calling 0 1 15 (one_of_for 0 15) 7
row empty-before-words = calling 1 9 15 (one_of_for 0 15) 15
row empty-before-time = receives (one_of_for 0 16) 15
row words_of_a_set = calling 1 9 15 (one_of_for 2 15) 9
row time_of_a_set = receives (one_of_for 2 16) 10
-- "one of N or more, 32 and above included, still returns 8"
row partner_40 = receives (closed_for 40 15) 8
row partner_255 = receives (closed_for 255 15) 8
row itself-before-partner_40 = calling 0 1 15 (closed_for 40 15) 7

-- the main entry returns what the row says
pub begun : (name : Name) → refusal (begin 0 (row name).op) (first_state 4) ≡ (row name).number
unfolding after_entry_points row
begun two-members = refl
begun every-other = refl
begun empty = refl
begun itself = refl
begun itself-among-others = refl
begun beyond = refl
begun beyond-among-others = refl
begun itself-and-beyond = refl
begun empty-behind-target = refl
begun empty-before-words = refl
begun empty-before-time = refl
begun words_of_a_set = refl
begun time_of_a_set = refl
begun partner_40 = refl
begun partner_255 = refl
begun itself-before-partner_40 = refl

-- of 32 threads no set has a member beyond, and 32 and above are still partners beyond
pub of_32 : map (λ (r : Receive). closed_beyond 32 r) (one_of_for 0x80000000 15 ∷ one_of_for 0xFFFFFFFF 15 ∷ closed_for 31 15 ∷ closed_for 32 15 ∷ closed_for 40 15 ∷ closed_for 255 15 ∷ [])
    ≡ replicate 3 false ++ replicate 3 true
unfolding after_entry_points
of_32 = refl

-- the empty set is refused through the spark entry too, before its words
pub spark-empty : refusal (spark_begin 0 (send_to 1 (replicate 4 1) 15 (one_of_for 0 15))) (first_state 4) ≡ 15
unfolding after_entry_points
spark-empty = refl

-- ---- "the first queued member of the set is looked for"
-- 3, which is no member, is queued at 0 first, then 2 and 1, which are; all sleep. 0 wakes 2, which delivers; 3 stays queued
unfoldable pub passed_over : List Call
passed_over =
    begin 3 (send_to 0 (9 ∷ []) 15 Absent) ∷ steps 3 3 ++ begin 2 (send_to 0 (250 ∷ []) 15 Absent) ∷ steps 3 2 ++ begin 1 (send_to 0 (8 ∷ []) 15 Absent) ∷ steps 3 1
    ++ receiving 0 (one_of_for 6 15) ∷ steps 3 0 ++ steps 6 2 ++ steps 1 3 ++ steps 1 1

-- what they show
unfoldable pub passed_shown : Shown
passed_shown = record {
  answers = map replied (accepted ∷ replicate 3 moved ++ accepted ∷ replicate 3 moved ++ accepted ∷ replicate 3 moved ++ accepted ∷ replicate 9 moved ++ asleep ∷ asleep ∷ []);
  outcomes = received_from 2 1 ∷ code_only running ∷ code_only done ∷ code_only running ∷ [];
}

-- they show this, and on them both machines go together
pub first_member : (showing passed_over ≡ passed_shown) × (agree 4 (first_state 4) first_machine passed_over ≡ true)
unfolding after_entry_points showing passed_over passed_shown
first_member = (refl, refl)

-- ---- records: "a record keeps its kind when read and written"
-- a record of thread 2
abbrev rec : ℕ → Operation → Record
rec kind o = record { kind = kind; thread = 2; op = o }

-- two words to 1, then a wait for one of 0, 2 and 31
abbrev both : Operation
both = send_to 1 (7 ∷ 8 ∷ []) 3 (one_of_for 0x80000005 4)

-- "begin with the set in four more bytes, low byte first, after the words, its parts with 2 and without 4, and partner 0"
pub set-written : encode (rec 5 both) ≡ 0x4C ∷ 0x34 ∷ 5 ∷ 2 ∷ 3 ∷ 1 ∷ 0 ∷ 2 ∷ 3 ∷ 4 ∷ 7 ∷ 0 ∷ 0 ∷ 0 ∷ 8 ∷ replicate 27 0 ++ (5 ∷ 0 ∷ 0 ∷ 0x80 ∷ [])
unfolding after_entry_points
set-written = refl

-- and read again
pub set-read : record_of (encode (rec 5 both)) ≡ rec 5 both
unfolding after_entry_points
set-read = refl

-- a set of one member keeps its kind; kind 1 has no set, kind 5 always one, which may be empty; other kinds have no operation
pub lawful_kinds : map (λ (r : Record). lawful_record false r) (
    rec 5 both ∷ rec 5 (receive_only (one_of_for 2 4)) ∷ rec 5 (receive_only (one_of_for 0 0)) ∷ rec 1 (receive_only (closed_for 1 4))
    ∷ rec 1 both ∷ rec 1 (receive_only (one_of_for 2 4)) ∷ rec 5 (receive_only (closed_for 1 4)) ∷ rec 5 (receive_only (open_for 4)) ∷ rec 5 (receive_only Absent) ∷ rec 2 (receive_only (one_of_for 0 0)) ∷ [])
    ≡ replicate 4 true ++ replicate 6 false
unfolding after_entry_points
lawful_kinds = refl

-- as a schedule: 1 waits for a set of one, thread 0, which sends it no words
pub set-printed : bondtrace (table ++ set_receive ++ begin_of 0 (1 ∷ 1 ∷ 0 ∷ 0 ∷ 15 ∷ 0 ∷ []) [] ++ concat (replicate 4 (brief 2 0))) ≡ ascii "records 7 refused 0\n0 0 255 0\n1 0 0 0\n"
unfolding after_entry_points
set-printed = refl

-- opens what the rows of the next file are worked out from, once those of this file hold
unfoldable pub after_partner_sets : ℕ
unfolding after_entry_points
after_partner_sets = let rows = begun in let all = of_32 in let spark = spark-empty in let trace = first_member in let bytes = set-written in let back = set-read in let kinds = lawful_kinds in let text = set-printed in 0
