-- Document 02, #107: the spark entry. Each row has an operation that thread 0 begins, and the number by which either entry refuses it; then a trace with begins through both.
use mathlib.Core.Path.{◌≡◌, refl}
use mathlib.Core.Bool.{true, false}
use mathlib.Core.List.{List, [], ◌∷◌, ◌++◌, map}
use Prim.Native.Nat.{ℕ}
use lib.ListN.{replicate}
use Rattle.model.specs.declared.Receive.TheVariants.{Absent}
use Rattle.model.specs.declared.Receive.{Receive}
use Rattle.model.specs.declared.Operation.{Operation}
use Rattle.model.specs.Answers.{accepted, moved, refused, replied}
use Rattle.model.specs.Codes.{done, never_begun, code_only}
use Rattle.model.specs.Calls.{Call, begin, spark_begin}
use Rattle.model.specs.Refusals.{refusal}
use Rattle.model.specs.Atomic.{first_machine}
use Rattle.model.specs.Examples.{first_state, send_to, open_for, closed_for, steps, received_from}
use Rattle.model.proofs.Replay.{agree}
use Rattle.model.proofs.Answered.{Shown, showing, receiving}
use Rattle.model.proofs.Limits.{after_limits}

-- an operation, and by which number the main and the spark entry refuse it, or 0
pub record BeginRow : Type 0 where
  pub op : Operation
  pub main : ℕ
  pub spark : ℕ

-- ---- short forms that the rows are written in
-- so many words to thread 1, without end, and what is returned
abbrev words : ℕ → ℕ → ℕ → BeginRow
words count main spark = record { op = send_to 1 (replicate count 1) 15 Absent; main = main; spark = spark }

-- four words to a target with a time code, then a receive part, and what is returned
abbrev four : ℕ → ℕ → Receive → ℕ → ℕ → BeginRow
four target time receive main spark = record { op = send_to target (replicate 4 1) time receive; main = main; spark = spark }

-- an operation without a send part, though nine words are counted there
abbrev nine_unused : Receive → Operation
nine_unused receive = record { send = record { present = false; target = 0; count = 9; time = 0; words = replicate 8 1 }; receive = receive }

-- ---- the table
-- the rows, named by what they show
pub data Name : Type 0 where
  no_word three_words four-words eight-words nine_words most-words : Name
  words-before-time time_of_three_words itself-before-words partner-before-words target-beyond no-send-part neither-part : Name

-- each operation, and what is returned
unfoldable pub row : Name → BeginRow
-- "Begins through that entry allow at most 3 words; through the main entry 8 still holds"
row no_word = words 0 0 0
row three_words = words 3 0 0
row four-words = words 4 0 16
row eight-words = words 8 0 16
-- "16, more than 3 words through the spark entry, in the place of 9"
row nine_words = words 9 9 16
row most-words = words 255 9 16
-- so before 10, and behind 7 and 8
row words-before-time = four 1 16 Absent 10 16
row time_of_three_words = record { op = send_to 1 (replicate 3 1) 16 Absent; main = 10; spark = 10 }
row itself-before-words = four 0 15 Absent 7 7
row partner-before-words = four 1 15 (closed_for 4 15) 8 8
-- a target of N or more is no refusal, and four words to it are one
row target-beyond = four 9 15 Absent 0 16
-- only a send part has words
row no-send-part = record { op = nine_unused (open_for 15); main = 0; spark = 0 }
row neither-part = record { op = nine_unused Absent; main = 6; spark = 6 }

-- either entry returns what the row says
pub entered : (name : Name) → let o = (row name).op in (refusal (begin 0 o) (first_state 4) ≡ (row name).main) × (refusal (spark_begin 0 o) (first_state 4) ≡ (row name).spark)
unfolding after_limits row
entered no_word = (refl, refl)
entered three_words = (refl, refl)
entered four-words = (refl, refl)
entered eight-words = (refl, refl)
entered nine_words = (refl, refl)
entered most-words = (refl, refl)
entered words-before-time = (refl, refl)
entered time_of_three_words = (refl, refl)
entered itself-before-words = (refl, refl)
entered partner-before-words = (refl, refl)
entered target-beyond = (refl, refl)
entered no-send-part = (refl, refl)
entered neither-part = (refl, refl)

-- ---- "Both entries share the one table"
-- through the spark entry 2 is refused four words and sends three to 1; then 0 sends it eight through the main one: "8 still holds, also for messages sent to the spark thread"
unfoldable pub both_entries : List Call
both_entries =
    receiving 1 (open_for 15) ∷ spark_begin 2 (send_to 1 (replicate 4 5) 15 (open_for 15)) ∷ spark_begin 2 (send_to 1 (replicate 3 5) 15 (open_for 15)) ∷ steps 7 2
    ++ begin 0 (send_to 2 (replicate 8 6) 15 Absent) ∷ steps 12 0

-- what they show
unfoldable pub both_shown : Shown
both_shown = record {
  answers = replied accepted ∷ refused 16 ∷ map replied (accepted ∷ replicate 7 moved ++ accepted ∷ replicate 12 moved);
  outcomes = code_only done ∷ received_from 2 3 ∷ received_from 0 8 ∷ code_only never_begun ∷ [];
}

-- they show this, and on them both machines go together
pub shared-table : (showing both_entries ≡ both_shown) × (agree 4 (first_state 4) first_machine both_entries ≡ true)
unfolding after_limits showing both_entries both_shown
shared-table = (refl, refl)

-- opens what the rows of the next file are worked out from, once those of this file hold
unfoldable pub after_entry_points : ℕ
unfolding after_limits
after_entry_points = let rows = entered in let both = shared-table in 0
