-- Document 01, "Schedule bytes": rules of lawful bytes, each broken alone by a schedule, and what `bondtrace` prints for it. For each there is a must-fail edit that drops it.
-- The other rules are run: `vectors` plays a schedule for each.
use mathlib.Core.Path.{◌≡◌, refl}
use mathlib.Core.List.{List, [], ◌∷◌, ◌++◌}
use Prim.Native.Nat.{ℕ, ◌-◌}
use Prim.Native.String.{String}
use lib.ListN.{length, set, replicate}
use Rattle.model.specs.Bondtrace.{ascii, bondtrace}
use Rattle.model.proofs.Computing.{computing}

-- ---- the bytes of lawful records, written out
-- a record of four bytes: its kind and its thread byte
abbrev pub brief : ℕ → ℕ → List ℕ
brief kind thread = 0x4C ∷ 0x34 ∷ kind ∷ thread ∷ []

-- the table record of two threads
abbrev pub table : List ℕ
table = brief 0 2

-- a step of thread 0
abbrev step : List ℕ
step = brief 2 0

-- a begin: its thread, the six bytes from parts to receive code, and the bytes of its words without the zeros at their end
abbrev pub begin_of : ℕ → List ℕ → List ℕ → List ℕ
begin_of thread fields words = brief 1 thread ++ fields ++ words ++ replicate (32 - length words) 0

-- 1 begins an open receive
abbrev open_receive : List ℕ
open_receive = begin_of 1 (6 ∷ 0 ∷ 0 ∷ 0 ∷ 0 ∷ 15 ∷ []) []

-- 0 begins to send one word to 1
abbrev send : List ℕ
send = begin_of 0 (1 ∷ 1 ∷ 0 ∷ 1 ∷ 15 ∷ 0 ∷ []) (250 ∷ [])

-- 1 begins a receive closed on a set of one, thread 0
abbrev pub set_receive : List ℕ
set_receive = brief 5 1 ++ (2 ∷ 0 ∷ 0 ∷ 0 ∷ 0 ∷ 15 ∷ []) ++ replicate 32 0 ++ (1 ∷ 0 ∷ 0 ∷ 0 ∷ [])

-- ---- the table
-- a schedule and the text that is printed for it
pub record PrintedRow : Type 0 where
  pub schedule : List ℕ
  pub text : String

-- a row as it is written below
abbrev prints : List ℕ → String → PrintedRow
prints schedule text = record { schedule = schedule; text = text }

-- the rows, named by what their last record tries
pub data Name : Type 0 where
  tick_of_a_thread second-table parts_8 partner_of-open word-after-last open-set : Name

-- the schedule and the text of each
unfoldable pub row : Name → PrintedRow
-- the thread byte of a tick is 0
row tick_of_a_thread = prints (table ++ brief 4 0 ++ brief 4 1) "bad 12 at 8\n"
-- "first record, and only there": the table record
row second-table = prints (table ++ step ++ table) "bad 12 at 8\n"
-- "nothing above 7": the next bit alone
row parts_8 = prints (table ++ open_receive ++ begin_of 0 (8 ∷ 0 ∷ 0 ∷ 0 ∷ 0 ∷ 0 ∷ []) []) "bad 12 at 46\n"
-- "Fields that the parts do not use .. are 0": the partner byte of an open receive
row partner_of-open = prints (table ++ step ++ set open_receive 6 2) "bad 12 at 8\n"
-- "words past the count, are 0": the second of one
row word-after-last = prints (table ++ open_receive ++ set send 14 1) "bad 12 at 46\n"
-- "its parts with 2 and without 4": with both
row open-set = prints (table ++ set set_receive 4 6) "bad 12 at 4\n"

-- each row's schedule prints its text
pub rows-printed : (name : Name) → bondtrace (row name).schedule ≡ ascii (row name).text
unfolding computing row
rows-printed tick_of_a_thread = refl
rows-printed second-table = refl
rows-printed parts_8 = refl
rows-printed partner_of-open = refl
rows-printed word-after-last = refl
rows-printed open-set = refl

-- opens what the rows of the next file are worked out from, once those of this file hold
unfoldable pub after_lawful_bytes : ℕ
unfolding computing
after_lawful_bytes = let rows = rows-printed in 0
