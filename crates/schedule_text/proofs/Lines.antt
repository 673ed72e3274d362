-- What a line comes to, by what is returned of its command.
use mathlib.Core.Path.{◌≡◌, refl, sym}
use mathlib.Core.Bool.{Bool, true, false, ◌&&◌, and-true, and-false}
use mathlib.Core.List.{List, [], ◌∷◌, map}
use mathlib.Core.Option.{some}
use Prim.Native.Nat.{ℕ, suc, ◌≤◌, ◌<◌}
use native.Mathlib.Omega.{arith}
use lib.Dec.{eqb}
use lib.ListN.{length, take}
use borrow.Author.Tests.{ne_eqb, le-leb, lt-leb}
use Rattle.model.specs.declared.Operation.{Operation}
use Rattle.model.specs.RecordBytes.{tick_kind}
use Rattle.std.specs.Prelude.{Some, None}
use Rattle.roundtrip.specs.Fits.{Bytes}
use Rattle.language.specs.Commands.{skipped, wrong, asked, command_of}
use Rattle.language.specs.RecordText.{threads_of, records_asked, lawful_row, records_of}
use Rattle.language.specs.ScheduleText.{first_after}
use Rattle.commands.specs.declared.Asked.{Asked}
use Rattle.commands.specs.declared.Misread.{Misread}
use Rattle.commands.specs.Standing.{Refuses, Asks}
use Rattle.schedule_text.specs.Steps.{record_for, next_after}
use Rattle.schedule_text.proofs.Named.{threads-bytes}

-- the next record is the first where there was none before it
first-after : (first : Bool) (row : ℕ) (operation : Operation) (threads : List ℕ) → (first && eqb (length threads) 0) ≡ first_after first (some (map (record_for row operation) threads))
unfolding first_after
first-after first row operation [] = and-true first
first-after first row operation (thread ∷ threads) = rw (ne_eqb (suc (length threads)) 0 (λ e. omega arith)) (and-false first)

-- ---- a line without a row
-- one that is no command has no records
pub step-wrong : (line : List ℕ) {m : Misread} → Refuses line wrong (command_of line) m → (first : Bool) → None ≡ next_after first (records_of first (command_of line))
unfolding records_of
step-wrong line r first = rw (← r.means)

-- one that is skipped has none either, and is good
pub step-skipped : (line : List ℕ) → skipped ≡ command_of line → (first : Bool) → Some first ≡ next_after first (records_of first (command_of line))
unfolding records_of first_after
step-skipped line e first = rw (← e)

-- ---- any other, by its row, its numbers and its operation
module _ (line : List ℕ) {numbers : List ℕ} {r : Asked} (p : Asks numbers (command_of line) r) where
  -- its numbers
  abbrev pub named : List ℕ
  named = take r.count numbers

  is-asked : command_of line ≡ asked r.row named r.op
  is-asked = sym p.means

  -- it is none of a schedule
  pub step_other : (first : Bool) → tick_kind < r.row → None ≡ next_after first (records_of first (command_of line))
  unfolding records_of
  step_other first high = rw (is-asked, lt-leb r.row tick_kind high) refl

  module _ (low : r.row ≤ tick_kind) where
    -- it is one: its threads are bytes
    pub asked-bytes : Bytes (threads_of r.row named)
    asked-bytes = threads-bytes line r.row named r.op is-asked low

    -- its records are lawful
    pub step-lawful : (first : Bool) {many : ℕ} {answer : Bool} → many ≡ length (threads_of r.row named) → answer ≡ lawful_row first (records_asked r.row named r.op) → answer ≡ true
        → Some (first && eqb many 0) ≡ next_after first (records_of first (command_of line))
    unfolding records_of records_asked
    step-lawful first as_many told lawful = rw (as_many, is-asked, le-leb r.row tick_kind low, ← told, lawful, first-after first r.row r.op (threads_of r.row named)) refl

    -- or not
    pub step-unlawful : (first : Bool) {answer : Bool} → answer ≡ lawful_row first (records_asked r.row named r.op) → answer ≡ false
        → None ≡ next_after first (records_of first (command_of line))
    unfolding records_of
    step-unlawful first told unlawful = rw (is-asked, le-leb r.row tick_kind low, ← told, unlawful) refl
