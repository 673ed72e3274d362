-- What a line of a text comes to, where it is read as one of a schedule.
use Rattle.std.specs.Prelude.{Bool, List, ℕ, Some, None}
use Rattle.std.specs.Prelude
use Rattle.std.proofs.Math.Option.{Option, none, some}
use Rattle.model.specs.declared.Operation.{Operation}
use Rattle.model.specs.declared.Record.{Record}
use Rattle.language.specs.RecordText.{kind_asked}
use Rattle.language.specs.ScheduleText.{first_after}

-- the record of a line for one of its threads
abbrev pub record_for : ℕ → Operation → ℕ → Record
record_for row operation thread = record { kind = kind_asked row operation; thread = thread; op = operation }

-- whether the next record is the first, where a line has its records
abbrev pub next_after : Bool → Option (List Record) → Prelude.Option Bool
next_after first none = None
next_after first (some records) = Some (first_after first (some records))
