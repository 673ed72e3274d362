-- From what the core may run without a check.
use Rattle.std.specs.Prelude.{◌≡◌, ◌*◌, true, length}
use Rattle.model.specs.declared.Table.{Table}
use Rattle.model.specs.WellFormed.{Shaped, well_formed}
use Rattle.model.specs.Calls.{State}

-- a table from which the core may run: it has passed the check, or was left by a call that started from one that had
pub record Checked (t : Table) : Type 0 where
  pub formed : well_formed t ≡ true
  pub shaped : Shaped t

-- the table is checked, and the store has eight words for each thread
pub record Runnable (s : State) : Type 0 where
  pub checked : Checked s.table
  pub words : length s.store ≡ 8 * s.table.n
