-- What is known where no row on the table and on a thread's number holds.
use Rattle.std.specs.Prelude.{◌≡◌, ℕ, ◌<◌, ◌≤◌, true}
use Rattle.model.specs.declared.Table.{Table}
use Rattle.model.specs.WellFormed.{well_formed}

-- the table is well-formed, and the thread is one of it
pub record There (t : Table) (x : ℕ) : Type 0 where
  pub formed : well_formed t ≡ true
  pub few : t.n ≤ 32
  pub below : x < t.n
