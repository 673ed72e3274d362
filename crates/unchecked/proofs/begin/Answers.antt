use Rattle.unchecked.proofs.Performed.{accepted-shaped}
use Rattle.unchecked.proofs.begin.Goals as goal

-- the table's arrays are whole, as its type tells
pub begin_in-requires-clause-shaped : goal.begin_in-requires-clause-shaped
begin_in-requires-clause-shaped c = accepted-shaped _ _ c.requires _ c.well_formed.0
