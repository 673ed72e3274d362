use Rattle.unchecked.proofs.Performed.{accepted-shaped}
use Rattle.unchecked.proofs.step.Goals as goal

-- the table's arrays are whole, as its type tells
pub step_in-answer-requires-clause-shaped : goal.step_in-answer-requires-clause-shaped
step_in-answer-requires-clause-shaped c = accepted-shaped _ _ c.requires _ c.well_formed.0
