use Rattle.scanning.proofs.Runs.{line-found}
use Rattle.scanning.proofs.line_end.Goals as goal

-- the end of a line is found
pub returns : goal.returns
returns c = line-found _ _ _ c.run_end.ensures
