use Rattle.engine.proofs.Loading.{misfit_untold}
use Rattle.engine.proofs.load.Goals as goal

pub returns-in-Err-clause-misfit : goal.returns-in-Err-clause-misfit
returns-in-Err-clause-misfit c = rw c.told.ensures (misfit_untold _ _ _ c.in-Err.ensures)
