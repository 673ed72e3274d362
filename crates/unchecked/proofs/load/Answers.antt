use Rattle.unchecked.proofs.Performed.{load-performed}
use Rattle.unchecked.proofs.load.Goals as goal

pub returns : goal.returns
returns c = load-performed _ _ c.requires
