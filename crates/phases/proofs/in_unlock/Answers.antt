use Rattle.model.specs.Step.{decide_in}
use Rattle.phases.proofs.in_unlock.Goals as goal

pub returns : goal.returns
unfolding decide_in
returns c = c.free_sender.ensures c.args.x
