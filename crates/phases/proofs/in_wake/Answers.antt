use Rattle.model.specs.Step.{decide_in}
use Rattle.phases.proofs.in_wake.Goals as goal

pub returns : goal.returns
unfolding decide_in
returns c = c.clear_poll.ensures c.args.x
