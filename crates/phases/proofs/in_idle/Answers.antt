use Rattle.std.proofs.Common.{refl}
use Rattle.model.specs.Answers.{Reply}
use Rattle.model.specs.Step.{decide_in}
use Rattle.phases.proofs.in_idle.Goals as goal

pub returns : goal.returns
unfolding decide_in
returns c = c.stay_with.ensures c.args.x Reply.idle refl
