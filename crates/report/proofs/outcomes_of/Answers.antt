use Rattle.std.proofs.Common.{◌≡◌, ◌<◌, refl, arith}
use Rattle.model.specs.Threads.{at}
use Rattle.report.specs.Report.{all_outcomes}
use Rattle.report.proofs.Reports.{filled_none, filled_more, filled-all}
use Rattle.report.proofs.outcomes_of.Goals as goal

pub loop-x-init : goal.loop-x-init
loop-x-init c = filled_none _ _

pub loop-x-preserved : goal.loop-x-preserved
unfolding at
loop-x-preserved c = let below : c.loop-x.x < 32 = omega arith in rw c.loop-x.invariant (filled_more c.args.table c.loop-x.x _ _ below refl)

pub returns : goal.returns
unfolding all_outcomes
returns c = let all : c.loop-x.x ≡ 32 = omega arith in rw (c.loop-x.invariant, all) (filled-all c.args.table 32 _ (omega arith))
