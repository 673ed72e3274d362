use Rattle.std.proofs.Common.{arith}
use Rattle.model.specs.Threads.{at, put}
use Rattle.unchecked.proofs.Performed.{accepted-few, tick-performed, none-ticked, one-more-ticked, all-ticked}
use Rattle.unchecked.proofs.tick_in.Goals as goal

pub loop-i-init : goal.loop-i-init
loop-i-init c = none-ticked _

pub bounds-table-i : goal.bounds-table-i
bounds-table-i c = omega (arith, accepted-few _ _ c.requires)

pub loop-i-preserved : goal.loop-i-preserved
unfolding at put
loop-i-preserved c = one-more-ticked _ _ _ _ c.loop-i.invariant c.tick_thread.ensures

pub returns : goal.returns
returns c = tick-performed _ c.requires _ (all-ticked _ _ _ c.loop-i.invariant (omega arith))

pub bounds-table-i-in-loop-i : goal.bounds-table-i-in-loop-i
bounds-table-i-in-loop-i c = omega (arith, accepted-few _ _ c.requires)
