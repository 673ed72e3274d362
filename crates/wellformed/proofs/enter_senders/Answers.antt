use Rattle.std.proofs.Common.{arith}
use Rattle.model.specs.Queues.{senders}
use Rattle.wellformed.proofs.Entering.{entered-none, entered-next, all-entered, beyond-table, waits_already}
use Rattle.wellformed.proofs.enter_senders.Goals as goal

pub loop-s-init : goal.loop-s-init
loop-s-init c = entered-none _ _ _ c.told-waits

-- no thread of the table
pub returns-then-n-s : goal.returns-then-n-s
unfolding senders
returns-then-n-s c = beyond-table _ c.loop-s.s-index c.loop-s-test.true c.if-n-s.true

-- one that waits somewhere
pub returns-then-waits-s : goal.returns-then-waits-s
unfolding senders
returns-then-waits-s c = waits_already _ c.loop-s.s-index c.loop-s-test.true c.loop-s.invariant c.if-waits-s.true

pub loop-s-preserved : goal.loop-s-preserved
loop-s-preserved c = entered-next _ _ (omega arith) (omega arith) c.loop-s-test.true (omega arith) c.loop-s.invariant c.if-waits-s.false

-- all are entered
pub returns : goal.returns
unfolding senders
returns c = all-entered _ c.loop-s.s-index c.loop-s-test.false c.loop-s.invariant
