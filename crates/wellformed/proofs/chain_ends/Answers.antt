use Rattle.std.proofs.Common.{arith}
use Rattle.model.specs.Threads.{at}
use Rattle.wellformed.proofs.Chains.{followed_none, followed_more, followed_out, followed_back, followed_all}
use Rattle.wellformed.proofs.chain_ends.Goals as goal

pub loop-init : goal.loop-init
unfolding at
loop-init c = followed_none _ _ _ (omega arith)

-- past the table
pub returns-then-table-owner : goal.returns-then-table-owner
returns-then-table-owner c = followed_out c.loop.invariant (omega arith) (omega arith) c.if-table-owner.true

-- back at r
pub returns-then-owner-r : goal.returns-then-owner-r
returns-then-owner-r c = followed_back c.loop.invariant c.loop-test.true c.if-owner-r.true

pub loop-preserved : goal.loop-preserved
unfolding at
loop-preserved c = followed_more c.loop.invariant (omega arith) c.if-owner-r.false

-- as many as there are threads
pub returns : goal.returns
returns c = followed_all c.loop.invariant (omega arith)
