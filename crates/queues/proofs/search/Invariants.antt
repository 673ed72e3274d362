use Rattle.std.proofs.Common.{◌-◌, ◌≤◌, length}
use Rattle.model.specs.Lists.{place_where}
use Rattle.model.specs.Operations.{accepts}
use Rattle.queues.proofs.search.Given as goal

-- no sender before place i is acceptable
abbrev pub invariant-loop-i : goal.invariant-loop-i
invariant-loop-i l = record {
  inside : l.i ≤ length l.senders;
  passed : l.i ≤ place_where (accepts l.fn.h.op.receive) l.senders;
}

-- how many places are left
abbrev pub decreases-loop-i : goal.decreases-loop-i
decreases-loop-i l = length l.senders - l.i
