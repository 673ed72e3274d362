use Rattle.std.proofs.Common.{sym, ◌∙◌, arith}
use Rattle.model.specs.Queues.{senders, search_place}
use Rattle.queues.proofs.Laws.{stops-here, goes_on, stops-at-end}
use Rattle.queues.proofs.search.Goals as goal

pub loop-i-preserved : goal.loop-i-preserved
loop-i-preserved c = record {
  inside = omega arith;
  passed = goes_on _ _ _ c.loop-i.invariant.passed c.if-senders-i.false (sym c.accepts_from.ensures ∙ c.if-accepts_from.false);
}

-- no place is left
pub returns-then-senders-i : goal.returns-then-senders-i
unfolding senders search_place
returns-then-senders-i c = cc (stops-at-end _ _ _ c.loop-i.invariant.passed c.if-senders-i.true, c.waiting-senders.ensures)

-- an acceptable sender stands there
pub returns-then-accepts_from : goal.returns-then-accepts_from
unfolding senders search_place
returns-then-accepts_from c = cc (stops-here _ _ _ c.loop-i.invariant.passed c.if-senders-i.false (sym c.accepts_from.ensures ∙ c.if-accepts_from.true), c.waiting-senders.ensures)
