use Rattle.std.proofs.Common.{arith, inl, inr}
use Rattle.rules.proofs.Counting.{counted_none, next-count, counted-more, counted-all}
use Rattle.rules.proofs.count_range.Goals as goal

pub loop-t-init : goal.loop-t-init
loop-t-init c = counted_none _ _ _ c.told-counts

-- past the range
pub returns-then-range-t : goal.returns-then-range-t
returns-then-range-t c = counted-all _ _ c.loop-t.invariant (inl c.if-range-t.true)

pub overflow_add-counts : goal.overflow_add-counts
overflow_add-counts c = omega (arith, next-count _ _ c.loop-t.invariant c.loop-t-test.true, c.requires.1.room c.loop-t.t c.loop-t-test.true)

pub loop-t-preserved : goal.loop-t-preserved
loop-t-preserved c = counted-more _ _ c.loop-t.invariant c.requires.0 c.loop-t-test.true c.if-range-t.false

-- past the table
pub returns : goal.returns
returns c = counted-all _ _ c.loop-t.invariant (inr c.loop-t-test.false)
