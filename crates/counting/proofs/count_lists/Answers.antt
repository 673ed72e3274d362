use Rattle.std.proofs.Common.{arith}
use Rattle.counting.proofs.Starts.{start_in_counts, counted_start, trying_all, counted-all}
use Rattle.counting.proofs.count_lists.Goals as goal

pub bounds-counts-table : goal.bounds-counts-table
bounds-counts-table c = start_in_counts c.requires

-- there is no step to make
pub returns-then-length-eq0 : goal.returns-then-length-eq0
returns-then-length-eq0 c = counted_start c.requires c.if-length-eq0.true

pub try_next-requires : goal.try_next-requires
try_next-requires c = trying_all c.requires (omega (arith, c.if-length-eq0.false))

pub returns : goal.returns
returns c = counted-all c.requires (omega (arith, c.if-length-eq0.false)) c.try_next.auto.counts c.try_next.ensures
