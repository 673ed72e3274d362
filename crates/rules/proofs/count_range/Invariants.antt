use Rattle.rules.proofs.Counting.{CountedTo}
use Rattle.rules.proofs.count_range.Given as goal

-- the targets up to t are counted
abbrev pub invariant-loop-t : goal.invariant-loop-t
invariant-loop-t l = CountedTo l.n l.range l.t l.initial.counts l.counts
