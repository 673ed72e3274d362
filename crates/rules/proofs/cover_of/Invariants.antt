use Rattle.std.proofs.Common.{take}
use Rattle.rules.specs.Covers.{Covers}
use Rattle.rules.proofs.cover_of.Given as goal

-- the counts are those of the rows so far
abbrev pub invariant-loop-row : goal.invariant-loop-row
invariant-loop-row l = Covers l.n (take l.row-index l.rows) l.s l.counts
