use Rattle.std.proofs.Common.{◌≡◌}
use Rattle.report.proofs.Reports.{filled}
use Rattle.report.proofs.outcomes_of.Given as goal

-- the outcomes of the first x threads are gathered
abbrev pub invariant-loop-x : goal.invariant-loop-x
invariant-loop-x l = l.outcome-items ≡ filled l.table l.x l.initial.outcome-items
