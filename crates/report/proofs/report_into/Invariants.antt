use Rattle.std.proofs.Common.{◌≡◌}
use Rattle.report.proofs.Reports.{filled}
use Rattle.report.proofs.report_into.Given as goal

-- the first i records are filled
abbrev pub invariant-loop-i : goal.invariant-loop-i
invariant-loop-i l = l.records ≡ filled l.fn.table l.i l.initial.records
