use Rattle.scanning.specs.Scanned.{of_line}
use Rattle.scanning.proofs.line_end.Given as goal

-- a run of bytes of a line
abbrev pub ghost-run_end : goal.ghost-run_end
ghost-run_end a = of_line
