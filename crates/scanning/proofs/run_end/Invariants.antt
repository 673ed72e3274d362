use Rattle.scanning.specs.Scanned.{Passing}
use Rattle.scanning.proofs.run_end.Given as goal

-- every byte so far passes
abbrev pub invariant-loop-i : goal.invariant-loop-i
invariant-loop-i g l = Passing g.test l.bytes l.from l.i
