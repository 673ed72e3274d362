use Rattle.std.proofs.Common.{sym}
use Rattle.scanning.proofs.Runs.{passing-start, passing-more}
use Rattle.scanning.proofs.run_end.Goals as goal

-- the run starts with no byte
pub loop-i-init : goal.loop-i-init
loop-i-init g c = passing-start _ _ _ c.requires.1.0

-- it goes on
pub loop-i-preserved : goal.loop-i-preserved
loop-i-preserved g c =
    passing-more _ _ _ c.loop-i.invariant c.loop-i-test.true (sym (c.requires.1.1.1 _ _ c.if-not-passes.ensures))
