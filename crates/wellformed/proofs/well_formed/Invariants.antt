use Rattle.wellformed.proofs.Passed.{Passed}
use Rattle.wellformed.proofs.well_formed.Given as goal

-- the first x threads passed
abbrev pub invariant-loop-x : goal.invariant-loop-x
invariant-loop-x l = Passed l.table l.x l.waits
