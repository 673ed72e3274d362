use Rattle.resting.proofs.Trying.{Trying}
use Rattle.resting.proofs.first_to_move.Given as goal

-- how far the steps were tried
abbrev pub invariant-loop-x : goal.invariant-loop-x
invariant-loop-x l = Trying l.table l.x
