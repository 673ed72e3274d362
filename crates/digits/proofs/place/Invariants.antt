use Rattle.digits.proofs.Places.{Placed}
use Rattle.digits.proofs.place.Given as goal

-- p is read from the outcomes from i on
abbrev pub invariant-loop-i : goal.invariant-loop-i
invariant-loop-i l = Placed l.n l.outcomes l.i l.p
