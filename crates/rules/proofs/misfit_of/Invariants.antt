use Rattle.rules.proofs.Senders.{FitBelow}
use Rattle.rules.proofs.misfit_of.Given as goal

-- the pairs of the senders below s fit
abbrev pub invariant-loop-s : goal.invariant-loop-s
invariant-loop-s l = FitBelow l.n l.fn.rules l.s
