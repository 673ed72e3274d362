use Rattle.rules.proofs.Senders.{OneEach}
use Rattle.rules.proofs.sender_misfit.Given as goal

-- the pairs with the targets below r fall in one row each
abbrev pub invariant-loop-r : goal.invariant-loop-r
invariant-loop-r l = OneEach l.s l.counts l.r
