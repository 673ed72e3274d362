use Rattle.std.proofs.Common.{take}
use Rattle.wellformed.specs.Waiting.{Entered}
use Rattle.wellformed.proofs.enter_senders.Given as goal

-- the senders so far are entered
abbrev pub invariant-loop-s : goal.invariant-loop-s
invariant-loop-s l = Entered l.n l.r (take l.s-index l.senders) l.initial.waits l.waits
