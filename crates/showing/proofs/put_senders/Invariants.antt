use Rattle.std.proofs.Common.{◌≡◌, take}
use Rattle.model.specs.Bondtrace.{spaced}
use Rattle.text.specs.Writing.{written}
use Rattle.showing.proofs.put_senders.Given as goal

-- the first senders are written
abbrev pub invariant-loop-sender : goal.invariant-loop-sender
invariant-loop-sender l = l.out ≡ written (spaced (take l.sender-index l.items)) l.initial.out
