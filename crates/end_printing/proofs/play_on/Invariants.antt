use Rattle.std.proofs.Common.{◌≡◌, ◌-◌, length, take}
use Rattle.end_printing.specs.Input.{most_bytes}
use Rattle.end_printing.proofs.Filling.{Fills}
use Rattle.end_printing.proofs.play_on.Given as goal

-- each time round: the bytes in the buffer come next, and the text's bytes are all there
abbrev pub invariant-loop-supply : goal.invariant-loop-supply
invariant-loop-supply g l = record {
  fills : Fills (take l.initial.supply.end l.initial.buffer) l.buffer l.words l.size l.playback l.start l.supply.end l.supply.delivered;
  room : length l.out ≡ 4096;
}

-- each time round more was delivered
abbrev pub decreases-loop-supply : goal.decreases-loop-supply
decreases-loop-supply g l = most_bytes - l.supply.delivered
