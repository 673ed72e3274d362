use Rattle.std.proofs.Common.{◌≡◌, ◌-◌, length}
use Rattle.playing.proofs.Turns.{Goes}
use Rattle.playing.proofs.play.Given as goal

-- each turn: the records up to this place are played
abbrev pub invariant-loop-record : goal.invariant-loop-record
invariant-loop-record l = record {
  goes : Goes l.fn.from l.fn.store l.bytes l.fn.from.table.n l.store l.now.table l.now.records l.now.refused l.at;
  place : l.now.place ≡ l.fn.from.place;
}

-- each turn fewer bytes are left
abbrev pub decreases-loop-record : goal.decreases-loop-record
decreases-loop-record l = length l.bytes - l.at
