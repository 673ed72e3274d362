use Rattle.std.proofs.Common.{◌-◌}
use Rattle.commands.specs.Standing.{progress}
use Rattle.commands.proofs.Reading.{More}
use Rattle.commands.proofs.cursors.read_more.Given as goal

-- as many more may follow as are left
abbrev pub invariant-loop-read : goal.invariant-loop-read
invariant-loop-read l = More l.line l.letter l.most (progress l.line l.initial.numbers l.fn.cursor) l.fn.cursor.count (l.most - l._read) l.numbers l.last
