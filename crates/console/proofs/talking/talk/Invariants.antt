use Rattle.std.proofs.Common.{◌≤◌, length}
use Rattle.commands.specs.Standing.{line_room}
use Rattle.console.proofs.talking.talk.Given as goal

-- there is room for the numbers of a line
abbrev pub invariant-loop-before : goal.invariant-loop-before
invariant-loop-before g l = line_room ≤ length l.numbers
