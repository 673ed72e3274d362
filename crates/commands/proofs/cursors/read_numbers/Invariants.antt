use Rattle.commands.specs.Standing.{progress}
use Rattle.commands.proofs.Reading.{Lettered}
use Rattle.commands.proofs.cursors.read_numbers.Given as goal

-- so many letters are read
abbrev pub invariant-loop-letter : goal.invariant-loop-letter
invariant-loop-letter l = Lettered l.line l.letters (progress l.line l.initial.numbers l.fn.cursor) l.fn.cursor.count l.letter-index l.numbers l.last
