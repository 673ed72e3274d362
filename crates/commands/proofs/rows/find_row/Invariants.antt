use Rattle.std.proofs.Common.{◌≡◌, ◌+◌, ◌-◌}
use Rattle.language.specs.Grammar.{find_row}
use Rattle.commands.proofs.rows.find_row.Given as goal

-- the word names none of the rows so far
abbrev pub invariant-loop-place : goal.invariant-loop-place
invariant-loop-place l = find_row (l.first + l.count - l.place) l.place l.word ≡ find_row l.count l.first l.word
