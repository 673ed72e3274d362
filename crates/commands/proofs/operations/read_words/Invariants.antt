use Rattle.std.proofs.Common.{◌≡◌, ◌-◌, ◌≤◌, length, drop}
use Rattle.language.specs.Words.{words}
use Rattle.language.specs.Commands.{read_words}
use Rattle.commands.proofs.operations.read_words.Given as goal

-- the words so far are in the send part
abbrev pub invariant-loop-word : goal.invariant-loop-word
invariant-loop-word l = (l.at ≤ length l.line) × (read_words l.send (words (drop l.at l.line)) ≡ read_words l.fn.first (words (drop l.fn.from l.line)))

-- how many bytes are left
abbrev pub decreases-loop-word : goal.decreases-loop-word
decreases-loop-word l = length l.line - l.at
