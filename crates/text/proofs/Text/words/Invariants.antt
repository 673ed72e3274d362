use Rattle.std.proofs.Common.{◌≡◌, take}
use Rattle.model.specs.Bondtrace.{spaced}
use Rattle.text.specs.Writing.{written}
use Rattle.text.proofs.Text.words.Given as goal

-- the first words are written
abbrev pub invariant-loop-word : goal.invariant-loop-word
invariant-loop-word l = l.self ≡ written (spaced (take l.word-index l.words)) l.initial.self
