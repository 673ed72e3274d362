use Rattle.scanning.specs.Scanned.{of_word}
use Rattle.scanning.proofs.word_end.Given as goal

-- a run of bytes of a word
abbrev pub ghost-run_end : goal.ghost-run_end
ghost-run_end a = of_word
