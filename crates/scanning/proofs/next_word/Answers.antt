use Rattle.scanning.proofs.Runs.{word-found}
use Rattle.scanning.proofs.next_word.Goals as goal

-- behind the blanks stands the word
pub returns : goal.returns
returns c = word-found _ _ _ _ c.blanks_end-start.ensures c.word_end-end.ensures
