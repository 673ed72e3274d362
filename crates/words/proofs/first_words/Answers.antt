use Rattle.words.proofs.Laws.{first-there}
use Rattle.words.proofs.first_words.Goals as goal

-- the words by the three numbers
pub returns-clause-words : goal.returns-clause-words
returns-clause-words c = first-there _ _ c.args.count c.min-start.ensures c.min-most.ensures c.min-end.ensures
