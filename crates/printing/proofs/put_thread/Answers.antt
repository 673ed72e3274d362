use Rattle.std.proofs.Common.{arith}
use Rattle.model.specs.Promise.{view}
use Rattle.text.proofs.Writing.{writing}
use Rattle.printing.proofs.Bounds.{line-short}
use Rattle.printing.proofs.Texts.{line-parts}
use Rattle.printing.proofs.put_thread.Goals as goal

pub returns-clause-written : goal.returns-clause-written
unfolding view
returns-clause-written c = λ t e. let words = rw c.first_words-words.ensures.words at c.words.ensures.written in rw (line-parts, e) (grind (arith, writing))

pub returns-clause-x_len_bound : goal.returns-clause-x_len_bound
unfolding view
returns-clause-x_len_bound c = λ t e. let words = rw c.first_words-words.ensures.words at c.words.ensures.words_len_bound in line-short _ _ (rw e c.put_outcome.ensures.shown_len_bound) (rw e words)
