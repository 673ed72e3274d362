use Rattle.std.proofs.Common.{◌∙◌}
use borrow.Author.Tests.{ne_eqb}
use Rattle.comparison.proofs.Messages.{counts_differ, words_decide}
use Rattle.comparison.proofs.same_message.Goals as goal

-- of one count
pub returns-then-a-b : goal.returns-then-a-b
returns-then-a-b c = c.eq.ensures ∙ words_decide _ _ c.if-a-b.true

-- of other counts
pub returns-else-a-b : goal.returns-else-a-b
returns-else-a-b c = ne_eqb _ _ c.if-a-b.false ∙ counts_differ _ _ c.if-a-b.false
