use Rattle.commands.proofs.Spelling.{close-end, close_more}
use Rattle.commands.proofs.receives.close.Goals as goal

-- nothing is left
pub returns-then-word : goal.returns-then-word
returns-then-word c = close-end _ _ _ c.next_word-word.ensures _ _ c.if-word.true

-- something is
pub returns : goal.returns
returns c = close_more _ _ _ c.next_word-word.ensures _ _ c.if-word.false
