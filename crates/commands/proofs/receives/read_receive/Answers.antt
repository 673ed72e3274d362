use Rattle.model.specs.Lists.{up_to}
use Rattle.model.specs.Bondtrace.{ascii}
use Rattle.std.proofs.Common.{sym}
use Rattle.commands.proofs.Spelling.{spells_as, receive-none, receive-word, receive_other}
use Rattle.commands.proofs.receives.read_receive.Goals as goal

-- no word is left
pub returns-then-word : goal.returns-then-word
returns-then-word c = receive-none _ _ _ c.next_word-word.ensures _ c.if-word.true

-- the word `receive`
pub returns-then-is_word : goal.returns-then-is_word
unfolding ascii up_to
returns-then-is_word c = spells_as _ _ (receive-word _ _ _ c.next_word-word.ensures _ c.if-word.false (sym c.if-is_word.ensures)) c.read_wait.ensures

-- another
pub returns : goal.returns
unfolding ascii up_to
returns c = receive_other _ _ _ c.next_word-word.ensures _ c.if-word.false (sym c.if-is_word.ensures)
