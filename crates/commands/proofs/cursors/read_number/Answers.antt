use Rattle.commands.proofs.Reading.{advanced_as, number-missing, number_read}
use Rattle.commands.proofs.cursors.read_number.Goals as goal

-- no word is left
pub returns-then-word : goal.returns-then-word
returns-then-word c = number-missing _ _ _ c.next_word-word.ensures _ _ c.if-word.true _ c.reason_for-reason.ensures

-- the next word is read
pub returns : goal.returns
returns c = advanced_as _ _ _ _ (number_read _ _ _ c.next_word-word.ensures _ _ c.if-word.false) c.read_word.ensures
