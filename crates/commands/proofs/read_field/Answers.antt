use Rattle.commands.proofs.Returned.{demands_as, field-none, field-wrong, field_row}
use Rattle.commands.proofs.read_field.Goals as goal

-- there is no word
pub returns-then-word : goal.returns-then-word
returns-then-word c = field-none _ _ _ _ c.next_word-word.ensures c.if-word.true

-- it names no field
pub returns-in_default : goal.returns-in_default
returns-in_default c = field-wrong _ _ _ _ c.next_word-word.ensures c.if-word.false c.in_default.ensures

-- it names one
pub returns : goal.returns
returns c = demands_as _ _ _ (field_row _ _ _ _ c.next_word-word.ensures c.if-word.false _ c.in-Some.ensures.0 c.in-Some.ensures.1) c.read_row.ensures
