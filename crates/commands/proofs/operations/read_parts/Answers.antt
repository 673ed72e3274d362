use Rattle.model.specs.Lists.{up_to, same_numbers}
use Rattle.model.specs.Bondtrace.{ascii}
use Rattle.std.proofs.Common.{sym, refl}
use Rattle.commands.proofs.Spelling.{spells_as, starts_yes, starts_behind, starts_no, parts-send, parts-receive}
use Rattle.commands.proofs.operations.read_parts.Goals as goal

-- the word `send`
pub returns-then-is_word : goal.returns-then-is_word
unfolding ascii up_to same_numbers
returns-then-is_word c =
    let e = sym c.if-is_word.ensures in
    spells_as _ _ (parts-send _ _ (starts_yes _ _ _ _ c.next_word-word.ensures _ refl e) (starts_behind _ _ _ _ c.next_word-word.ensures _ refl e)) c.read_send.ensures

-- another
pub returns : goal.returns
unfolding ascii up_to same_numbers
returns c = spells_as _ _ (parts-receive _ (starts_no _ _ _ _ c.next_word-word.ensures _ refl (sym c.if-is_word.ensures))) (rw c.no_operation.ensures at c.read_receive.ensures)
