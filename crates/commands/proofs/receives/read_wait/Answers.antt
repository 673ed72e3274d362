use Rattle.model.specs.Lists.{up_to, same_numbers}
use Rattle.model.specs.Bondtrace.{ascii}
use Rattle.std.proofs.Common.{sym, refl, ◌∙◌}
use Rattle.commands.proofs.Spelling.{spells_as, starts_yes, starts_behind, starts_no}
use Rattle.commands.proofs.Partners.{wait_any, wait-set, wait-partners, partners-some, partners-one}
use Rattle.commands.proofs.receives.read_wait.Goals as goal

-- the word `any`
pub returns-then-is_word : goal.returns-then-is_word
unfolding ascii up_to same_numbers
returns-then-is_word c =
    let e = sym c.if-is_word.ensures in
    spells_as _ _ (wait_any _ _ _ (starts_yes _ _ _ _ c.next_word-word.ensures _ refl e) (starts_behind _ _ _ _ c.next_word-word.ensures _ refl e)) c.read_open.ensures

-- the word `set`
pub returns-then-is_word-2 : goal.returns-then-is_word-2
unfolding ascii up_to same_numbers
returns-then-is_word-2 c =
    let e = sym c.if-is_word-2.ensures in
    spells_as _ _ (wait-set _ _ (starts_no _ _ _ _ c.next_word-word.ensures _ refl (sym c.if-is_word.ensures)) _ (starts_yes _ _ _ _ c.next_word-word.ensures _ refl e) (starts_behind _ _ _ _ c.next_word-word.ensures _ refl e)) c.read_set.ensures

-- a word with a comma
pub returns-then-has_comma : goal.returns-then-has_comma
unfolding ascii up_to same_numbers
returns-then-has_comma c =
    let neither = wait-partners _ _ (starts_no _ _ _ _ c.next_word-word.ensures _ refl (sym c.if-is_word.ensures)) (starts_no _ _ _ _ c.next_word-word.ensures _ refl (sym c.if-is_word-2.ensures)) in
    spells_as _ _ (partners-some _ _ _ _ c.next_word-word.ensures _ (sym c.if-has_comma.ensures) ∙ neither) c.read_members.ensures

-- one without
pub returns : goal.returns
unfolding ascii up_to same_numbers
returns c =
    let neither = wait-partners _ _ (starts_no _ _ _ _ c.next_word-word.ensures _ refl (sym c.if-is_word.ensures)) (starts_no _ _ _ _ c.next_word-word.ensures _ refl (sym c.if-is_word-2.ensures)) in
    spells_as _ _ (partners-one _ _ _ _ c.next_word-word.ensures _ (sym c.if-has_comma.ensures) ∙ neither) c.read_closed.ensures
