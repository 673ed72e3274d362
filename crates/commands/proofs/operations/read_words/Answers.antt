use Rattle.std.proofs.lemmas.Result.{err_from_is_err_and}
use Rattle.std.proofs.Common.{sym, ◌∙◌}
use Rattle.model.specs.Lists.{up_to}
use Rattle.model.specs.Bondtrace.{ascii}
use Rattle.commands.proofs.Spelling.{spells_as, words-end, words-receive, words-wrong, words_more}
use Rattle.commands.proofs.operations.read_words.Goals as goal

-- no word is left
pub returns-then-word : goal.returns-then-word
returns-then-word c = spells_as _ _ (words-end _ _ _ c.next_word-word.ensures _ c.if-word.true ∙ c.loop-word.invariant.1) c.read_receive.ensures

-- the word `receive`
pub returns-then-is_word : goal.returns-then-is_word
unfolding ascii up_to
returns-then-is_word c = spells_as _ _ (words-receive _ _ _ c.next_word-word.ensures _ c.if-word.false (sym c.if-is_word.ensures) ∙ c.loop-word.invariant.1) c.read_receive-then-is_word.ensures

-- what is no word of a message
pub returns-in_err-value : goal.returns-in_err-value
unfolding ascii up_to
returns-in_err-value c =
    let p = err_from_is_err_and c.from_residual.result c.from_residual.ensures.1 in
    let r = words-wrong _ _ _ c.next_word-word.ensures c.loop-word.send c.if-word.false (sym c.if-is_word.ensures) _ c.in_err-value.ensures in
    rw (p.1, p.2) (record { word = r.word; means = r.means ∙ c.loop-word.invariant.1 })

-- what is one
pub loop-word-preserved : goal.loop-word-preserved
unfolding ascii up_to
loop-word-preserved c =
    (c.next_word-word.ensures.within, rw c.with_word-send.ensures (words_more _ _ _ c.next_word-word.ensures _ c.if-word.false (sym c.if-is_word.ensures) _ c.in_ok-value.ensures) ∙ c.loop-word.invariant.1)
