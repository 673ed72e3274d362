use Rattle.std.proofs.lemmas.Result.{err_from_is_err_and}
use Rattle.commands.proofs.Reading.{word-wrong, word_read}
use Rattle.commands.proofs.cursors.read_word.Goals as goal

-- what is no such number
pub returns-in_err-value : goal.returns-in_err-value
returns-in_err-value c =
    let p = err_from_is_err_and c.from_residual.result c.from_residual.ensures.1 in
    rw (p.1, p.2) (word-wrong _ _ _ c.requires.placed _ _ c.in_err-value.ensures)

-- what is one
pub returns : goal.returns
returns c = word_read _ _ _ c.requires.placed _ _ _ _ _ _ c.in_ok-value.ensures c.is_negative-negative.ensures c.keep-count.ensures.numbers_after c.keep-count.ensures.upper_bound
