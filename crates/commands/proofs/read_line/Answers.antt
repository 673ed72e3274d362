use Rattle.std.proofs.lemmas.Result.{err_from_is_err_and}
use Rattle.commands.proofs.Returned.{refuses_as, asks_as, line-none, line-comment, line_first}
use Rattle.commands.proofs.read_line.Goals as goal

-- it has no word
pub returns-then-word : goal.returns-then-word
returns-then-word c = line-none _ _ c.next_word-word.ensures c.if-word.true

-- it starts with `#`
pub returns-then-line-word-eq35 : goal.returns-then-line-word-eq35
returns-then-line-word-eq35 c = line-comment _ _ c.next_word-word.ensures c.if-word.false c.if-line-word-eq35.true

-- it is no command
pub returns-in_err-asked : goal.returns-in_err-asked
returns-in_err-asked c =
    let p = err_from_is_err_and c.from_residual.result c.from_residual.ensures.1 in
    rw (p.1, p.2) (refuses_as _ (line_first _ _ c.next_word-word.ensures c.if-word.false c.if-line-word-eq35.false) c.in_err-asked.ensures)

-- it is one
pub returns : goal.returns
returns c = asks_as _ (line_first _ _ c.next_word-word.ensures c.if-word.false c.if-line-word-eq35.false) c.in_ok-asked.ensures
