use Rattle.std.proofs.lemmas.Result.{err_from_is_err_and}
use Rattle.model.specs.Lists.{up_to}
use Rattle.model.specs.Bondtrace.{ascii}
use Rattle.commands.proofs.Spelling.{spells_as, send-refused, send-read}
use Rattle.commands.proofs.operations.read_send.Goals as goal

-- the numbers were not read
pub returns-in_err-last : goal.returns-in_err-last
unfolding ascii up_to
returns-in_err-last c =
    let p = err_from_is_err_and c.from_residual.result c.from_residual.ensures.1 in
    rw (p.1, p.2) (send-refused _ _ c.in_err-last.ensures)

-- they were
pub returns : goal.returns
unfolding ascii up_to
returns c = spells_as _ _ (send-read _ _ _ _ _ c.in_ok-last.ensures) (rw (c.low_byte.ensures, c.low_byte-2.ensures) at c.read_words.ensures)
