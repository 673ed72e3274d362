use Rattle.std.proofs.lemmas.Result.{err_from_is_err_and}
use Rattle.model.specs.Lists.{up_to}
use Rattle.model.specs.Bondtrace.{ascii}
use Rattle.commands.proofs.Spelling.{spells_as}
use Rattle.commands.proofs.Partners.{one_of_read, one_of_refused}
use Rattle.commands.proofs.receives.read_one_of.Goals as goal

-- the time code was not read
pub returns-in_err-last : goal.returns-in_err-last
unfolding ascii up_to
returns-in_err-last c =
    let p = err_from_is_err_and c.from_residual.result c.from_residual.ensures.1 in
    rw (p.1, p.2) (one_of_refused _ _ _ _ c.in_err-last.ensures)

-- it was
pub returns : goal.returns
unfolding ascii up_to
returns c = spells_as _ _ (one_of_read _ _ _ _ _ _ _ c.in_ok-last.ensures) (rw c.low_byte-time.ensures at c.close.ensures)
