use Rattle.std.proofs.lemmas.Result.{err_from_is_err_and}
use Rattle.model.specs.Lists.{up_to}
use Rattle.model.specs.Bondtrace.{ascii}
use Rattle.commands.proofs.Spelling.{spells_as}
use Rattle.commands.proofs.Partners.{set-refused, set-read}
use Rattle.commands.proofs.receives.read_set.Goals as goal

-- the number was not read
pub returns-in_err-last : goal.returns-in_err-last
unfolding ascii up_to
returns-in_err-last c =
    let p = err_from_is_err_and c.from_residual.result c.from_residual.ensures.1 in
    rw (p.1, p.2) (set-refused _ _ _ c.in_err-last.ensures)

-- it is the set
pub returns : goal.returns
unfolding ascii up_to
returns c = spells_as _ _ (set-read _ _ _ _ _ _ c.in_ok-last.ensures) c.read_one_of.ensures
