use Rattle.std.proofs.lemmas.Result.{err_from_is_err_and}
use Rattle.commands.proofs.Returned.{demands_as, row_read, row-refused}
use Rattle.commands.proofs.read_row.Goals as goal

-- a number of the row was not read
pub returns-in_err-last : goal.returns-in_err-last
returns-in_err-last c =
    let p = err_from_is_err_and c.from_residual.result c.from_residual.ensures.1 in
    rw (p.1, p.2) (row-refused _ _ _ c.in_err-last.ensures)

-- they were
pub returns : goal.returns
returns c = demands_as _ _ _ (row_read c.args.line.now _ _ c.in_ok-last.ensures.means) c.read_rest.ensures
