use Rattle.std.proofs.Common.{refl}
use Rattle.std.proofs.lemmas.Result.{err_from_is_err_and}
use Rattle.laws.proofs.Groups.{table-formed}
use Rattle.resting.proofs.Trying.{rest-refused, rest-told}
use Rattle.resting.proofs.rest.Goals as goal

-- a row on the table refuses
pub returns-in_err-table_refusal : goal.returns-in_err-table_refusal
returns-in_err-table_refusal c =
    let p = err_from_is_err_and c.from_residual.result c.from_residual.ensures.1 in
    rw p.1 (rest-refused _ _ _ p.2 c.in_err-table_refusal.ensures)

pub first_to_move-requires : goal.first_to_move-requires
first_to_move-requires c = table-formed _ 0 c.in_ok-table_refusal.ensures refl

pub returns : goal.returns
returns c = rest-told _ c.in_ok-table_refusal.ensures _ c.first_to_move.ensures
