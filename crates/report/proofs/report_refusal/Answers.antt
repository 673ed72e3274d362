use Rattle.std.proofs.Common.{refl}
use Rattle.std.proofs.lemmas.Result.{err_from_is_err_and}
use Rattle.model.specs.Refusals.{report_refusal}
use Rattle.laws.proofs.Groups.{then_later}
use Rattle.refusals.proofs.Laws.{group-stops}
use Rattle.report.proofs.report_refusal.Goals as goal

pub returns-in_err-table_refusal : goal.returns-in_err-table_refusal
unfolding report_refusal
returns-in_err-table_refusal c =
    let p = err_from_is_err_and c.from_residual.result c.from_residual.ensures.1 in
    rw (p.1, p.2) (group-stops _ _ _ c.in_err-table_refusal.ensures)

pub returns : goal.returns
unfolding report_refusal
returns c = then_later _ _ 0 c.in_ok-table_refusal.ensures refl _ c.length_refusal.ensures
