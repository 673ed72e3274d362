use Rattle.std.proofs.Common.{refl, arith}
use Rattle.std.proofs.lemmas.Result.{err_from_is_err_and}
use Rattle.laws.proofs.Groups.{then_later}
use Rattle.refusals.proofs.Laws.{group-stops}
use Rattle.counts.proofs.Refused.{too_many, few-rows}
use Rattle.counts.proofs.count_refusal.Goals as goal

-- above four threads
pub returns-then-table-gt-MOST_THREADS : goal.returns-then-table-gt-MOST_THREADS
returns-then-table-gt-MOST_THREADS c = too_many _ _ c.if-table-gt-MOST_THREADS.true

-- a row on the table
pub returns-in_err-table_refusal : goal.returns-in_err-table_refusal
returns-in_err-table_refusal c =
    let p = err_from_is_err_and c.from_residual.result c.from_residual.ensures.1 in
    rw (p.1, p.2) (few-rows _ _ (omega (arith, c.if-table-gt-MOST_THREADS.false)) _ (group-stops _ _ _ c.in_err-table_refusal.ensures))

-- that on the counts
pub returns : goal.returns
returns c = few-rows _ _ (omega (arith, c.if-table-gt-MOST_THREADS.false)) _ (then_later _ _ 0 c.in_ok-table_refusal.ensures refl _ c.length_refusal.ensures)
