use Rattle.std.proofs.Common.{◌≡◌, ◌<◌, length, arith, ◌∙◌, List, sym, subst, rules}
use Rattle.model.specs.declared.Outcome.{Outcome}
use Rattle.model.specs.Promise.{ReportPromise}
use Rattle.report.proofs.Reports.{filled_none, filled_more}
use Rattle.report.proofs.Laws.{fits-records, outcome-there, promised}
use Rattle.report.proofs.report_into.Goals as goal

pub loop-i-init : goal.loop-i-init
loop-i-init c = filled_none _ _

-- the record is among the caller's, since no more are filled than there are
pub offset_bounds-records-i : goal.offset_bounds-records-i
offset_bounds-records-i c =
    let low : c.loop-i.i < length c.loop-i.records = omega (arith, fits-records _ _ _ c.reported-report.ensures) in
    search rules

pub bounds-records-i : goal.bounds-records-i
bounds-records-i c = omega (arith, fits-records _ _ _ c.reported-report.ensures)

pub loop-i-preserved : goal.loop-i-preserved
loop-i-preserved c =
    let low : c.loop-i.i < length c.args.records.now = omega (arith, fits-records _ _ _ c.reported-report.ensures) in
    rw c.loop-i.invariant (filled_more _ _ _ _ low (c.outcome_in.ensures ∙ outcome-there _ _ _ c.reported-report.ensures _ c.loop-i.i c.loop-i-test.true))

pub returns : goal.returns
returns c =
    let all : c.loop-i.i ≡ c.reported-report.result.len = omega arith in
    subst (λ (l : List Outcome). ReportPromise c.args.table c.args.records.now c.reported-report.result.answer l) (sym c.loop-i.invariant) (promised _ _ _ _ c.reported-report.ensures all)
