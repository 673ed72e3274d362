-- What the report call has promised once it has filled as many of the caller's records as the report says.
use mathlib.Core.Path.{◌≡◌, refl, ap, ◌∙◌}
use mathlib.Core.List.{List}
use Prim.Native.Nat.{ℕ, suc, ◌≤◌, ◌<◌}
use native.Mathlib.Omega.{arith}
use lib.ListN.{length, get_or}
use Rattle.model.specs.declared.Outcome.{Outcome}
use Rattle.model.specs.declared.Table.{Table}
use Rattle.model.specs.Lists.{up_to}
use Rattle.model.specs.Refusals.{unless, report_refusal}
use Rattle.model.specs.Promise.{report_answer, report_after, ReportPromise}
use Rattle.laws.proofs.Lists.{zero_or_not}
use Rattle.report.specs.declared.Report.{Report}
use Rattle.report.specs.Report.{Reported}
use Rattle.report.proofs.Reports.{outcome_of, filled, filled-all, read-outcome, report-fits}

module _ (t : Table) (records : ℕ) (r : Report) (reported : Reported t records r) where
  -- a refused report fills none of the records
  fills-none : (g : ℕ) → report_refusal t records ≡ suc g → r.len ≡ 0
  unfolding unless
  fills-none g e = rw e at reported.fills

  -- an accepted one fills all
  fills-all : report_refusal t records ≡ 0 → r.len ≡ records
  unfolding unless
  fills-all e = rw e at reported.fills

  -- it fills no more records than the caller has
  pub fits-records : r.len ≤ records
  fits-records = zero_or_not (report_refusal t records) (λ e. omega (arith, fills-all e)) (λ g e. omega (arith, fills-none g e))

  -- each outcome that is written is that of its thread
  pub outcome-there : (d : Outcome) (i : ℕ) → i < r.len → get_or r.outcomes i d ≡ outcome_of t i
  outcome-there d i l = ap (λ (us : List Outcome). get_or us i d) reported.outcomes ∙ read-outcome t d i (zero_or_not (report_refusal t records)
      (λ e. omega (arith, fills-all e, report-fits t records e))
      (λ g e. omega (arith, fills-none g e)))

-- the promise holds once as many records are filled as the report says
pub promised : (t : Table) (records : List Outcome) (r : Report) (i : ℕ) → Reported t (length records) r → i ≡ r.len → ReportPromise t records r.answer (filled t i records)
unfolding report_answer report_after filled unless up_to
promised t records r i reported e = record {
  answers = reported.answers;
  fills = zero_or_not (report_refusal t (length records))
      (λ z. let all = fills-all t (length records) r reported z in let fit = (report-fits t (length records) z).1 in
      rw (z, e ∙ all ∙ fit) (filled-all t t.n records (omega arith)))
      (λ g z. rw (z, e, fills-none t (length records) r reported g z) refl);
}
