-- When a report is right.
use Rattle.std.specs.Prelude.{◌≡◌, List, ℕ, pos}
use Rattle.model.specs.declared.Outcome.{Outcome}
use Rattle.model.specs.declared.Table.{Table}
use Rattle.model.specs.Lists.{up_to}
use Rattle.model.specs.Answers.{accepted, refused, replied, said}
use Rattle.model.specs.Threads.{at}
use Rattle.model.specs.Refusals.{unless, report_refusal}
use Rattle.report.specs.declared.Report.{Report}

-- what stands for an outcome that is not there: all zero
abbrev pub zero_outcome : Outcome
zero_outcome = record { code = pos 0; source = 0; count = 0 }

-- the outcomes of all 32 threads
unfoldable pub all_outcomes : Table → List Outcome
all_outcomes t = up_to 32 (λ x. (at t x).outcome)

-- a report is right for a table and a number of the caller's records
pub record Reported (t : Table) (records : ℕ) (r : Report) : Type 0 where
  pub answers : said r.answer ≡ unless (report_refusal t records) refused (replied accepted)
  pub fills : r.len ≡ unless (report_refusal t records) (λ g. 0) records
  pub outcomes : r.outcomes ≡ all_outcomes t
