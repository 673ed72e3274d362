use Rattle.report.proofs.Reports.{refused-report, accepted-report}
use Rattle.report.proofs.reported.Goals as goal

pub returns-in-Err : goal.returns-in-Err
returns-in-Err c = refused-report _ _ _ c.outcomes_of-outcomes.ensures _ _ c.into.ensures c.in-Err.ensures

pub returns-in-Ok : goal.returns-in-Ok
returns-in-Ok c = accepted-report _ _ _ c.outcomes_of-outcomes.ensures c.in-Ok.ensures
