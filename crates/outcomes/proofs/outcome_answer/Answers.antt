use Rattle.std.proofs.lemmas.Result.{err_from_is_err_and}
use Rattle.model.specs.Threads.{at}
use Rattle.outcomes.proofs.Shown.{outcome-refused, outcome-shown}
use Rattle.outcomes.proofs.outcome_answer.Goals as goal

-- the arguments are refused
pub returns-in_err-stored_call_refusal : goal.returns-in_err-stored_call_refusal
returns-in_err-stored_call_refusal c =
    let p = err_from_is_err_and c.from_residual.result c.from_residual.ensures.1 in
    rw p.1 (outcome-refused _ _ _ _ p.2 c.in_err-stored_call_refusal.ensures.number)

-- nothing is refused
pub returns : goal.returns
unfolding at
returns c = outcome-shown _ _ c.in_ok-stored_call_refusal.ensures.number
