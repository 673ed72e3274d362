use Rattle.std.proofs.Common.{sym, refl, subst}
use Rattle.model.specs.Answers.{held}
use Rattle.model.specs.Step.{Action}
use Rattle.actions.specs.Acted.{Acted}
use Rattle.few.proofs.Stepping.{here-held, here-free}
use Rattle.few.proofs.change_of.Goals as goal

-- the lock is owned
pub returns-then-own-ne-NOBODY : goal.returns-then-own-ne-NOBODY
returns-then-own-ne-NOBODY c =
    let a = c.args in
    subst (λ (does : Action). Acted does a.x a.own a.other c.stay_with.result) (sym (here-held a.x a.own a.other c.if-own-ne-NOBODY.true)) (c.stay_with.ensures a.x held refl)

-- it is free
pub returns : goal.returns
returns c =
    let a = c.args in
    subst (λ (does : Action). Acted does a.x a.own a.other c.step_threads.result) (sym (here-free a.x a.own a.other c.if-own-ne-NOBODY.false)) c.step_threads.ensures.acted
