use Rattle.std.proofs.Common.{refl}
use Rattle.model.specs.Answers.{wants}
use Rattle.laws.proofs.Decisions.{lock-takes, lock-wants}
use Rattle.phases.proofs.Settled.{settled}
use Rattle.phases.proofs.in_lock.Goals as goal

pub returns-then-other-eq-NOBODY : goal.returns-then-other-eq-NOBODY
returns-then-other-eq-NOBODY c = let a = c.args in settled _ _ _ _ (lock-takes a.x a.own a.other c.if-other-eq-NOBODY.true) c.take_lock.ensures

pub returns : goal.returns
returns c = let a = c.args in settled _ _ _ _ (lock-wants a.x a.own a.other c.if-other-eq-NOBODY.false) (c.stay_with.ensures a.x wants refl)
