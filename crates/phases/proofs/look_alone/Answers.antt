use Rattle.std.proofs.Common.{refl}
use Rattle.model.specs.Answers.{asleep}
use Rattle.laws.proofs.Decisions.{look-late, look-waits}
use Rattle.phases.proofs.Settled.{settled}
use Rattle.phases.proofs.look_alone.Goals as goal

pub returns-then-own-eq0 : goal.returns-then-own-eq0
returns-then-own-eq0 c =
    let a = c.args in let asked = c.requires in
    settled _ _ _ _ (look-late a.x a.own a.other asked.runs asked.unmarked asked.found c.if-own-eq0.true) (c.end_by.ensures a.x)

pub returns : goal.returns
returns c =
    let a = c.args in let asked = c.requires in
    settled _ _ _ _ (look-waits a.x a.own a.other asked.runs asked.unmarked asked.found c.if-own-eq0.false) (c.stay_with.ensures a.x asleep refl)
