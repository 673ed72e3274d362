use Rattle.std.proofs.Common.{refl}
use Rattle.model.specs.Phases.{idle, sleep, look}
use Rattle.laws.proofs.Decisions.{release_sleeps, release_looks, release-ends}
use Rattle.phases.proofs.Settled.{settled}
use Rattle.phases.proofs.in_release.Goals as goal

pub returns-then-own : goal.returns-then-own
returns-then-own c = let a = c.args in settled _ _ _ _ (release_sleeps a.x a.own a.other c.if-own.true) (c.free_target.ensures a.x sleep refl)

pub returns-then-own-2 : goal.returns-then-own-2
returns-then-own-2 c = let a = c.args in settled _ _ _ _ (release_looks a.x a.own a.other c.if-own.false c.if-own-2.true) (c.free_target-then-own-2.ensures a.x look refl)

pub returns : goal.returns
returns c = let a = c.args in settled _ _ _ _ (release-ends a.x a.own a.other c.if-own.false c.if-own-2.false) (c.free_target-2.ensures a.x idle refl)
