use Rattle.std.proofs.Common.{refl}
use borrow.Author.Tests.{not-true, not-false}
use Rattle.model.specs.Answers.{asleep}
use Rattle.laws.proofs.Decisions.{sleep_woken, sleep-marked, sleep-late, sleep-stays}
use Rattle.phases.proofs.Settled.{settled}
use Rattle.phases.proofs.in_sleep.Goals as goal
use Rattle.phases.proofs.in_sleep.Goals.{then-not-own-via-then-not-own, then-not-own-via-else-not-own+then-own, then-not-own-via-else-not-own+else-own+then-own-eq0}

pub returns-then-not-own : goal.returns-then-not-own
returns-then-not-own c =
    let a = c.args in
    elim c.then-not-own.branch [
      | then-not-own-via-then-not-own w ↦ settled _ _ _ _ (sleep_woken a.x a.own a.other (not-true a.own.flags.poll w.if-not-own.true)) (c.try_again.ensures a.x)
      | then-not-own-via-else-not-own+then-own w ↦ settled _ _ _ _ (sleep-marked a.x a.own a.other (not-false a.own.flags.poll w.if-not-own.false) w.if-own.true) (c.try_again.ensures a.x)
      | then-not-own-via-else-not-own+else-own+then-own-eq0 w ↦ settled _ _ _ _ (sleep-late a.x a.own a.other (not-false a.own.flags.poll w.if-not-own.false) w.if-own.false w.if-own-eq0.true) (c.try_again.ensures a.x)
    ]

pub returns : goal.returns
returns c = let a = c.args in settled _ _ _ _ (sleep-stays a.x a.own a.other (not-false a.own.flags.poll c.if-not-own.false) c.if-own.false c.if-own-eq0.false) (c.stay_with.ensures a.x asleep refl)
