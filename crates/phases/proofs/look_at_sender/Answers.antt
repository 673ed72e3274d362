use Rattle.std.proofs.Common.{◌≡◌, refl, sym, ◌∙◌, false}
use borrow.Author.Tests.{not-true, not-false}
use Rattle.model.specs.Answers.{asleep, wants}
use Rattle.model.specs.Step.{overdue}
use Rattle.laws.proofs.Decisions.{look-overdue, look-found_awake, look-found-wants, look-takes}
use Rattle.phases.proofs.Settled.{settled}
use Rattle.phases.proofs.look_at_sender.Goals as goal

pub returns-then-is_overdue : goal.returns-then-is_overdue
returns-then-is_overdue c =
    let a = c.args in let asked = c.requires in
    settled _ _ _ _ (look-overdue a.x a.own a.other asked.runs asked.unmarked (sym c.is_overdue.ensures ∙ c.if-is_overdue.true)) (c.end_by.ensures a.x)

pub returns-then-not-other : goal.returns-then-not-other
returns-then-not-other c =
    let a = c.args in let asked = c.requires in
    let in_time : overdue a.own ≡ false = sym c.is_overdue.ensures ∙ c.if-is_overdue.false in
    settled _ _ _ _ (look-found_awake a.x a.own a.other asked.runs asked.unmarked a.s asked.found in_time (not-true a.other.flags.poll c.if-not-other.true)) (c.stay_with.ensures a.x asleep refl)

pub returns-then-other-ne-NOBODY : goal.returns-then-other-ne-NOBODY
returns-then-other-ne-NOBODY c =
    let a = c.args in let asked = c.requires in
    let in_time : overdue a.own ≡ false = sym c.is_overdue.ensures ∙ c.if-is_overdue.false in
    settled _ _ _ _ (look-found-wants a.x a.own a.other asked.runs asked.unmarked a.s asked.found in_time (not-false a.other.flags.poll c.if-not-other.false) c.if-other-ne-NOBODY.true) (c.stay_with-then-other-ne-NOBODY.ensures a.x wants refl)

pub returns : goal.returns
returns c =
    let a = c.args in let asked = c.requires in
    let in_time : overdue a.own ≡ false = sym c.is_overdue.ensures ∙ c.if-is_overdue.false in
    settled _ _ _ _ (look-takes a.x a.own a.other asked.runs asked.unmarked a.s asked.found in_time (not-false a.other.flags.poll c.if-not-other.false) c.if-other-ne-NOBODY.false) c.take_sender.ensures
