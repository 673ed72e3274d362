use Rattle.std.proofs.Common.{sym, ◌∙◌}
use borrow.Author.Tests.{not-true, not-false}
use Rattle.laws.proofs.Decisions.{look-ended, look-cancelled}
use Rattle.queues.proofs.Options.{found-none, found-some}
use Rattle.phases.proofs.Settled.{settled}
use Rattle.phases.proofs.in_look.Goals as goal

pub returns-then-not-own : goal.returns-then-not-own
returns-then-not-own c = let a = c.args in settled _ _ _ _ (look-ended a.x a.own a.other (not-true a.own.flags.ipc c.if-not-own.true)) (c.go_idle.ensures a.x)

pub returns-then-own : goal.returns-then-own
returns-then-own c = let a = c.args in settled _ _ _ _ (look-cancelled a.x a.own a.other (not-false a.own.flags.ipc c.if-not-own.false) c.if-own.true) (c.end_by.ensures a.x)

pub look_alone-requires : goal.look_alone-requires
look_alone-requires c = record { runs = not-false c.args.own.flags.ipc c.if-not-own.false; unmarked = c.if-own.false; found = found-none _ (sym c.in-None.is ∙ c.requires) }

pub look_at_sender-requires : goal.look_at_sender-requires
look_at_sender-requires c = record { runs = not-false c.args.own.flags.ipc c.if-not-own.false; unmarked = c.if-own.false; found = found-some _ _ (sym c.in-Some.is ∙ c.requires) }
