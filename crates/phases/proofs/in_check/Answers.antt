use Rattle.std.proofs.Common.{sym, ◌∙◌}
use Rattle.laws.proofs.Decisions.{check-cancelled, check-copies, check-late, check_releases}
use Rattle.phases.proofs.Settled.{settled}
use Rattle.phases.proofs.in_check.Goals as goal

pub returns-then-own : goal.returns-then-own
returns-then-own c = let a = c.args in settled _ _ _ _ (check-cancelled a.x a.own a.other c.if-own.true) (c.end_by.ensures a.x)

pub returns-then-ready : goal.returns-then-ready
returns-then-ready c = let a = c.args in settled _ _ _ _ (check-copies a.x a.own a.other c.if-own.false (sym c.is_ready-ready.ensures ∙ c.if-ready.true)) (c.start_copy.ensures a.x)

pub returns-then-late : goal.returns-then-late
returns-then-late c = let a = c.args in settled _ _ _ _ (check-late a.x a.own a.other c.if-own.false (sym c.is_ready-ready.ensures ∙ c.if-ready.false) c.if-late.true) (c.end_by-then-late.ensures a.x)

pub returns : goal.returns
returns c = let a = c.args in settled _ _ _ _ (check_releases a.x a.own a.other c.if-own.false (sym c.is_ready-ready.ensures ∙ c.if-ready.false) c.if-late.false) (c.go_to_release.ensures a.x)
