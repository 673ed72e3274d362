use Rattle.std.proofs.Common.{true, sym, ap, ◌∙◌, subst, arith}
use Rattle.std.proofs.lemmas.Result.{err_from_is_err_and}
use Rattle.laws.proofs.Schedule.{lawful-head-long}
use Rattle.opening.specs.Opened.{opened, Steady}
use Rattle.opening.proofs.Opening.{opened-steady, not_opened, opened-size, opens}
use Rattle.opening.proofs.open.Goals as goal

-- the record is not lawful
pub returns-then-not-is_lawful-clause-number : goal.returns-then-not-is_lawful-clause-number
returns-then-not-is_lawful-clause-number c = sym (not_opened _ (sym c.is_lawful.ensures ∙ c.if-not-is_lawful.true))

-- a lawful one has four bytes
pub bounds-bytes-3 : goal.bounds-bytes-3
bounds-bytes-3 c = omega (arith, lawful-head-long c.args.bytes.now true (sym c.is_lawful.ensures ∙ c.if-not-is_lawful.false))

-- no table of that size
pub returns-in_err-size_refusal-clause-number : goal.returns-in_err-size_refusal-clause-number
returns-in_err-size_refusal-clause-number c =
    let p = err_from_is_err_and c.from_residual.result c.from_residual.ensures.1 in
    rw (p.1, p.2) (c.in_err-size_refusal.ensures ∙ sym (opens _ (sym c.is_lawful.ensures ∙ c.if-not-is_lawful.false)))

-- one is made
pub returns-clause-number : goal.returns-clause-number
returns-clause-number c = c.in_ok-size_refusal.ensures ∙ sym (opens _ (sym c.is_lawful.ensures ∙ c.if-not-is_lawful.false))

pub returns-clause-playback : goal.returns-clause-playback
returns-clause-playback c = c.fresh.ensures ∙ ap opened (sym (opened-size _ (opens _ (sym c.is_lawful.ensures ∙ c.if-not-is_lawful.false) ∙ sym c.in_ok-size_refusal.ensures)))

pub returns-clause-steady : goal.returns-clause-steady
returns-clause-steady c = (lawful-head-long c.args.bytes.now true (sym c.is_lawful.ensures ∙ c.if-not-is_lawful.false), subst Steady (sym c.fresh.ensures) (opened-steady _ (sym c.in_ok-size_refusal.ensures)))
