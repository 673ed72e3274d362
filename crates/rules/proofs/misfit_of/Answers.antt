use Rattle.std.proofs.Common.{◌≡◌, sym, ◌∙◌, arith}
use Rattle.model.specs.Rules.{rows_in}
use Rattle.rules.proofs.Senders.{fit_none, many-rows, sender-decides, fit-more, all-senders-fit}
use Rattle.rules.proofs.misfit_of.Goals as goal

-- more than 64 rows
pub returns-then-rules-gt-ROW_LIMIT : goal.returns-then-rules-gt-ROW_LIMIT
returns-then-rules-gt-ROW_LIMIT c = many-rows _ _ c.if-rules-gt-ROW_LIMIT.true

pub loop-s-init : goal.loop-s-init
loop-s-init c = fit_none _ _

-- a sender that does not fit
pub returns-then-not-is_fit : goal.returns-then-not-is_fit
unfolding rows_in
returns-then-not-is_fit c =
    sender-decides _ _ c.if-rules-gt-ROW_LIMIT.false c.loop-s.s c.loop-s.invariant _ c.sender_misfit-found.ensures c.loop-s-test.true (sym c.is_fit.ensures ∙ c.if-not-is_fit.true)

pub loop-s-preserved : goal.loop-s-preserved
unfolding rows_in
loop-s-preserved c =
    fit-more _ _ c.if-rules-gt-ROW_LIMIT.false c.loop-s.s c.loop-s.invariant _ c.sender_misfit-found.ensures (sym c.is_fit.ensures ∙ c.if-not-is_fit.false)

-- all fit
pub returns : goal.returns
returns c =
    let all : c.loop-s.s ≡ c.args.n = omega arith in
    all-senders-fit _ _ c.if-rules-gt-ROW_LIMIT.false (rw all at c.loop-s.invariant)
