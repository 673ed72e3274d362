use Rattle.std.proofs.Common.{◌∙◌, sym, ap, refl, not, ℕ, length, arith}
use Rattle.std.specs.Option.{is_some}
use Rattle.model.proofs.Laws.{same?}
use Rattle.columns.specs.Ranks.{place_within}
use Rattle.columns.proofs.Places.{senders-many, within_found, within_none, some_within, nothing_within}
use Rattle.comparison.proofs.Firsts.{receive-unsent, receive-sent, first-here, first-nowhere}
use Rattle.comparison.proofs.first_receive.Goals as goal

pub loop-j-init : goal.loop-j-init
loop-j-init c = λ k l. absurd (omega arith)

-- it was not
pub returns-then-is_none : goal.returns-then-is_none
returns-then-is_none c =
    let pairs = c.args.receives.pairs.now in
    let past = nothing_within _ _ (ap is_some (sym c.find_mate.ensures) ∙ c.is_none.ensures ∙ ap not c.if-is_none.true) in
    let here = first-here _ _ _ c.loop-j.j c.args.receives.column.many (omega (arith, senders-many pairs))
    (receive-unsent _ _ _ _ _ _ c.args.sends.column c.args.receives.column c.loop-j.j _ (omega (arith, senders-many pairs)) refl (omega (arith, senders-many c.args.sends.pairs.now, past))) c.loop-j.invariant in
    within_found (length pairs) c.loop-j.j c.loop-j-test.true ∙ ap (λ (k : ℕ). place_within (length pairs) k) here

pub loop-j-preserved : goal.loop-j-preserved
loop-j-preserved c =
    let there = some_within _ _ (ap is_some (sym c.find_mate.ensures) ∙ c.is_none.ensures ∙ ap not c.if-is_none.false) in
    λ k l. same? k c.loop-j.j
    (λ e. rw e (receive-sent _ _ _ _ _ _ c.args.sends.column c.args.receives.column c.loop-j.j _ (omega (arith, senders-many c.args.receives.pairs.now)) refl (omega (arith, senders-many c.args.sends.pairs.now, there))))
    (λ d. c.loop-j.invariant k (omega arith))

-- all were
pub returns : goal.returns
returns c =
    let none = first-nowhere _ _ _ c.loop-j.j c.args.receives.column.many (omega (arith, senders-many c.args.receives.pairs.now)) c.loop-j.invariant in
    within_none (length c.args.receives.pairs.now) _ (omega (arith, none, c.loop-j-test.false))
