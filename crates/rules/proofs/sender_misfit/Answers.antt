use Rattle.std.proofs.Common.{sym, ◌∙◌, arith}
use Rattle.model.proofs.Laws.{same?}
use Rattle.rules.proofs.Senders.{told-apart, not-told, sender-found, sender-fits}
use Rattle.rules.proofs.sender_misfit.Goals as goal

pub loop-r-init : goal.loop-r-init
loop-r-init c = λ j l d. absurd (omega arith)

pub returns-then-count-r : goal.returns-then-count-r
returns-then-count-r c =
    let (apart, wrong) = told-apart _ _ _ c.if-count-r.true in
    c.pair_misfit.ensures ∙ sender-found c.cover_of-counts.ensures c.loop-r.r c.loop-r-test.true c.loop-r.invariant apart wrong

pub loop-r-preserved : goal.loop-r-preserved
loop-r-preserved c =
    λ j l d. same? j c.loop-r.r (λ e. rw e (not-told _ _ _ c.if-count-r.false (λ i. d (i ∙ sym e)))) (λ k. c.loop-r.invariant j (omega arith) d)

pub returns : goal.returns
returns c = sender-fits c.cover_of-counts.ensures (λ j l d. c.loop-r.invariant j (omega arith) d)
