use Rattle.std.proofs.Common.{arith, sym, ◌∙◌}
use Rattle.reading.proofs.Begins.{passed_counted, passed-more, passed-not, passed-all}
use Rattle.reading.proofs.begin_bytes.no_word_past.Goals as goal

pub loop-i-init : goal.loop-i-init
loop-i-init c = rw c.from-i.ensures (passed_counted _ _)

pub returns-then-word_at-ne0 : goal.returns-then-word_at-ne0
returns-then-word_at-ne0 c = passed-not _ _ c.loop-i.invariant (omega arith) (λ e. c.if-word_at-ne0.true (c.word_at.ensures ∙ e))

pub loop-i-preserved : goal.loop-i-preserved
loop-i-preserved c = passed-more _ _ c.loop-i.invariant (sym c.word_at.ensures ∙ c.if-word_at-ne0.false)

pub returns : goal.returns
returns c = passed-all _ _ c.loop-i.invariant (omega arith)
