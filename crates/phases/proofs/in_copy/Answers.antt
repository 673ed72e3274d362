use Rattle.std.proofs.Common.{sym, ◌∙◌}
use borrow.Author.Tests.{lt-ltb, le-ltb}
use Rattle.laws.proofs.Decisions.{copy-word, copy-calls, copy-sends}
use Rattle.laws.proofs.Lists.{cond-true, cond-false}
use Rattle.phases.specs.Fit.{word_added}
use Rattle.phases.proofs.Settled.{settled}
use Rattle.phases.proofs.in_copy.Goals as goal

pub returns-then-own : goal.returns-then-own
unfolding word_added
returns-then-own c = let a = c.args in record {
  acted = settled _ _ _ _ (copy-word a.x a.own a.other c.if-own.true) (c.copy_word.ensures.acted a.x);
  words = c.copy_word.ensures.words ∙ sym (cond-true _ _ _ (lt-ltb _ _ c.if-own.true));
}

pub returns-then-has_receive : goal.returns-then-has_receive
unfolding word_added
returns-then-has_receive c = let a = c.args in record {
  acted = settled _ _ _ _ (copy-calls a.x a.own a.other c.if-own.false (sym c.has_receive.ensures ∙ c.if-has_receive.true)) (c.end_by.ensures a.x);
  words = sym (cond-false _ _ _ (le-ltb _ _ c.if-own.false));
}

pub returns : goal.returns
unfolding word_added
returns c = let a = c.args in record {
  acted = settled _ _ _ _ (copy-sends a.x a.own a.other c.if-own.false (sym c.has_receive.ensures ∙ c.if-has_receive.false)) (c.end_by-2.ensures a.x);
  words = sym (cond-false _ _ _ (le-ltb _ _ c.if-own.false));
}
