use borrow.Author.Tests.{not-true, not-false}
use Rattle.model.specs.Threads.{at, put}
use Rattle.unchecked.proofs.Performed.{cancel-place, cancel-running, cancel-over}
use Rattle.unchecked.proofs.cancel_in.Goals as goal

pub bounds-table-i : goal.bounds-table-i
bounds-table-i c = cancel-place _ _ c.requires

pub returns-then-not-h : goal.returns-then-not-h
unfolding at
returns-then-not-h c = cancel-over _ _ c.requires (not-true _ c.if-not-h.true)

pub returns : goal.returns
unfolding at put
returns c = cancel-running _ _ c.requires (not-false _ c.if-not-h.false) _ c.set_mark.ensures
