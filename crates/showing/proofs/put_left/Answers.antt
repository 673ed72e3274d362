use Rattle.model.specs.Lists.{up_to}
use Rattle.model.specs.Bondtrace.{ascii}
use Rattle.text.proofs.Writing.{written_joined}
use borrow.Author.Tests.{ne_eqb}
use Rattle.showing.specs.Shown.{left_text}
use Rattle.showing.proofs.put_left.Goals as goal

pub returns : goal.returns
unfolding left_text ascii up_to
returns c = rw (c.number.ensures, c.bytes-2.ensures, c.from.ensures, c.if-not-used.false, ne_eqb _ _ c.if-left-eq-NEVER.false) (simp written_joined)
