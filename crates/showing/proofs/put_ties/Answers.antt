use Rattle.model.specs.Lists.{up_to}
use Rattle.model.specs.Bondtrace.{ascii}
use Rattle.text.proofs.Writing.{written_joined}
use Rattle.showing.specs.Shown.{ties_text}
use Rattle.showing.proofs.put_ties.Goals as goal

pub returns : goal.returns
unfolding ties_text ascii up_to
returns c = rw (c.put_used-2.ensures, c.put_used.ensures, c.number.ensures, c.bytes.ensures, c.from.ensures) (simp written_joined)
