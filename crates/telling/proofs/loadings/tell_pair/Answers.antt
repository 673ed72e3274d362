use Rattle.model.specs.Lists.{up_to}
use Rattle.model.specs.Bondtrace.{ascii}
use Rattle.text.proofs.Writing.{written_joined}
use Rattle.telling.specs.Texts.{pair_text}
use Rattle.telling.proofs.loadings.tell_pair.Goals as goal

pub returns : goal.returns
unfolding pair_text ascii up_to
returns c = rw (c.number-2.ensures, c.byte-2.ensures, c.number.ensures, c.byte.ensures, c.from.ensures, c.from-2.ensures) (simp written_joined)
