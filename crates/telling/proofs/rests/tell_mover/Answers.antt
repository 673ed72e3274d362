use Rattle.model.specs.Lists.{up_to}
use Rattle.model.specs.Bondtrace.{ascii}
use Rattle.text.proofs.Writing.{written_joined}
use Rattle.telling.specs.Texts.{rest_text}
use Rattle.telling.proofs.rests.tell_mover.Goals as goal

pub returns : goal.returns
unfolding rest_text ascii up_to
returns c = rw (c.byte.ensures, c.bytes.ensures, c.number.ensures, c.from.ensures) (simp written_joined)
