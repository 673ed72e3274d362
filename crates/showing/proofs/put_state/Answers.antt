use Rattle.model.specs.Lists.{up_to}
use Rattle.model.specs.Bondtrace.{ascii}
use Rattle.text.proofs.Writing.{written_joined}
use Rattle.showing.specs.Shown.{state_text}
use Rattle.showing.proofs.put_state.Goals as goal

pub returns : goal.returns
unfolding state_text ascii up_to
returns c = rw (c.put_left.ensures, c.put_flags.ensures, c.bytes-2.ensures, c.number.ensures, c.bytes.ensures, c.from.ensures) (simp written_joined)
