use Rattle.model.specs.Lists.{up_to}
use Rattle.model.specs.Bondtrace.{ascii}
use Rattle.text.proofs.Writing.{written_joined}
use Rattle.record_text.specs.Lines.{begin_line}
use Rattle.record_text.proofs.put_begin.Goals as goal

pub returns : goal.returns
unfolding begin_line ascii up_to
returns c = rw (c.put_receive.ensures, c.put_send.ensures, c.put_named.ensures) (simp written_joined)
