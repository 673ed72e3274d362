use Rattle.model.specs.Lists.{up_to}
use Rattle.model.specs.Bondtrace.{ascii}
use Rattle.text.proofs.Writing.{written_joined}
use Rattle.showing.specs.Shown.{queue_text}
use Rattle.showing.proofs.put_queue.Goals as goal

pub returns : goal.returns
unfolding queue_text ascii up_to
returns c = rw (c.put_senders.ensures, c.bytes.ensures) (simp written_joined)
