use Rattle.model.specs.Lists.{up_to}
use Rattle.model.specs.Bondtrace.{ascii}
use Rattle.text.proofs.Writing.{written_joined}
use Rattle.showing.specs.Shown.{thread_text}
use Rattle.showing.proofs.put_thread.Goals as goal

pub returns : goal.returns
unfolding thread_text ascii up_to
returns c = rw (c.byte-2.ensures, c.put_queue.ensures, c.put_store.ensures, c.put_outcome.ensures, c.put_ties.ensures, c.put_state.ensures, c.number.ensures, c.byte.ensures, c.from.ensures) (simp written_joined)
