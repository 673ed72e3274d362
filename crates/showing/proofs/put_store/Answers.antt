use Rattle.model.specs.Lists.{up_to}
use Rattle.model.specs.Bondtrace.{ascii}
use Rattle.text.proofs.Writing.{written_joined}
use Rattle.showing.specs.Shown.{words_text}
use Rattle.showing.proofs.put_store.Goals as goal

pub returns : goal.returns
unfolding words_text ascii up_to
returns c = rw (c.put_dashes.ensures, c.words.ensures.written, c.bytes.ensures) (simp written_joined)
