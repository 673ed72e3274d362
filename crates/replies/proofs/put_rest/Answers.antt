use Rattle.std.proofs.Common.{refl}
use Rattle.model.specs.Lists.{up_to}
use Rattle.model.specs.Bondtrace.{ascii}
use Rattle.text.proofs.Writing.{written_joined}
use Rattle.replies.specs.Replied.{joined_words, said_text}
use Rattle.replies.proofs.Said.{none_left, one_left}
use Rattle.replies.proofs.put_rest.Goals as goal
use Rattle.replies.proofs.put_rest.Goals.{then-command, else-command}

pub returns : goal.returns
unfolding said_text joined_words ascii up_to
returns c =
    elim c.if-command.branch [
      | then-command w ↦ rw (one_left c.next_word-command.ensures w.if-command.true, c.byte.ensures, w.out-is, w.put_joined.ensures) (simp written_joined)
      | else-command w ↦ rw (none_left c.next_word-command.ensures w.if-command.false, c.byte.ensures, w.out-is) refl
    ]
