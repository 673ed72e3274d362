use Rattle.std.proofs.Common.{sym, refl}
use Rattle.text.proofs.Writing.{written_none, written_joined}
use Rattle.replies.specs.Replied.{joined_words}
use Rattle.replies.proofs.Said.{none_left, one_left}
use Rattle.replies.proofs.put_joined.Goals as goal

pub returns-then-word : goal.returns-then-word
unfolding joined_words
returns-then-word c = rw (one_left c.next_word-word.ensures c.if-word.true, c.put_behind.ensures, c.bytes.ensures, written_joined) refl

pub returns-else-word : goal.returns-else-word
unfolding joined_words
returns-else-word c = rw (none_left c.next_word-word.ensures c.if-word.false) (sym (written_none _))
