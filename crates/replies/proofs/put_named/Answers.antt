use Rattle.std.proofs.Common.{sym, ◌∙◌}
use Rattle.model.specs.Lists.{up_to}
use Rattle.model.specs.Bondtrace.{ascii}
use Rattle.text.proofs.Writing.{written_none, written_joined}
use Rattle.replies.proofs.Said.{named, not_named}
use Rattle.replies.proofs.put_named.Goals as goal

pub returns-then-names_word : goal.returns-then-names_word
unfolding ascii up_to
returns-then-names_word c = rw (named _ _ (sym c.names_word.ensures ∙ c.if-names_word.true), c.bytes-then-names_word.ensures, c.bytes.ensures) (simp written_joined)

pub returns-else-names_word : goal.returns-else-names_word
returns-else-names_word c = rw (not_named _ _ (sym c.names_word.ensures ∙ c.if-names_word.false)) (sym (written_none _))
