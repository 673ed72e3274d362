use Rattle.std.proofs.Common.{sym}
use Rattle.model.specs.Lists.{up_to}
use Rattle.model.specs.Bondtrace.{ascii}
use Rattle.language.specs.RecordText.{receive_text}
use Rattle.text.proofs.Writing.{written_none, written_joined}
use Rattle.record_text.proofs.put_receive.Goals as goal

pub returns-in-Absent : goal.returns-in-Absent
unfolding receive_text
returns-in-Absent c = rw c.in-Absent.is (sym (written_none _))

pub returns-in-Open : goal.returns-in-Open
unfolding receive_text ascii up_to
returns-in-Open c = rw (c.words.ensures.written, c.bytes.ensures, c.from.ensures, c.in-Open.is) (simp written_joined)

pub returns-in-Closed : goal.returns-in-Closed
unfolding receive_text ascii up_to
returns-in-Closed c = rw (c.words-in-Closed.ensures.written, c.bytes-in-Closed.ensures, c.from-in-Closed.ensures, c.from-in-Closed-2.ensures, c.in-Closed.is) (simp written_joined)

pub returns-in-OneOf : goal.returns-in-OneOf
unfolding receive_text ascii up_to
returns-in-OneOf c = rw (c.words-in-OneOf.ensures.written, c.bytes-in-OneOf.ensures, c.from-in-OneOf.ensures, c.in-OneOf.is) (simp written_joined)
