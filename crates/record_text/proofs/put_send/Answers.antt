use Rattle.std.proofs.Common.{sym}
use Rattle.model.specs.Lists.{up_to}
use Rattle.model.specs.Bondtrace.{ascii}
use Rattle.text.proofs.Writing.{written_none, written_joined}
use Rattle.record_text.proofs.Texts.{send-there, send-missing}
use Rattle.record_text.proofs.put_send.Goals as goal

pub returns-then-send : goal.returns-then-send
unfolding ascii up_to
returns-then-send c = rw (send-there c.args.send c.if-send.true, c.put_sent.ensures, c.words.ensures.written, c.bytes.ensures, c.from.ensures, c.from-then-send.ensures) (simp written_joined)

pub returns-else-send : goal.returns-else-send
returns-else-send c = rw (send-missing c.args.send c.if-send.false) (sym (written_none _))
