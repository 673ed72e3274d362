use Rattle.std.proofs.Common.{rules}
use Rattle.model.specs.Lists.{up_to}
use Rattle.model.specs.Bondtrace.{ascii}
use Rattle.text.proofs.Writing.{written_joined, written_front}
use Rattle.replies.specs.Replied.{error_text}
use Rattle.replies.proofs.put_error.Goals as goal

pub returns : goal.returns
unfolding error_text ascii up_to
returns c =
    written_front c.byte.new.self c.len.ensures c.at-text.ensures (search rules)
    (rw (c.byte.ensures, c.put_named.ensures, c.bytes-3.ensures, c.text_of.ensures, c.bytes-2.ensures, c.number.ensures, c.bytes.ensures) (simp written_joined))
