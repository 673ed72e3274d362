use Rattle.std.proofs.Common.{sym}
use Rattle.text.proofs.Writing.{written_none, written_append}
use Rattle.showing.proofs.Lines.{dashes_none, dashes_more}
use Rattle.showing.proofs.put_dashes.Goals as goal

pub loop-word-init : goal.loop-word-init
loop-word-init c = rw dashes_none (sym (written_none _))

pub loop-word-preserved : goal.loop-word-preserved
loop-word-preserved c = rw (dashes_more, written_append, ← c.loop-word.invariant) c.bytes.ensures
