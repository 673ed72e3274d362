use Rattle.schedule_text.proofs.Lines.{asked-bytes}
use Rattle.schedule_text.proofs.respelling.respelled.Goals as goal

-- the threads of a line are bytes
pub writes_one-requires : goal.writes_one-requires
writes_one-requires c = asked-bytes _ (rw c.in-Ok-Some.field-0-is at c.in-Ok-Some.ensures.parses) c.if-asked-gt-TICK_ROW.false
