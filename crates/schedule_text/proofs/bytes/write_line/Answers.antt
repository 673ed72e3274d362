use Rattle.schedule_text.proofs.Lines.{step-wrong, step-skipped, step_other, asked-bytes, step-lawful, step-unlawful}
use Rattle.schedule_text.proofs.bytes.write_line.Goals as goal

-- a line that is skipped
pub returns-in-Ok-None : goal.returns-in-Ok-None
returns-in-Ok-None g c = step-skipped _ (rw c.in-Ok-None.field-0-is at c.in-Ok-None.ensures.parses) _

-- one that is no command
pub returns-in-Err : goal.returns-in-Err
returns-in-Err g c = step-wrong _ c.in-Err.ensures.parses _

-- one that is none of a schedule
pub returns-then-asked-gt-TICK_ROW : goal.returns-then-asked-gt-TICK_ROW
returns-then-asked-gt-TICK_ROW g c = step_other _ (rw c.in-Ok-Some.field-0-is at c.in-Ok-Some.ensures.parses) _ c.if-asked-gt-TICK_ROW.true

-- the threads of any other are bytes
pub write_records-requires-clause-bytes : goal.write_records-requires-clause-bytes
write_records-requires-clause-bytes g c = asked-bytes _ (rw c.in-Ok-Some.field-0-is at c.in-Ok-Some.ensures.parses) c.if-asked-gt-TICK_ROW.false

-- its records are written
pub returns-then-branch : goal.returns-then-branch
returns-then-branch g c =
    step-lawful _ (rw c.in-Ok-Some.field-0-is at c.in-Ok-Some.ensures.parses) c.if-asked-gt-TICK_ROW.false _ c.how_many-many.ensures c.in_ok-write_records.ensures c.if-branch.true

-- or one is unlawful
pub returns : goal.returns
returns g c =
    step-unlawful _ (rw c.in-Ok-Some.field-0-is at c.in-Ok-Some.ensures.parses) c.if-asked-gt-TICK_ROW.false _ c.in_ok-write_records.ensures c.if-branch.false
