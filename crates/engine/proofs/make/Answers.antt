use Rattle.engine.proofs.Refused.{make-refused, make-accepted}
use Rattle.engine.proofs.make.Goals as goal

pub returns-in-Err : goal.returns-in-Err
returns-in-Err c = make-refused _ _ _ (rw c.new_table.ensures at c.refuse.ensures.returned) c.in-Err.ensures

pub returns-in-Ok : goal.returns-in-Ok
returns-in-Ok c = rw c.new_table-in-Ok.ensures (make-accepted _ c.in-Ok.ensures)
