use Rattle.std.proofs.Common.{sym, arith, rules}
use Rattle.schedule_text.proofs.Named.{named-thread, named-inside, tick-thread}
use Rattle.schedule_text.proofs.asked.thread_at.Goals as goal

-- a tick names thread 0
pub returns-then-row-eq-TICK_ROW : goal.returns-then-row-eq-TICK_ROW
returns-then-row-eq-TICK_ROW c = sym (tick-thread _ _ c.if-row-eq-TICK_ROW.true _ c.requires.i_in_bounds)

-- a line that is no tick has the number
pub offset_bounds-numbers-i : goal.offset_bounds-numbers-i
offset_bounds-numbers-i c = let h = named-inside c.args.row c.args.numbers.now c.if-row-eq-TICK_ROW.false c.args.i c.requires.i_in_bounds in search rules

pub bounds-numbers-i : goal.bounds-numbers-i
bounds-numbers-i c = named-inside _ _ c.if-row-eq-TICK_ROW.false _ c.requires.i_in_bounds

pub overflow_cast-result : goal.overflow_cast-result
overflow_cast-result c = omega (arith, named-thread c.args.row c.args.numbers.now c.if-row-eq-TICK_ROW.false c.args.i, c.requires.bytes c.args.i)

pub returns : goal.returns
returns c = named-thread _ _ c.if-row-eq-TICK_ROW.false _
