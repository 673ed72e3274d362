use Rattle.std.proofs.lemmas.List.{take_all}
use Rattle.std.proofs.Common.{arith}
use Rattle.rules.proofs.Counting.{covers-none, covers_room, covers_more}
use Rattle.rules.proofs.cover_of.Goals as goal

pub loop-row-init : goal.loop-row-init
loop-row-init c = covers-none c.args.n c.args.rows.now c.args.s c.requires.0

pub count_row-requires : goal.count_row-requires
count_row-requires c = (c.requires.0, covers_room _ c.args.rows.now _ c.loop-row.row-index c.loop-row.invariant c.loop-row-test.true (omega arith))

pub loop-row-preserved : goal.loop-row-preserved
loop-row-preserved c = covers_more _ c.args.rows.now _ c.loop-row.row-index c.loop-row.invariant c.loop-row-test.true _ c.count_row.ensures

pub returns : goal.returns
returns c = rw (take_all c.loop-row.row-index c.args.rows.now c.loop-row-test.false) at c.loop-row.invariant
