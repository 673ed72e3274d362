use Rattle.std.proofs.Common.{◌≡◌}
use Rattle.model.specs.Calls.{ticked}
use Rattle.model.specs.Threads.{edit_below}
use Rattle.unchecked.proofs.tick_in.Given as goal

-- the first i threads are ticked
abbrev pub invariant-loop-i : goal.invariant-loop-i
invariant-loop-i l = l.table ≡ edit_below l.i ticked l.initial.table
