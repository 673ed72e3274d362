use Rattle.std.proofs.Common.{◌+◌, ◌-◌, ◌*◌}
use Rattle.counting.proofs.+try_next_try_step.Given as goal

-- the length that is left, and of one length the threads not yet tried, of which there are at most four
abbrev pub decreases-try_next : goal.decreases-try_next
decreases-try_next l = 16 * l.left + 2 * (l.table.n - l.x)

abbrev pub decreases-try_step : goal.decreases-try_step
decreases-try_step l = 16 * l.left + 2 * (l.table.n - l.x) - 1
