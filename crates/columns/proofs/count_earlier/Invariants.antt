use Rattle.std.proofs.Common.{◌≡◌, ◌≤◌}
use Rattle.columns.specs.Ranks.{senders_of, targets_of, earlier}
use Rattle.columns.proofs.count_earlier.Given as goal

-- those so far are counted
abbrev pub invariant-loop-before : goal.invariant-loop-before
invariant-loop-before l = (l.count ≤ l.before-index) × (l.count ≡ earlier (senders_of l.fn.pairs) (targets_of l.fn.pairs) l.pair.sender l.pair.target l.before-index)
