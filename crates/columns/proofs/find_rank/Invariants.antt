use Rattle.std.proofs.Common.{◌≡◌, ◌≤◌}
use Rattle.columns.specs.Ranks.{senders_of, targets_of, earlier}
use Rattle.columns.proofs.Places.{NotBefore}
use Rattle.columns.proofs.find_rank.Given as goal

-- those before k are counted, and none of them is of the rank
abbrev pub invariant-loop-k : goal.invariant-loop-k
invariant-loop-k l =
    (l.seen ≤ l.k)
    × (l.seen ≡ earlier (senders_of l.pairs) (targets_of l.pairs) l.pair.sender l.pair.target l.k)
    × NotBefore (senders_of l.pairs) (targets_of l.pairs) l.pair.sender l.pair.target l.rank l.k
