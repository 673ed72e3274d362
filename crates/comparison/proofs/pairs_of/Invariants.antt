use Rattle.std.proofs.Common.{◌≡◌, ℕ, ◌<◌, length, get_or}
use Rattle.columns.proofs.Places.{no_pair}
use Rattle.comparison.specs.Entries.{pair_of, no_entry}
use Rattle.comparison.proofs.pairs_of.Given as goal

-- the first i are written
abbrev pub invariant-loop-i : goal.invariant-loop-i
invariant-loop-i l = (length l.pairs ≡ 512) × ((k : ℕ) → k < l.i → get_or l.pairs k no_pair ≡ pair_of (get_or l.entries k no_entry))
