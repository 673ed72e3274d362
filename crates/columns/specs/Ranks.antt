-- Ranks in two columns of numbers, the senders and the targets of a log's entries.
use Rattle.std.specs.Prelude.{Bool, cond, ◌&&◌, List, map, ℕ, length, get_or, eqb, ltb, Option, Some, None}
use Rattle.model.specs.declared.Pair.{Pair}
use Rattle.model.specs.Lists.{first_below}
use Rattle.logs.specs.Comparison.{count_below}

-- the senders of some pairs, and their targets
abbrev pub senders_of : List Pair → List ℕ
senders_of pairs = map (λ (p : Pair). p.sender) pairs

abbrev pub targets_of : List Pair → List ℕ
targets_of pairs = map (λ (p : Pair). p.target) pairs

-- place k of n; of a place past them, none
abbrev pub place_within : ℕ → ℕ → Option ℕ
place_within n k = cond (ltb k n) (Some k) None

-- place k of the columns is of sender s and target t
unfoldable pub is_of : List ℕ → List ℕ → ℕ → ℕ → ℕ → Bool
is_of senders targets s t k = eqb (get_or senders k 0) s && eqb (get_or targets k 0) t

-- how many places before k are
unfoldable pub earlier : List ℕ → List ℕ → ℕ → ℕ → ℕ → ℕ
earlier senders targets s t k = count_below k (is_of senders targets s t)

-- the place that is, with so many before it; the columns' length where there is none
unfoldable pub place_of_rank : List ℕ → List ℕ → ℕ → ℕ → ℕ → ℕ
place_of_rank senders targets s t rank = first_below (length senders) (λ k. is_of senders targets s t k && eqb (earlier senders targets s t k) rank)

-- the place in the other columns that has the sender, the target and the rank of place i
unfoldable pub mate_of : List ℕ → List ℕ → ℕ → List ℕ → List ℕ → ℕ
mate_of senders targets i sources receivers = let s = get_or senders i 0 in let t = get_or targets i 0 in place_of_rank sources receivers s t (earlier senders targets s t i)
