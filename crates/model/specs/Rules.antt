-- Document 02, #102: who may send to whom. Rows of rules, in how many of them a pair falls, and the pair by which rules do not fit a table.
use Rattle.std.specs.Prelude.{◌≡◌, ◌≢◌, Bool, true, false, cond, ◌&&◌, ◌||◌, List, [], ◌∷◌, ℕ, ◌+◌, ◌<◌, take, replicate, eqb, leb, ltb}
use Rattle.model.specs.declared.Range.{Range}
use Rattle.model.specs.declared.Rule.{Rule}
use Rattle.model.specs.declared.Rules.{Rules}
use Rattle.model.specs.declared.Pair.{Pair}
use Rattle.model.specs.declared.Misfit.{Misfit}
use Rattle.model.specs.declared.Misfit.TheVariants.{Fits, TooMany, Gap, Overlap}
use Rattle.model.specs.Lists.{bit, up_to, concat}
use Rattle.model.specs.Codes.{nobody}

-- ---- rows
-- "from..to, .. ends included"; of "a from above its to" no number is
unfoldable pub in_range : Range → ℕ → Bool
in_range range x = leb range.from x && leb x range.to

-- "senders from..to, targets from..to": the pair of s and r falls in the row
unfoldable pub holds_pair : Rule → ℕ → ℕ → Bool
holds_pair row s r = in_range row.senders s && in_range row.targets r

-- the rows in use
unfoldable pub rows_in : Rules → List Rule
rows_in rules = take rules.len rules.rows

-- in how many rows the pair falls
unfoldable pub falls : List Rule → ℕ → ℕ → ℕ
falls [] s r = 0
falls (row ∷ rows) s r = bit (holds_pair row s r) + falls rows s r

-- "yes or no": a row in which the pair falls says yes
unfoldable pub says_yes : List Rule → ℕ → ℕ → Bool
says_yes [] s r = false
says_yes (row ∷ rows) s r = holds_pair row s r && row.permits || says_yes rows s r

-- "A table without loaded rules permits every pair"
unfoldable pub permits : Rules → ℕ → ℕ → Bool
permits rules s r = eqb rules.len 0 || says_yes (rows_in rules) s r

-- "up to 64 rows"
abbrev pub row_limit : ℕ
row_limit = 64

-- a row of zeros
abbrev pub zero_rule : Rule
zero_rule = record { senders = record { from = 0; to = 0 }; targets = record { from = 0; to = 0 }; permits = false }

-- no rules are loaded
unfoldable pub no_rules : Rules
no_rules = record { rows = replicate row_limit zero_rule; len = 0 }

-- ---- "On loading, each ordered pair of different threads below N must fall in one row exactly"
-- the pair of s and r, if they are different threads
unfoldable pub pair_or_none : ℕ → ℕ → List Pair
pair_or_none s r = cond (eqb s r) [] (record { sender = s; target = r } ∷ [])

-- the pairs of one sender, "the lowest target" first
unfoldable pub pairs_from : ℕ → ℕ → List Pair
pairs_from n s = concat (up_to n (pair_or_none s))

-- the ordered pairs of different threads below n, "the lowest sender first, then the lowest target"
unfoldable pub pairs_below : ℕ → List Pair
pairs_below n = concat (up_to n (pairs_from n))

-- "A pair that falls in none is reported as a gap and one in several as an overlap": one pair that falls in so many rows
unfoldable pub pair_misfit : ℕ → Pair → Misfit
pair_misfit count pair = cond (eqb count 0) (Gap pair) (cond (eqb count 1) Fits (Overlap pair))

-- the rule is kept
abbrev pub is_fit : Misfit → Bool
is_fit Fits = true
is_fit TooMany = false
is_fit (Gap pair) = false
is_fit (Overlap pair) = false

-- the first of the pairs that is reported
unfoldable pub first_misfit : List Rule → List Pair → Misfit
first_misfit rows [] = Fits
first_misfit rows (pair ∷ pairs) =
    let found = pair_misfit (falls rows pair.sender pair.target) pair in
    cond (is_fit found) (first_misfit rows pairs) found

-- how rules fit a table of n threads; "more than 64 rows" comes first
unfoldable pub misfit : ℕ → Rules → Misfit
misfit n rules = cond (ltb row_limit rules.len) TooMany (first_misfit (rows_in rules) (pairs_below n))

-- "with the pair, or with 255 255 for more than 64 rows"
unfoldable pub pair_of : Misfit → Pair
pair_of Fits = record { sender = nobody; target = nobody }
pair_of TooMany = record { sender = nobody; target = nobody }
pair_of (Gap pair) = pair
pair_of (Overlap pair) = pair

-- what the rule says, for readers: each pair falls in one row exactly
abbrev pub EachInOneRow : ℕ → List Rule → Type 0
EachInOneRow n rows = (s r : ℕ) → s < n → r < n → s ≢ r → falls rows s r ≡ 1

-- and of a pair that is reported: it is one of two different threads below n, and each earlier one, by "the lowest sender first, then the lowest target", falls in one row exactly
pub record Reported (n : ℕ) (rows : List Rule) (pair : Pair) : Type 0 where
  pub sender : pair.sender < n
  pub target : pair.target < n
  pub apart : pair.sender ≢ pair.target
  pub earlier_sender : (s r : ℕ) → s < pair.sender → r < n → s ≢ r → falls rows s r ≡ 1
  pub earlier_target : (r : ℕ) → r < pair.target → pair.sender ≢ r → falls rows pair.sender r ≡ 1

-- ---- a table's rules
-- no rules are loaded, or they keep the rule of their loading
unfoldable pub rules_fit : ℕ → Rules → Bool
rules_fit n rules = eqb rules.len 0 || is_fit (misfit n rules)
