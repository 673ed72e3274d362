-- Document 01, "The table": time codes, the ticks that they stand for, and how `left` falls.
use Rattle.std.specs.Prelude.{Bool, cond, ◌&&◌, ◌||◌, List, [], ◌∷◌, ℕ, ◌-◌, eqb, leb, get_or}

-- `left` of a thread whose time never runs out
abbrev pub never : ℕ
never = 65535

-- "a table of sixteen tick counts, codes 0 to 15"
abbrev pub tick_counts : List ℕ
tick_counts = 0 ∷ 1 ∷ 2 ∷ 5 ∷ 10 ∷ 20 ∷ 50 ∷ 100 ∷ 200 ∷ 500 ∷ 1000 ∷ 2000 ∷ 5000 ∷ 10000 ∷ 20000 ∷ never ∷ []

-- a time code that stands for a tick count
unfoldable pub is_time_code : ℕ → Bool
is_time_code code = leb code 15

-- the ticks that a time code stands for
unfoldable pub tick_count : ℕ → ℕ
tick_count code = get_or tick_counts code 0

-- document 02, #106: "receive codes 1 to 14 are hard"
unfoldable pub is_hard : ℕ → Bool
is_hard code = leb 1 code && leb code 14

-- a number of ticks that `left` can hold while an operation runs
unfoldable pub is_left : ℕ → Bool
is_left left = leb left (tick_count 14) || eqb left never

-- a tick "lowers `left` by one .., unless 0 or never"
unfoldable pub fall : ℕ → ℕ
fall left = cond (eqb left never) left (left - 1)
