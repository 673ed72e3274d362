-- In how many rows each target falls with one sender, as an array of counts.
use Rattle.std.specs.Prelude.{◌≡◌, Bool, List, ℕ, ◌+◌, ◌<◌, length, get_or}
use Rattle.model.specs.declared.Rule.{Rule}
use Rattle.model.specs.Lists.{bit}
use Rattle.model.specs.Rules.{falls}

-- the count of target r
abbrev pub count_at : List ℕ → ℕ → ℕ
count_at counts r = get_or counts r 0

-- the counts are those of these rows with sender s
pub record Covers (n : ℕ) (rows : List Rule) (s : ℕ) (counts : List ℕ) : Type 0 where
  pub whole : length counts ≡ 32
  pub read : (r : ℕ) → r < n → count_at counts r ≡ falls rows s r

-- each count has room for one more
pub record RoomFor (n : ℕ) (counts : List ℕ) : Type 0 where
  pub whole : length counts ≡ 32
  pub room : (r : ℕ) → r < n → count_at counts r < 255

-- one more for each target that passes a test
pub record OneMore (n : ℕ) (test : ℕ → Bool) (before after : List ℕ) : Type 0 where
  pub whole : length after ≡ 32
  pub read : (r : ℕ) → r < n → count_at after r ≡ count_at before r + bit (test r)
