-- What refilling a buffer promises.
use Rattle.std.specs.Prelude.{◌≡◌, List, ℕ, ◌-◌, ◌≤◌, length, take, drop}

-- so many bytes stand at the front: `&bytes[..n]` is in bounds and has n bytes, of which the second part follows from the first
abbrev pub IsPrefixLen : ℕ → List ℕ → Type 0
IsPrefixLen n bytes = (n ≤ length bytes) × (n ≡ length (take n bytes))

-- the bytes from start to end stand at the front
pub record MovedDown (start end : ℕ) (before after : List ℕ) : Type 0 where
  pub long : length after ≡ length before
  pub front : take (end - start) after ≡ take (end - start) (drop start before)

-- the bytes from start to end stand at the front, and more of the input may stand behind them; filled counts them all
pub record Refilled (start end : ℕ) (before after : List ℕ) (filled : ℕ) : Type 0 where
  pub long : length after ≡ length before
  pub front : take (end - start) after ≡ take (end - start) (drop start before)
  pub more : end - start ≤ filled
  pub counts : IsPrefixLen filled after
