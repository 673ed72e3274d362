-- What a place relies on.
use Rattle.std.specs.Prelude.{◌≡◌, true, List, ℕ, ◌≤◌, ◌<◌, get_or, ℤ}
use Rattle.model.specs.declared.Outcome.{Outcome}
use Rattle.model.specs.Codes.{codes}
use Rattle.model.specs.Threads.{zero_thread}
use Rattle.model.specs.WellFormed.{is_code}
use Rattle.model.specs.Counting.{counted_threads}

-- the code of outcome k
abbrev pub code_at : List Outcome → ℕ → ℤ
code_at outcomes k = (get_or outcomes k zero_thread.outcome).code

-- at most four outcomes are in use, and their codes are document 01's
pub record Coded (n : ℕ) (outcomes : List Outcome) : Type 0 where
  pub few : n ≤ counted_threads
  pub coded : (k : ℕ) → k < n → is_code codes (code_at outcomes k) ≡ true
