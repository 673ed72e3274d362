-- For each case of an answer of the rest call the value that it stands for. The promise speaks of these.
use Rattle.std.specs.Prelude.{ℕ, Option, None, Some, Result, Ok, Err}
use Rattle.model.specs.Answers.{SaidRest, resting, would_move}

-- what each case stands for: an `Err` has the number of a refusal, and a table of which no thread would move is at rest
abbrev pub said_rest : Result (Option ℕ) ℕ → SaidRest
said_rest (Err number) = SaidRest.refused number
said_rest (Ok None) = resting
said_rest (Ok (Some thread)) = would_move thread
