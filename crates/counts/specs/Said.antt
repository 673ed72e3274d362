-- What a count says: its answer, and the length that it used. The promise speaks of these.
use Rattle.std.specs.Prelude.{ℕ, Result, Ok, Err}
use Rattle.model.specs.declared.Answer.{Answer}
use Rattle.model.specs.declared.Answer.TheVariants.{Refused, Accepted}

-- an `Err` has the number of a refusal
abbrev pub said_answer : Result ℕ ℕ → Answer
said_answer (Err number) = Refused number
said_answer (Ok used) = Accepted

-- refused, 0
abbrev pub said_length : Result ℕ ℕ → ℕ
said_length (Err number) = 0
said_length (Ok used) = used
