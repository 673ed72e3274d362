-- For each case of an answer of the search call the value that it stands for. The promise speaks of these.
use Rattle.std.specs.Prelude.{ℕ, Option, None, Some, Result, Ok, Err}
use Rattle.model.specs.Answers.{SaidSearch, not_receiving, searched}
use Rattle.searches.specs.declared.Found.{Found}

-- what each case stands for: an `Err` has the number of a refusal, and where the thread is not receiving nothing is found
abbrev pub said_search : Result (Option Found) ℕ → SaidSearch
said_search (Err number) = SaidSearch.refused number
said_search (Ok None) = not_receiving
said_search (Ok (Some found)) = searched found.sender found.read
