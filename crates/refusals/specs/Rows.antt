-- How the code joins rows of refusal.
use Rattle.std.specs.Prelude.{List, [], ◌∷◌, ℕ}
use Rattle.model.specs.declared.Operation.{Operation}
use Rattle.model.specs.declared.EntryPoint.{EntryPoint}
use Rattle.model.specs.declared.Table.{Table}
use Rattle.model.specs.Refusals.{Row, lock_owned, not_idle, neither_part, with_itself, no_partner, no_member, too_many_words, bad_time}

-- the rows on a thread that begins
unfoldable pub thread_rows : Table → ℕ → List Row
thread_rows t x = lock_owned t x ∷ not_idle t x ∷ []

-- the rows on the operation that it begins
unfoldable pub operation_rows : EntryPoint → Table → ℕ → Operation → List Row
operation_rows via t x o = neither_part o ∷ with_itself x o ∷ no_partner t o ∷ no_member o ∷ too_many_words via o ∷ bad_time o ∷ []
