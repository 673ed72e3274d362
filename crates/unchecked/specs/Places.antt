-- Where a step finds its other thread.
use Rattle.std.specs.Prelude.{ℕ, cond, ◌==◌}
use Rattle.model.specs.Codes.{nobody}

-- the thread that is read and written as the other one: o, or x itself where there is no other
unfoldable pub or_own : ℕ → ℕ → ℕ
or_own o x = cond (o == nobody) x o
