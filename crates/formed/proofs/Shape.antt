-- That the arrays of a table have their places is a fact of the types: a function that is given a table has it from the table's type.
-- A projection below goes by the place of a field in its struct.
use mathlib.Core.Path.{◌≡◌}
use mathlib.Core.List.{List, [], ◌∷◌}
use Prim.Native.Nat.{ℕ, zero, suc, ◌≤◌, ◌<◌}
use native.Mathlib.Omega.{arith}
use lib.ListN.{length, get_or}
use mir.Val.{Val}
use denote.Array.{each}
use denote.Shadow.{shadow}
use Rattle.model.specs.declared.Thread.{Thread}
use Rattle.model.specs.declared.Table.{Table}
use Rattle.model.specs.Threads.{zero_thread, at}
use Rattle.model.specs.WellFormed.{Shaped}
use Rattle.model.specs.contracts.Thread.{the_row as thread_row}
use Rattle.model.specs.contracts.Table.{the_row}

-- of an array of threads: the queues of its threads have 32 places
items-whole : (l : List Thread) (us : List Val) → shadow (each _ thread_row.own_val l us) → (x : ℕ) → x < length l → length (get_or l x zero_thread).queue.items ≡ 32
items-whole [] us e x k = absurd (omega arith)
items-whole (h ∷ l) [] e x k = absurd e
items-whole (h ∷ l) (u ∷ us) e zero k = e.0.1.1.1.1.1.1.0.1.1.0.1.0.1
items-whole (h ∷ l) (u ∷ us) e (suc x) k = items-whole l us e.1 x (omega arith)

-- a table of at most 32 threads has its arrays whole
pub shaped : (t : Table) (vs : List Val) → shadow (the_row.own_val t vs) → t.n ≤ 32 → Shaped t
unfolding at
shaped t vs g few =
    let long : length t.threads ≡ 32 = g.1.1.1.0.1.0.1 in
    record { threads = long; queues = λ x xn. items-whole t.threads _ g.1.1.1.0.1.1 x (omega arith) }
