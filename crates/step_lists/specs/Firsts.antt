-- Lists of steps by their first step.
use Rattle.std.specs.Prelude.{ℕ, zero, suc, ◌+◌}
use Rattle.model.specs.declared.Table.{Table}
use Rattle.model.specs.Counting.{after_step, count_of}

-- how many lists of a step of one of the m threads from x on, and k steps more, lead to place p
unfoldable pub count_from : Table → ℕ → ℕ → ℕ → ℕ → ℕ
count_from t zero x k p = 0
count_from t (suc m) x k p = count_of (after_step x t) k p + count_from t m (suc x) k p
