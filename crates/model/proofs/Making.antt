-- A table that is made is the new table that traces start from.
use mathlib.Core.Path.{◌≡◌, refl}
use Prim.Native.Nat.{ℕ, ◌≤◌}
use Rattle.model.specs.Threads.{new_table}
use Rattle.model.specs.Refusals.{unless, first_refusal, bad_size, make_refusal}
use Rattle.model.specs.Promise.{made_table}
use Rattle.model.proofs.Numbers.{size-made}

-- where the number of threads is 1 to 32, the table that is made is a new one
pub made-new : (n : ℕ) → 1 ≤ n → n ≤ 32 → made_table n ≡ new_table n
unfolding made_table make_refusal first_refusal bad_size unless
made-new n low high = rw (size-made n low high) refl
