-- What is known of a table where the call that made it was not refused.
use Prim.Native.Nat.{ℕ, ◌≤◌}
use Rattle.model.specs.declared.Answer.{Answer}
use Rattle.model.specs.declared.Table.{Table}
use Rattle.model.specs.Threads.{new_table}
use Rattle.model.specs.Answers.{accepted}
use Rattle.model.specs.Refusals.{make_refusal}
use Rattle.model.specs.Promise.{make_answer, MakePromise}
use Rattle.model.proofs.Making.{made-new}
use Rattle.laws.proofs.Refusals.{making_accepted}
use Rattle.record_input.proofs.Accepted.{Accepts, no_ground}

-- a table that was made has at most 32 threads
pub made-size : (n : ℕ) (a : Answer) (made : Table) → MakePromise n a made → Accepts a → made.n ≤ 32
unfolding make_answer new_table
made-size n a made promise other =
    let (some, few) = making_accepted n (no_ground a (make_refusal n) accepted promise.answers other) in
    rw (promise.makes, made-new n some few) few
