-- Document 02, #112: the two logs of one run.
use Rattle.std.specs.Prelude.{◌≡◌, List, [], ◌∷◌, ◌++◌, ℕ, ◌*◌, ◌≤◌, length}
use Rattle.std.proofs.Math.Option.{none, some}
use Rattle.model.specs.declared.Operation.{Operation}
use Rattle.model.specs.Lists.{update}
use Rattle.model.specs.Operations.{message}
use Rattle.model.specs.Threads.{new_table, no_operation}
use Rattle.model.specs.Calls.{State}
use Rattle.model.specs.Promise.{state, view}
use Rattle.model.specs.Atomic.{begins, cancels, ticks, rendezvous, aborts}
use Rattle.model.specs.Linearization.{Observed, Trace, Entry}
use Rattle.model.specs.Linearized.{entry}
use Rattle.logs.specs.declared.Log.{Log}
use Rattle.logs.specs.Comparison.{Logged, entries_of, agree, log_room, compare_answer}

-- the operation that each thread began last, where it is ops before an entry of the linearization
abbrev pub begun_by : Entry → (ℕ → Operation) → ℕ → Operation
begun_by none ops = ops
begun_by (some (begins x o)) ops = update ops x o
begun_by (some (cancels x)) ops = ops
begun_by (some ticks) ops = ops
begun_by (some (rendezvous s r)) ops = ops
begun_by (some (aborts x c)) ops = ops

-- "the send's from its begin"
abbrev pub sent_at : Entry → (ℕ → Operation) → List Logged
sent_at none ops = []
sent_at (some (begins x o)) ops = []
sent_at (some (cancels x)) ops = []
sent_at (some ticks) ops = []
sent_at (some (rendezvous s r)) ops = let part = (ops s).send in record { sender = s; target = part.target; count = part.count; words = message part } ∷ []
sent_at (some (aborts x c)) ops = []

-- "the receive's from the outcome and its words"
abbrev pub received_at : Entry → State → List Logged
received_at none after = []
received_at (some (begins x o)) after = []
received_at (some (cancels x)) after = []
received_at (some ticks) after = []
received_at (some (rendezvous s r)) after = let seen = view after r in record { sender = seen.outcome.source; target = r; count = seen.outcome.count; words = seen.words } ∷ []
received_at (some (aborts x c)) after = []

-- "Two logs that gain one entry each at every short meeting of one run, in that order"
unfoldable pub send_log : (ℕ → Operation) → State → List Observed → List Logged
send_log ops s [] = []
send_log ops s (c ∷ cs) = let e = entry c.call s in sent_at e ops ++ send_log (begun_by e ops) c.after cs

unfoldable pub receive_log : State → List Observed → List Logged
receive_log s [] = []
receive_log s (c ∷ cs) = received_at (entry c.call s) c.after ++ receive_log c.after cs

-- a log says this, and is not "above 512 entries"
pub record Holds (log : Log) (entries : List Logged) : Type 0 where
  pub says : entries_of log ≡ entries
  pub few : log.len ≤ log_room

-- "always agree as long as neither is above 512 entries": of any trace from a new table
abbrev pub OneRunAgrees : Type 0
OneRunAgrees =
    (n : ℕ) → 1 ≤ n → n ≤ 32 → (store : List ℕ) → length store ≡ 8 * n
    → (trace : List Observed) → Trace (state (new_table n) store) trace
    → (sends receives : Log) → Holds sends (send_log (λ x. no_operation) (state (new_table n) store) trace) → Holds receives (receive_log (state (new_table n) store) trace)
    → compare_answer sends receives ≡ agree
