-- The rows of a cancel: those on the table and the thread's number, and that on its lock.
use Rattle.std.proofs.Common.{◌≡◌, ℕ, List, [], ◌∷◌, refl}
use Rattle.model.specs.declared.Table.{Table}
use Rattle.model.specs.Calls.{cancel}
use Rattle.model.specs.Promise.{state}
use Rattle.model.specs.Refusals.{first_refusal, bad_size, not_well_formed, no_thread, lock_owned, table_rows, later_rows, rows_of, refusal, search_refusal}
use Rattle.refusals.specs.declared.Refusal.{Refusal}
use Rattle.refusals.specs.Numbers.{number}
use Rattle.refusals.proofs.Laws.{group-stops, group-goes_on}

module _ (t : Table) (x : ℕ) (store : List ℕ) where
  -- that on the number comes before that on the lock
  pub number-refuses : (r : Refusal) → number r ≡ search_refusal t x → number r ≡ refusal (cancel x) (state t store)
  unfolding refusal rows_of later_rows search_refusal table_rows
  number-refuses r e = group-stops (bad_size t.n ∷ not_well_formed t ∷ no_thread t x ∷ []) (lock_owned t x ∷ []) r e

  -- which decides where that does not hold
  pub lock-decides : (g : ℕ) → 0 ≡ search_refusal t x → g ≡ first_refusal (lock_owned t x ∷ []) → g ≡ refusal (cancel x) (state t store)
  unfolding refusal rows_of later_rows search_refusal table_rows bad_size not_well_formed no_thread
  lock-decides g none e = group-goes_on (bad_size t.n ∷ not_well_formed t ∷ no_thread t x ∷ []) (lock_owned t x ∷ []) g refl none e

pub ruleset cancel_rules = (number-refuses, lock-decides)
