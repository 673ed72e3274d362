-- A step's table: it does not depend on a store, and well-formed threads stay so.
use mathlib.Core.Path.{◌≡◌, sym, ap, ◌∙◌, subst}
use mathlib.Core.List.{List}
use Prim.Native.Nat.{ℕ, ◌<◌}
use Rattle.model.specs.declared.Table.{Table}
use Rattle.model.specs.Threads.{at}
use Rattle.model.specs.WellFormed.{Shaped, WellFormed}
use Rattle.model.specs.Step.{decide, act}
use Rattle.model.specs.Calls.{step, State, accepted_state}
use Rattle.model.specs.Counting.{after_step}
use Rattle.model.specs.Refusals.{refusal}
use Rattle.model.specs.Promise.{state, next}
use Rattle.laws.proofs.Tables.{act-only, act-length}
use Rattle.laws.proofs.Calls.{accepted-next}
use Rattle.formed.proofs.Formed.{Formed, formed_grouped}
use Rattle.invariant.proofs.Steps.{step_keeps}
use Rattle.invariant.proofs.Keeps.{Kept}

-- "Words are not followed and no store is lent": whatever the store, an accepted step leaves this table
pub step_any_store : (t : Table) (x : ℕ) (store : List ℕ) → refusal (step x) (state t store) ≡ 0 → (next (step x) (state t store)).table ≡ after_step x t
unfolding after_step accepted_state
step_any_store t x store accepted = ap (λ (s : State). s.table) (accepted-next (step x) (state t store) accepted)

-- the threads of a table are well-formed, and its array has 32 places
abbrev pub Steps : Table → Type 0
Steps t = Kept t.n t

-- as of every well-formed table
pub steps-well_formed : (t : Table) → WellFormed t → Shaped t → Steps t
steps-well_formed t w z = record { whole = z.threads; formed = formed_grouped t w z }

-- a step leaves as many threads
pub step-size : (t : Table) (x : ℕ) → (after_step x t).n ≡ t.n
unfolding after_step
step-size t x = ap (λ (u : Table). u.n) (act-only (decide t x) x t)

-- and they stay well-formed
pub step-steps : (t : Table) → Steps t → (x : ℕ) → x < t.n → Steps (after_step x t)
unfolding after_step
step-steps t k x below = record {
  whole = act-length (decide t x) x t ∙ k.whole;
  formed = subst (λ (n : ℕ). Formed n (at (act (decide t x) x t))) (sym (step-size t x)) (step_keeps t k.formed x below k.whole);
}
