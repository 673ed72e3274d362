-- In every trace from a new table, after every call: the table is well-formed, it has N threads, and the store has its 8×N words.
use mathlib.Core.Path.{◌≡◌, sym, ◌∙◌, subst}
use mathlib.Core.List.{List, [], ◌∷◌}
use Prim.Native.Nat.{ℕ, ◌*◌, ◌≤◌}
use lib.ListN.{length}
use Rattle.model.specs.Threads.{new_table}
use Rattle.model.specs.WellFormed.{Shaped, WellFormed}
use Rattle.model.specs.Calls.{Call, State}
use Rattle.model.specs.Promise.{next, state}
use Rattle.model.specs.Linearization.{Observed, Trace, Always}
use Rattle.invariant.proofs.Frames.{next-size, next-store-length}
use Rattle.invariant.proofs.Keeps.{keeps_shaped, keeps_well_formed}
use Rattle.invariant.proofs.New.{new-size, new-shaped, new-well_formed}

-- what every call keeps
pub record Lasting (n : ℕ) (s : State) : Type 0 where
  pub shaped : Shaped s.table
  pub formed : WellFormed s.table
  pub size : s.table.n ≡ n
  pub store : length s.store ≡ 8 * n

-- a new table has it
pub new-lasting : (n : ℕ) → 1 ≤ n → n ≤ 32 → (store : List ℕ) → length store ≡ 8 * n → Lasting n (state (new_table n) store)
new-lasting n one few store fit = record { shaped = new-shaped n few; formed = new-well_formed n one few; size = new-size n; store = fit }

-- every call keeps it
pub next-lasting : (n : ℕ) (s : State) (c : Call) → Lasting n s → Lasting n (next c s)
next-lasting n s c k = record {
  shaped = keeps_shaped c s k.shaped;
  formed = keeps_well_formed c s k.shaped k.formed;
  size = next-size c s ∙ k.size;
  store = next-store-length c s ∙ k.store;
}

-- and so does every trace
lasts : (n : ℕ) (s : State) → Lasting n s → (trace : List Observed) → Trace s trace → Always (Lasting n) trace
lasts n s k [] t = tt
lasts n s k (c ∷ cs) (kept, rest) =
    let after : Lasting n c.after = subst (Lasting n) (sym kept.leaves) (next-lasting n s c.call k) in
    (after, lasts n c.after after cs rest)

-- from a new table
pub trace_lasting : (n : ℕ) → 1 ≤ n → n ≤ 32 → (store : List ℕ) → length store ≡ 8 * n → (trace : List Observed) → Trace (state (new_table n) store) trace → Always (Lasting n) trace
trace_lasting n one few store fit = lasts n (state (new_table n) store) (new-lasting n one few store fit)
