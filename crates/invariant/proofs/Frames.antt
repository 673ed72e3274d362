-- What no call changes: the number of threads, the rules but for a loading, and the store's length.
use mathlib.Core.Path.{◌≡◌, refl, ap, ◌∙◌}
use mathlib.Core.Logic.{⊎_elim}
use mathlib.Core.List.{List}
use Prim.Native.Nat.{ℕ}
use lib.ListN.{length}
use Rattle.model.specs.declared.Thread.{Thread}
use Rattle.model.specs.declared.Table.{Table}
use Rattle.model.specs.Threads.{with_rules, at, edit, marked}
use Rattle.model.specs.Phases.{lock}
use Rattle.model.specs.Queues.{joined}
use Rattle.model.specs.Step.{Action, decide, store_after}
use Rattle.model.specs.Calls.{begun, ticked, tick_table, Call, begin_via, step, cancel, tick, load, State, accepted_state}
use Rattle.model.specs.Promise.{next}
use Rattle.laws.proofs.Tables.{OnlyThreads, only-both, edit-only, below-only, act-only}
use Rattle.laws.proofs.Store.{length-zeroed, length-word-copied, step-store}
use Rattle.laws.proofs.Calls.{next-cases, begin-cases, cancel-cases, rules_after}

-- ---- what of a table is no thread
-- a table with the rules after an accepted call
abbrev pub ruled : Call → Table → Table
ruled c t = with_rules (rules_after c t.rules) t

-- an accepted call changes of a table only its threads and, if it is a loading, its rules
pub accepted-only : (c : Call) (s : State) → OnlyThreads (ruled c s.table) (accepted_state c s).table
unfolding accepted_state tick_table
accepted-only (begin_via via x o) s = let t = s.table in begin-cases x o t (OnlyThreads t)
    (λ far. edit-only x _ t)
    (λ near sends below. let queued = edit o.send.target (joined x) t in
    only-both t queued (edit x (begun o lock) queued) (edit-only o.send.target (joined x) t) (edit-only x (begun o lock) queued))
    (λ near alone. edit-only x _ t)
accepted-only (step x) s = act-only (decide s.table x) x s.table
accepted-only (cancel x) s = cancel-cases x s.table (OnlyThreads s.table) (λ runs. edit-only x marked s.table) (λ over. refl)
accepted-only tick s = below-only ticked s.table s.table.n
accepted-only (load rules) s = refl

-- no call changes the number of threads
pub next-size : (c : Call) (s : State) → (next c s).table.n ≡ s.table.n
next-size c s = next-cases c s (λ after. after.table.n ≡ s.table.n) (λ e. ap (λ (t : Table). t.n) (accepted-only c s)) refl

-- an accepted call leaves its rules
pub accepted-rules : (c : Call) (s : State) → (accepted_state c s).table.rules ≡ rules_after c s.table.rules
accepted-rules c s = ap (λ (t : Table). t.rules) (accepted-only c s)

-- so no call but a loading changes the rules
pub next-rules : (c : Call) (s : State) → rules_after c s.table.rules ≡ s.table.rules → (next c s).table.rules ≡ s.table.rules
next-rules c s same = next-cases c s (λ after. after.table.rules ≡ s.table.rules) (λ e. accepted-rules c s ∙ same) refl

-- ---- the store's length
-- that of a step
step-store-length : (a : Action) (h : Thread) (store : List ℕ) → length (store_after a h store) ≡ length store
step-store-length a h store = ⊎_elim (λ e. ap length e) (λ e. ap length e.1 ∙ length-word-copied h store) (step-store a h store)

-- that of an accepted call
accepted-store-length : (c : Call) (s : State) → length (accepted_state c s).store ≡ length s.store
unfolding accepted_state
accepted-store-length (begin_via via x o) s = length-zeroed x s.store
accepted-store-length (step x) s = step-store-length (decide s.table x) (at s.table x) s.store
accepted-store-length (cancel x) s = refl
accepted-store-length tick s = refl
accepted-store-length (load rules) s = refl

-- no call changes it
pub next-store-length : (c : Call) (s : State) → length (next c s).store ≡ length s.store
next-store-length c s = next-cases c s (λ after. length after.store ≡ length s.store) (λ e. accepted-store-length c s) refl
