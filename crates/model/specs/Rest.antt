-- Document 02, #111: where every thread's step stays, no lock is owned and no queued sender has a target that is ready for it. "So no wake-up is lost."
use Rattle.std.specs.Prelude.{◌≡◌, Bool, true, false, not, cond, List, map, ℕ, ◌*◌, ◌≤◌, length, replicate, ltb}
use Rattle.model.specs.declared.Table.{Table}
use Rattle.model.specs.Answers.{accepted, marked, nothing_to_cancel, moved, idle, held, wants, asleep, Said, refused, replied, SaidRest, resting, would_move}
use Rattle.model.specs.Lists.{all_of, all_below, first_below}
use Rattle.model.specs.Threads.{new_table}
use Rattle.model.specs.Queues.{senders, ready}
use Rattle.model.specs.Locks.{lock_free}
use Rattle.model.specs.WellFormed.{Shaped, each}
use Rattle.model.specs.Calls.{step, State}
use Rattle.model.specs.Refusals.{first_refusal, unless, table_rows}
use Rattle.model.specs.Promise.{answer, state}
use Rattle.model.specs.Linearization.{Observed, Trace, Always}

-- ---- what is claimed of a table and a store
-- "answers idle, asleep, held or wants"
abbrev pub stays : Said → Bool
stays (refused number) = false
stays (replied accepted) = false
stays (replied marked) = false
stays (replied nothing_to_cancel) = false
stays (replied moved) = false
stays (replied idle) = true
stays (replied held) = true
stays (replied wants) = true
stays (replied asleep) = true

-- thread x's step answers so, by the public call
unfoldable pub step_stays : State → ℕ → Bool
step_stays s x = stays (answer (step x) s)

-- "every thread's step answers idle, asleep, held or wants"
unfoldable pub at_rest : State → Bool
at_rest s = all_below s.table.n (step_stays s)

-- "no lock is owned"
unfoldable pub no_lock_owned : Table → Bool
no_lock_owned t = each t (λ r h. lock_free h)

-- "no queued sender has a target that is ready for it": its target is the thread in whose queue it stands
unfoldable pub nobody_ready : Table → Bool
nobody_ready t = each t (λ r h. all_of (map (λ s. not (ready h s)) (senders h)))

-- "if no thread is in a page wait", as there is none yet, "and every thread's step answers idle, asleep, held or wants, then no lock is owned and no queued sender has a target that is ready for it"
abbrev pub NobodyBeside : State → Type 0
NobodyBeside s = at_rest s ≡ true → (no_lock_owned s.table ≡ true) × (nobody_ready s.table ≡ true)

-- ---- the claim
-- "From a new table, after any accepted calls": of the new table, and after every call of every trace, refused ones included
abbrev pub NobodySleepsBeside : Type 0
NobodySleepsBeside =
    (n : ℕ) → 1 ≤ n → n ≤ 32 → (store : List ℕ) → length store ≡ 8 * n
    → (trace : List Observed) → Trace (state (new_table n) store) trace
    → NobodyBeside (state (new_table n) store) × Always NobodyBeside trace

-- more than is asked: of every table, whatever its history. One that is not well-formed is not at rest, since its steps are refused
abbrev pub NobodyBesideAnywhere : Type 0
NobodyBesideAnywhere = (s : State) → Shaped s.table → NobodyBeside s

-- ---- whether a table is at rest, for users
-- a table with a store of its own, so that steps can be tried; what they answer is the same with every store of 8×N words
abbrev pub tried : Table → State
tried t = state t (replicate (8 * t.n) 0)

-- the lowest thread whose step would move, or N
unfoldable pub first_to_move : Table → ℕ
first_to_move t = first_below t.n (λ x. not (step_stays (tried t) x))

-- what the call answers
unfoldable pub rest_answer : Table → SaidRest
rest_answer t = let first = first_to_move t in unless (first_refusal (table_rows t)) SaidRest.refused (cond (ltb first t.n) (would_move first) resting)
