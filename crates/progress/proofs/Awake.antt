-- Request #111: where every thread's step stays, nobody sleeps beside a partner. It holds of every table, whatever its history, and so after every call of every trace.
use mathlib.Core.Path.{◌≡◌, sym, ap, ◌∙◌}
use mathlib.Core.Logic.{◌↔◌}
use mathlib.Core.Bool.{true, false, not, true≢false}
use mathlib.Core.List.{List, [], ◌∷◌}
use Prim.Native.Nat.{ℕ, ◌≤◌, ◌<◌}
use borrow.Author.Tests.{eqb-true, eq-eqb, not-true}
use Rattle.model.specs.declared.Table.{Table}
use Rattle.model.specs.Answers.{replied}
use Rattle.model.specs.Lists.{occurs}
use Rattle.model.specs.Codes.{nobody}
use Rattle.model.specs.Threads.{new_table, at}
use Rattle.model.specs.Queues.{senders, ready}
use Rattle.model.specs.Locks.{lock_free}
use Rattle.model.specs.WellFormed.{each}
use Rattle.model.specs.Step.{decide, reply_of}
use Rattle.model.specs.Calls.{step, State, accepted_reply}
use Rattle.model.specs.Refusals.{refusal}
use Rattle.model.specs.Promise.{state}
use Rattle.model.specs.Linearization.{Observed, Always}
use Rattle.model.specs.Rest.{stays, step_stays, at_rest, no_lock_owned, nobody_ready, NobodyBeside, NobodySleepsBeside, NobodyBesideAnywhere}
use Rattle.model.proofs.Laws.{all-below-read, all-below-made}
use Rattle.model.proofs.Tested.{well_formed-told}
use Rattle.laws.proofs.Lists.{all_in_made, all_in_read}
use Rattle.laws.proofs.Calls.{accepted?, accepted-answer, refused-answer}
use Rattle.laws.proofs.Refusals.{accepted-table}
use Rattle.formed.proofs.Formed.{Formed, formed_grouped}
use Rattle.invariant.proofs.Traces.{Lasting, new-lasting, trace_lasting}
use Rattle.progress.proofs.Still.{unowned, unready}

-- ---- what the tests say
module _ (t : Table) where
  -- "no lock is owned"
  pub unowned-means : (no_lock_owned t ≡ true) ↔ ((r : ℕ) → r < t.n → (at t r).owner ≡ nobody)
  unfolding no_lock_owned each lock_free
  unowned-means = (λ e r rn. eqb-true (at t r).owner nobody (all-below-read t.n _ e r rn), λ free. all-below-made t.n _ (λ r rn. eq-eqb (at t r).owner nobody (free r rn)))

  -- "no queued sender has a target that is ready for it"
  pub unready-means : (nobody_ready t ≡ true) ↔ ((r s : ℕ) → r < t.n → 1 ≤ occurs s (senders (at t r)) → ready (at t r) s ≡ false)
  unfolding nobody_ready each
  unready-means = (
    λ e r s rn queued. not-true (ready (at t r) s) (all_in_read (λ s. not (ready (at t r) s)) (senders (at t r)) (all-below-read t.n _ e r rn) s queued),
    λ none. all-below-made t.n _ (λ r rn. all_in_made (λ s. not (ready (at t r) s)) (senders (at t r)) (λ s queued. ap not (none r s rn queued))),
  )

-- ---- a step that stays
module _ (s : State) (x : ℕ) (e : step_stays s x ≡ true) where
  -- was not refused
  pub stays-accepted : refusal (step x) s ≡ 0
  unfolding step_stays
  stays-accepted = accepted? (step x) s (λ i. i) (λ g i. absurd (true≢false (sym e ∙ ap stays (refused-answer (step x) s g i))))

  -- and settled on what stays
  stays-decided : stays (replied (reply_of (decide s.table x))) ≡ true
  unfolding step_stays accepted_reply
  stays-decided = sym (ap stays (accepted-answer (step x) s stays-accepted)) ∙ e

-- ---- the theorems
-- of every table, whatever its history
pub nobody_beside_anywhere : NobodyBesideAnywhere
unfolding at_rest
nobody_beside_anywhere s z rest = (
  (unowned-means s.table).1 (λ r rn. unowned s.table (formed r rn) quiet r rn),
  (unready-means s.table).1 (λ r x rn queued. unready s.table (formed r rn) quiet r x rn queued),
)
  where
    stay : (x : ℕ) → x < s.table.n → step_stays s x ≡ true
    stay = all-below-read s.table.n (step_stays s) rest

    quiet : (x : ℕ) → x < s.table.n → stays (replied (reply_of (decide s.table x))) ≡ true
    quiet x xn = stays-decided s x (stay x xn)

    -- a thread whose step is not refused shows that the table is well-formed
    formed : (x : ℕ) → x < s.table.n → Formed s.table.n (at s.table)
    formed x xn = formed_grouped s.table (well_formed-told s.table (accepted-table (step x) s (stays-accepted s x (stay x xn)))) z

-- so of each state that lasts
throughout : (n : ℕ) (trace : List Observed) → Always (Lasting n) trace → Always NobodyBeside trace
throughout n [] k = tt
throughout n (c ∷ cs) (k, rest) = (nobody_beside_anywhere c.after k.shaped, throughout n cs rest)

-- "From a new table, after any accepted calls"
pub nobody_sleeps_beside : NobodySleepsBeside
nobody_sleeps_beside n one few store fit trace calls = (
  nobody_beside_anywhere (state (new_table n) store) (new-lasting n one few store fit).shaped,
  throughout n trace (trace_lasting n one few store fit trace calls),
)
