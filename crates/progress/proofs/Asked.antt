-- What is told by the answer to the question whether a table is at rest.
use mathlib.Core.Path.{◌≡◌, refl, sym, ap, ◌∙◌}
use mathlib.Core.Logic.{◌⊎◌, inl, inr, ⊎_elim}
use mathlib.Core.Bool.{true, false, not, ◌||◌, true≢false}
use mathlib.Core.Option.{Option, none, some}
use mathlib.Core.List.{List}
use Prim.Native.Nat.{ℕ, ◌*◌, ◌≤◌, ◌<◌}
use native.Mathlib.Omega.{arith}
use lib.ListN.{length, replicate, length-replicate}
use lib.Dec.{eqb, ltb}
use borrow.Author.Tests.{ltb-true, ltb-false, not-true, not-false}
use Rattle.model.specs.declared.Thread.{Thread}
use Rattle.model.specs.declared.Table.{Table}
use Rattle.model.specs.Answers.{moved, replied, SaidRest, resting, would_move}
use Rattle.model.specs.Phases.{Phase, idle, lock, check, copy, release, sleep, look, wake, unlock, unknown, phase_of}
use Rattle.model.specs.Threads.{at}
use Rattle.model.specs.Queues.{find_sender}
use Rattle.model.specs.Locks.{lock_free}
use Rattle.model.specs.WellFormed.{Shaped, well_formed}
use Rattle.model.specs.Step.{Action, stay, take_lock, retry, to_idle, abort_receive, take_sender, other, overdue, look_at, decide_in, decide, reply_of}
use Rattle.model.specs.Calls.{step, State, accepted_reply}
use Rattle.model.specs.Refusals.{first_refusal, unless, table_rows, refusal}
use Rattle.model.specs.Promise.{state, answer}
use Rattle.model.specs.Rest.{stays, step_stays, at_rest, no_lock_owned, nobody_ready, tried, first_to_move, rest_answer}
use Rattle.model.proofs.Laws.{by, all-below-made}
use Rattle.laws.proofs.Below.{first_passes, first-earlier}
use Rattle.laws.proofs.Accepted.{step-accepted}
use Rattle.laws.proofs.Calls.{accepted-answer, answers_as_tried}
use Rattle.laws.proofs.Groups.{table-formed}
use Rattle.laws.proofs.Lists.{zero_or_not}
use Rattle.progress.proofs.Still.{either, holder_moves}
use Rattle.progress.proofs.Awake.{nobody_beside_anywhere}

-- ---- a step that is not refused answers moved, or idle, asleep, held or wants
abbrev MovesOrStays : Action → Type 0
MovesOrStays a = (reply_of a ≡ moved) ⊎ (stays (replied (reply_of a)) ≡ true)

-- look, by what the search finds
looking : (h r : Thread) (o : Option ℕ) → MovesOrStays (look_at h r o)
unfolding look_at reply_of
looking h r (some s) =
    either MovesOrStays (overdue h) (abort_receive _) _ (inl refl)
    (either MovesOrStays r.flags.poll _ (stay _) (either MovesOrStays (lock_free r) (take_sender s) (stay _) (inl refl) (inr refl)) (inr refl))
looking h r none = either MovesOrStays (eqb h.left 0) (abort_receive _) (stay _) (inl refl) (inr refl)

-- by its phase
in_each-phase : (p : Phase) (x : ℕ) (h r : Thread) → MovesOrStays (decide_in p x h r)
unfolding decide_in reply_of
in_each-phase idle x h r = inr refl
in_each-phase lock x h r = either MovesOrStays (lock_free r) take_lock (stay _) (inl refl) (inr refl)
in_each-phase check x h r = inl (holder_moves check 0 0 (λ e. omega arith) x h r)
in_each-phase copy x h r = inl (holder_moves copy 0 0 (λ e. omega arith) x h r)
in_each-phase release x h r = inl (holder_moves release 0 0 (λ e. omega arith) x h r)
in_each-phase sleep x h r = either MovesOrStays (not h.flags.poll || h.flags.mark || eqb h.left 0) retry (stay _) (inl refl) (inr refl)
in_each-phase look x h r =
    either MovesOrStays h.flags.ipc _ to_idle (either MovesOrStays h.flags.mark (abort_receive _) _ (inl refl) (looking h r (find_sender h))) (inl refl)
in_each-phase wake x h r = inl refl
in_each-phase unlock x h r = inl refl
in_each-phase unknown x h r = inr refl

-- what a step settles on
settles : (t : Table) (x : ℕ) → MovesOrStays (decide t x)
unfolding decide reply_of
settles t x =
    either MovesOrStays (lock_free (at t x)) (decide_in (phase_of (at t x).phase) x (at t x) (at t (other (at t x)))) (stay _)
    (in_each-phase (phase_of (at t x).phase) x (at t x) _) (inr refl)

-- so one that does not stay moves
pub moves : (s : State) (x : ℕ) → refusal (step x) s ≡ 0 → step_stays s x ≡ false → answer (step x) s ≡ replied moved
unfolding step_stays accepted_reply
moves s x accepted e =
    let answers : answer (step x) s ≡ replied (reply_of (decide s.table x)) = accepted-answer (step x) s accepted in
    ⊎_elim (λ m. answers ∙ ap replied m) (λ i. absurd (true≢false (sym i ∙ sym (ap stays answers) ∙ e))) (settles s.table x)

-- ---- the answer
module _ (t : Table) where
  -- it is a refusal, or goes by the lowest thread whose step would not stay
  asked : (P : SaidRest → Type 0) → ((g : ℕ) → P (SaidRest.refused g)) → (well_formed t ≡ true → first_to_move t < t.n → P (would_move (first_to_move t))) → (t.n ≤ first_to_move t → P resting) → P (rest_answer t)
  unfolding rest_answer unless
  asked P refusing moving remaining = zero_or_not (first_refusal (table_rows t))
      (λ z. rw z (by (ltb (first_to_move t) t.n)
      (λ e. rw e (moving (table-formed t _ refl z) (ltb-true (first_to_move t) t.n e)))
      (λ e. rw e (remaining (ltb-false (first_to_move t) t.n e)))))
      (λ g is. rw is (refusing _))

  -- with every store of eight words for each thread
  module _ (store : List ℕ) (fit : length store ≡ 8 * t.n) where
    -- a step stays as it does when it is tried
    same-stays : (x : ℕ) → step_stays (state t store) x ≡ step_stays (tried t) x
    unfolding step_stays
    same-stays x = ap stays (answers_as_tried t x store fit)

    -- one below the first that would move stays
    earlier-stays : (x : ℕ) → x < t.n → x < first_to_move t → step_stays (state t store) x ≡ true
    unfolding first_to_move
    earlier-stays x xn low = same-stays x ∙ not-false (step_stays (tried t) x) (first-earlier t.n (λ x. not (step_stays (tried t) x)) x xn low)

    -- that one moves
    first-moves : well_formed t ≡ true → first_to_move t < t.n → answer (step (first_to_move t)) (state t store) ≡ replied moved
    unfolding first_to_move
    first-moves formed low =
        moves (state t store) (first_to_move t) (step-accepted (state t store) formed (first_to_move t) low fit)
        (same-stays (first_to_move t) ∙ not-true (step_stays (tried t) (first_to_move t)) (first_passes t.n (λ x. not (step_stays (tried t) x)) low))

    -- where the answer is "at rest", the table is
    pub resting-means : rest_answer t ≡ resting → at_rest (state t store) ≡ true
    unfolding at_rest
    resting-means = asked (λ a. a ≡ resting → at_rest (state t store) ≡ true)
        (λ g e. let z : ◌≡◌ {A = ℕ} 0 1 = cc in absurd (omega arith))
        (λ formed low e. let z : ◌≡◌ {A = ℕ} 0 1 = cc in absurd (omega arith))
        (λ high e. all-below-made t.n (step_stays (state t store)) (λ x xn. earlier-stays x xn (omega arith)))

    -- a thread's step moves, and that of each lower one stays
    pub record LowestToMove (x : ℕ) : Type 0 where
      pub below : x < t.n
      pub moved : answer (step x) (state t store) ≡ replied moved
      pub lower : (y : ℕ) → y < x → step_stays (state t store) y ≡ true

    -- where the answer is a thread, it is so of that thread
    pub would_move-means : (x : ℕ) → rest_answer t ≡ would_move x → LowestToMove x
    would_move-means x = asked (λ a. a ≡ would_move x → LowestToMove x)
        (λ g e. let z : ◌≡◌ {A = ℕ} 0 1 = cc in absurd (omega arith))
        (λ formed low e. let is : first_to_move t ≡ x = cc in
        record { below = rw is at low; moved = rw is at (first-moves formed low); lower = λ y l. earlier-stays y (omega arith) (omega arith) })
        (λ high e. let z : ◌≡◌ {A = ℕ} 0 1 = cc in absurd (omega arith))

-- so where the answer is "at rest", nobody sleeps beside a partner
pub resting_awake : (t : Table) → Shaped t → rest_answer t ≡ resting → (no_lock_owned t ≡ true) × (nobody_ready t ≡ true)
resting_awake t z e = nobody_beside_anywhere (tried t) z (resting-means t (replicate (8 * t.n) 0) (length-replicate (8 * t.n) 0) e)
