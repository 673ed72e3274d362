-- A step keeps the threads well-formed, whatever it does.
use mathlib.Core.Path.{◌≡◌, refl, sym, ◌∙◌, subst}
use mathlib.Core.Logic.{◌⊎◌, inl, inr, ⊎_elim}
use Prim.Native.Nat.{ℕ, ◌<◌}
use native.Mathlib.Omega.{arith}
use lib.ListN.{length}
use lib.IntN.{ℤ}
use Rattle.model.specs.declared.Thread.{Thread}
use Rattle.model.specs.declared.Table.{Table}
use Rattle.model.specs.Answers.{Reply, held}
use Rattle.model.specs.Lists.{update}
use Rattle.model.specs.Codes.{nobody, receive_time_over, send_time_over, receive_cancelled, send_cancelled}
use Rattle.model.specs.Phases.{Phase, check, look, release, phase_of}
use Rattle.model.specs.Threads.{at}
use Rattle.model.specs.WellFormed.{is_code}
use Rattle.model.specs.Step.{Action, stay, take_lock, abort_send, start_copy, to_release, copy_word, finish_call, finish_send, free_target, retry, to_idle, abort_receive, take_sender, clear_poll, free_sender, other, decide, own_after, other_after, act}
use Rattle.laws.proofs.Lists.{update-own}
use Rattle.laws.proofs.Tables.{act-at}
use Rattle.laws.proofs.Search.{found-queued}
use Rattle.laws.proofs.Decided.{TestedFor, AbortsSend, AbortsReceive, GoesOn, sending, receiving, ended, decided, own-lock-free, lock-free-read, other_of, other-is, after_action}
use Rattle.formed.proofs.Formed.{Formed}
use Rattle.formed.proofs.Neighbours.{target-in_lock, target-in_check, target-in_copy, target-in_release, woken_in_wake, woken_in_unlock}
use Rattle.invariant.proofs.Locking.{queued-other, take-lock_keeps, take-sender_keeps, release-to-sleep_keeps, release-to-look_keeps, release-to-idle_keeps, free-sender_keeps}
use Rattle.invariant.proofs.Moves.{start-copy_keeps, to-release_keeps, copy-word_keeps, retry_keeps, to-idle_keeps, clear_poll_keeps}
use Rattle.invariant.proofs.Endings.{abort_send_keeps, abort_receive_keeps, finish_call_keeps, finish_send_keeps}

module _ (t : Table) (F : Formed t.n (at t)) (x : ℕ) (xn : x < t.n) where
  -- the other thread of an action is in the table, or the action leaves it as it was
  pub other-in-table : (a : Action) → TestedFor t x a → (other_of a (at t x) < t.n) ⊎ (other_after a x (at t x) (at t (other_of a (at t x))) ≡ at t (other_of a (at t x)))
  unfolding other_after
  other-in-table (stay a) f = inr refl
  other-in-table take_lock f = inl (target-in_lock F x xn f.0).below
  other-in-table (abort_send c) f = inl (target-in_check F x xn f.0).below
  other-in-table start_copy f = inr refl
  other-in-table to_release f = inr refl
  other-in-table copy_word f = inr refl
  other-in-table finish_call f = inl (target-in_copy F x xn f.0).below
  other-in-table finish_send f = inl (target-in_copy F x xn f.0).below
  other-in-table (free_target p) f = inl (target-in_release F x xn f.0).below
  other-in-table retry f = inr refl
  other-in-table to_idle f = inr refl
  other-in-table (abort_receive c) f = inr refl
  other-in-table (take_sender s) f = inl (queued-other F x xn s f.0 (found-queued (at t x) s f.1.finds)).below
  other-in-table clear_poll f = inl (woken_in_wake F x xn f).below
  other-in-table free_sender f = inl (woken_in_unlock F x xn f).below

  -- the threads after an action that was decided
  pub act_changes : length t.threads ≡ 32 → (a : Action) → TestedFor t x a → at (act a x t) ≡ after_action a (at t) x
  act_changes whole a f =
      let few = F.few in
      ⊎_elim
      (λ told.
      subst (λ (r : ℕ). at (act a x t) ≡ after r) told
      (act-at a x t (omega arith)
      (subst (λ (r : ℕ). (r < length t.threads) ⊎ (other_after a x (at t x) (at t r) ≡ at t r)) (sym told)
      (⊎_elim (λ l. inl (omega arith)) inr (other-in-table a f)))))
      (λ kept. act-at a x t (omega arith) (inr (kept (at t (other (at t x))))) ∙ alone kept (other (at t x)) ∙ sym (alone kept (other_of a (at t x))))
      (other-is t x a f)
    where
      -- the threads after the action, with r for the other thread
      after : ℕ → ℕ → Thread
      after r = update (update (at t) r (other_after a x (at t x) (at t r))) x (own_after a (at t x))

      -- where no other thread is changed, they are the same whichever r is
      alone : ((r : Thread) → other_after a x (at t x) r ≡ r) → (r : ℕ) → after r ≡ update (at t) x (own_after a (at t x))
      alone kept r = rw (kept (at t r), update-own (at t) r) refl

  -- a step that stays changes nothing
  stay_keeps : (a : Reply) → Formed t.n (after_action (stay a) (at t) x)
  unfolding own_after other_after
  stay_keeps a = rw (update-own (at t) nobody, update-own (at t) x) F

  module _ (unowned : (at t x).owner ≡ nobody) where
    -- check: each reason to abort a send
    aborts-send : (c : ℤ) → AbortsSend t x c → phase_of (at t x).phase ≡ check → Formed t.n (after_action (abort_send c) (at t) x)
    unfolding is_code
    aborts-send c (AbortsSend.cancelled e) p = abort_send_keeps F x xn send_cancelled refl refl p
    aborts-send c (AbortsSend.late e f g) p = abort_send_keeps F x xn send_time_over refl refl p

    -- look: each reason to abort a receive
    aborts-receive : (c : ℤ) → AbortsReceive t x c → phase_of (at t x).phase ≡ look → Formed t.n (after_action (abort_receive c) (at t) x)
    unfolding is_code
    aborts-receive c (AbortsReceive.cancelled e) p = abort_receive_keeps F x xn receive_cancelled refl refl p unowned
    aborts-receive c (AbortsReceive.late e f g) p = abort_receive_keeps F x xn receive_time_over refl refl p unowned

    -- release: each phase to go on to
    goes_on : (q : Phase) → GoesOn t x q → phase_of (at t x).phase ≡ release → Formed t.n (after_action (free_target q) (at t) x)
    goes_on q (sending e) p = release-to-sleep_keeps F x xn p e
    goes_on q (receiving e f) p = release-to-look_keeps F x xn p e
    goes_on q (ended e f) p = release-to-idle_keeps F x xn p f

    -- every action that was decided keeps the threads well-formed
    action_keeps : (a : Action) → TestedFor t x a → Formed t.n (after_action a (at t) x)
    action_keeps (stay a) f = stay_keeps a
    action_keeps take_lock f = take-lock_keeps F x xn f.0 unowned f.1
    action_keeps (abort_send c) f = aborts-send c f.1 f.0
    action_keeps start_copy f = start-copy_keeps F x xn f.0 f.2
    action_keeps to_release f = to-release_keeps F x xn f.0
    action_keeps copy_word f = copy-word_keeps F x xn f.0 f.1
    action_keeps finish_call f = finish_call_keeps F x xn f.0 unowned f.2
    action_keeps finish_send f = finish_send_keeps F x xn f.0 unowned
    action_keeps (free_target q) f = goes_on q f.1 f.0
    action_keeps retry f = retry_keeps F x xn f.0
    action_keeps to_idle f = to-idle_keeps F x xn f.0 f.1
    action_keeps (abort_receive c) f = aborts-receive c f.2 f.0
    action_keeps (take_sender s) f = take-sender_keeps F x xn s f.0 unowned (found-queued (at t x) s f.1.finds) f.1.free
    action_keeps clear_poll f = clear_poll_keeps F x xn f
    action_keeps free_sender f = free-sender_keeps F x xn f

  -- a step keeps the threads well-formed
  pub step_keeps : length t.threads ≡ 32 → Formed t.n (at (act (decide t x) x t))
  step_keeps whole = subst (Formed t.n) (sym (act_changes whole (decide t x) (decided t x)))
      (⊎_elim
      (λ e. subst (λ (a : Action). Formed t.n (after_action a (at t) x)) (sym e) (stay_keeps held))
      (λ free. action_keeps (lock-free-read (at t x) free) (decide t x) (decided t x))
      (own-lock-free t x))
