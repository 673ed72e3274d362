-- The lock that a thread holds, by the number of its phase.
use Rattle.std.proofs.Common.{◌≡◌, ◌≤◌, sym, ap, arith}
use Rattle.model.specs.declared.Thread.{Thread}
use Rattle.model.specs.Codes.{nobody}
use Rattle.model.specs.Phases.{Phase, idle, lock, check, copy, release, sleep, look, wake, unlock, unknown, phase_of}
use Rattle.model.specs.Locks.{lock_held, lock_held_in}
use Rattle.model.proofs.Laws.{same?}
use Rattle.laws.proofs.Decisions.{in_number, past-last}

module _ (h : Thread) where
  -- by the phase that the thread is known to be in
  held-in : (p : Phase) → phase_of h.phase ≡ p → lock_held_in p h.op.send.target h.waking ≡ lock_held h
  unfolding lock_held
  held-in p e = sym (ap (λ (q : Phase). lock_held_in q h.op.send.target h.waking) e)

  -- from check to release it holds the target's
  pub held-target : 2 ≤ h.phase → h.phase ≤ 4 → h.op.send.target ≡ lock_held h
  held-target low high =
      same? h.phase 2 (λ e. held-in check (in_number check h.phase e)) (λ a.
      same? h.phase 3 (λ e. held-in copy (in_number copy h.phase e)) (λ b.
      held-in release (in_number release h.phase (omega arith))))

  -- in wake and unlock that of the sender being woken
  pub held-woken : 7 ≤ h.phase → h.phase ≤ 8 → h.waking ≡ lock_held h
  held-woken low high =
      same? h.phase 7 (λ e. held-in wake (in_number wake h.phase e)) (λ a.
      held-in unlock (in_number unlock h.phase (omega arith)))

  -- and no other
  pub held-none : (2 ≤ h.phase → 5 ≤ h.phase) → (7 ≤ h.phase → 9 ≤ h.phase) → nobody ≡ lock_held h
  held-none low high =
      same? h.phase 0 (λ e. held-in idle (in_number idle h.phase e)) (λ i.
      same? h.phase 1 (λ e. held-in lock (in_number lock h.phase e)) (λ j.
      same? h.phase 5 (λ e. held-in sleep (in_number sleep h.phase e)) (λ k.
      same? h.phase 6 (λ e. held-in look (in_number look h.phase e)) (λ m.
      held-in unknown (past-last h.phase i j (λ e. omega arith) (λ e. omega arith) (λ e. omega arith) k m (λ e. omega arith) (λ e. omega arith))))))
