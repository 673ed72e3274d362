-- Laws of phases: their numbers, and the lock that a thread holds by its phase.
use mathlib.Core.Path.{◌≡◌, refl, sym, ap, ◌∙◌}
use mathlib.Core.Bool.{true, or-false}
use mathlib.Core.List.{[], ◌∷◌}
use Prim.Native.Nat.{ℕ, ◌≤◌}
use native.Mathlib.Omega.{arith}
use lib.Dec.{eqb}
use borrow.Author.Tests.{eqb-true}
use Rattle.model.specs.declared.Thread.{Thread}
use Rattle.model.specs.Lists.{all_below}
use Rattle.model.specs.WellFormed.{in_phase}
use Rattle.model.specs.Phases.{is_one_of, Phase, idle, phase_of, phase_number}
use Rattle.model.specs.Locks.{lock_held_in, lock_held}
use Rattle.model.proofs.Laws.{all-below-read}

-- a number of a phase is the number of the phase that it stands for
pub phase-number : (k : ℕ) → k ≤ 8 → (p : Phase) → phase_of k ≡ p → k ≡ phase_number p
unfolding phase_of all_below
phase-number k l p e = sym (eqb-true (phase_number (phase_of k)) k (all-below-read 9 (λ k. eqb (phase_number (phase_of k)) k) refl k (omega arith))) ∙ ap phase_number e

-- the lock that a thread holds, by the phase that it is known to be in
pub lock-held_in : (h : Thread) (p : Phase) → phase_of h.phase ≡ p → lock_held h ≡ lock_held_in p h.op.send.target h.waking
unfolding lock_held
lock-held_in h p e = ap (λ (q : Phase). lock_held_in q h.op.send.target h.waking) e

-- a thread that passes the test for idle is in idle
pub in-idle : (h : Thread) → in_phase (idle ∷ []) h ≡ true → phase_of h.phase ≡ idle
unfolding in_phase is_one_of phase_of
in-idle h e = ap phase_of (eqb-true h.phase (phase_number idle) (sym (or-false (eqb h.phase (phase_number idle))) ∙ e))
