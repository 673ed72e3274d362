-- A step is a rendezvous exactly where its lock is free and its copy has no word left.
use mathlib.Core.Path.{◌≡◌, refl, sym, ap, ◌∙◌, subst}
use mathlib.Core.Bool.{Bool, true, false, ◌&&◌, false≢true}
use mathlib.Core.Logic.{⊎_elim}
use Prim.Native.Nat.{ℕ, ◌≤◌}
use native.Mathlib.Omega.{arith}
use lib.Dec.{eqb, leb, ltb}
use lib.ListN.{get_or-eq_default}
use borrow.Author.Tests.{eq-eqb, eqb-true, le-leb, leb-true, le-ltb, ltb-true, ltb-false}
use Rattle.model.specs.declared.Table.{Table}
use Rattle.model.specs.declared.Thread.{Thread}
use Rattle.model.specs.Codes.{nobody}
use Rattle.model.specs.Operations.{has_receive}
use Rattle.model.specs.Phases.{Phase, idle, lock, check, copy, release, sleep, look, wake, unlock, unknown, phase_of, phases}
use Rattle.model.specs.Threads.{at}
use Rattle.model.specs.Locks.{lock_free}
use Rattle.model.specs.Step.{Action, stay, take_lock, abort_send, start_copy, to_release, copy_word, finish_call, finish_send, free_target, retry, to_idle, abort_receive, take_sender, clear_poll, free_sender, decide_in, decide}
use Rattle.model.specs.Linearized.{event_of}
use Rattle.model.proofs.Laws.{by, and_left, and_right, and-made}
use Rattle.laws.proofs.Tests.{same_test}
use Rattle.laws.proofs.Phases.{phase-number}
use Rattle.laws.proofs.Decided.{In, TestedFor, decided, own-lock-free}
use Rattle.recording.specs.Rendezvous.{is_rendezvous, TellsRendezvous}

-- the number of copy
copy-number : (k : ℕ) → phase_of k ≡ copy → k ≡ 3
unfolding phase_of
copy-number k e = by (ltb k 9)
    (λ l. phase-number k (omega (arith, ltb-true k 9 l)) copy e)
    (λ l. absurd (false≢true (ap is_copy (sym (get_or-eq_default phases unknown (ltb-false k 9 l)) ∙ e))))
  where
    is_copy : Phase → Bool
    is_copy idle = false
    is_copy lock = false
    is_copy check = false
    is_copy copy = true
    is_copy release = false
    is_copy sleep = false
    is_copy look = false
    is_copy wake = false
    is_copy unlock = false
    is_copy unknown = false

module _ (t : Table) (x : ℕ) where
  -- the step is a rendezvous
  abbrev rendezvous_by : Action → Bool
  rendezvous_by a = is_rendezvous (event_of a x (at t x))

  -- the actions that are one have found no word left
  none_left : (a : Action) → TestedFor t x a → rendezvous_by a ≡ true → In t x copy × ((at t x).op.send.count ≤ (at t x).copied)
  unfolding event_of
  none_left (stay b) tested e = absurd (false≢true e)
  none_left take_lock tested e = absurd (false≢true e)
  none_left (abort_send c) tested e = absurd (false≢true e)
  none_left start_copy tested e = absurd (false≢true e)
  none_left to_release tested e = absurd (false≢true e)
  none_left copy_word tested e = absurd (false≢true e)
  none_left finish_call (in-copy, all, receives) e = (in-copy, all)
  none_left finish_send (in-copy, all, receives) e = (in-copy, all)
  none_left (free_target p) tested e = absurd (false≢true e)
  none_left retry tested e = absurd (false≢true e)
  none_left to_idle tested e = absurd (false≢true e)
  none_left (abort_receive c) tested e = absurd (false≢true e)
  none_left (take_sender s) tested e = absurd (false≢true e)
  none_left clear_poll tested e = absurd (false≢true e)
  none_left free_sender tested e = absurd (false≢true e)

  -- and their lock is free
  lock-free : rendezvous_by (decide t x) ≡ true → lock_free (at t x) ≡ true
  unfolding event_of
  lock-free e = ⊎_elim (λ held. absurd (false≢true (sym (ap rendezvous_by held) ∙ e))) (λ free. free) (own-lock-free t x)

  -- where the lock is free and no word is left, the step is one
  copied : lock_free (at t x) ≡ true → (at t x).phase ≡ 3 → (at t x).op.send.count ≤ (at t x).copied → rendezvous_by (decide t x) ≡ true
  unfolding decide decide_in phase_of event_of
  copied free three all = rw (free, three, le-ltb (at t x).copied (at t x).op.send.count all) (by (has_receive (at t x).op.receive) (λ e. rw e refl) (λ e. rw e refl))

  -- so the tests tell
  tells : (eqb (at t x).owner nobody && eqb (at t x).phase 3 && leb (at t x).op.send.count (at t x).copied) ≡ rendezvous_by (decide t x)
  unfolding lock_free
  tells =
      let free = eqb (at t x).owner nobody in
      let three = eqb (at t x).phase 3 in
      same_test _ _
      (λ e. let both = and_left (free && three) _ e in copied (and_left free _ both) (eqb-true _ _ (and_right free _ both)) (leb-true _ _ (and_right (free && three) _ e)))
      (λ e. let (in-copy, all) = none_left (decide t x) (decided t x) e in and-made _ _ (and-made _ _ (lock-free e) (eq-eqb _ _ (copy-number _ in-copy))) (le-leb _ _ all))

-- of a thread that is thread x
pub tells-own : (own : Thread) → TellsRendezvous own (eqb own.owner nobody && eqb own.phase 3 && leb own.op.send.count own.copied)
tells-own own t x is = subst (λ (h : Thread). (eqb h.owner nobody && eqb h.phase 3 && leb h.op.send.count h.copied) ≡ is_rendezvous (event_of (decide t x) x h)) is (tells t x)
