-- What well-formed threads tell of one another: who holds a lock, who copies to whom, who waits in a queue.
use mathlib.Core.Path.{◌≡◌, refl, sym, ap, ◌∙◌}
use mathlib.Core.Logic.{◌≢◌}
use mathlib.Core.Bool.{not, true, false, cond, ◌&&◌, Bool}
use mathlib.Core.List.{[], ◌∷◌}
use Prim.Native.Nat.{ℕ, ◌+◌, ◌≤◌, ◌<◌}
use native.Mathlib.Omega.{arith}
use lib.Dec.{eqb, ltb}
use borrow.Author.Tests.{not-true, eq-eqb, ne_eqb, ltb-true, lt-ltb, le-ltb}
use Rattle.formed.proofs.Copies.{Copies, copies-elsewhere}
use Rattle.model.specs.declared.Thread.{Thread}
use Rattle.model.specs.Lists.{bit, occurs, implies, update}
use Rattle.model.specs.Codes.{nobody}
use Rattle.model.specs.Operations.{has_receive}
use Rattle.model.specs.Phases.{idle, look, Phase, lock, check, copy, release, wake, unlock, phase_of, phase_number, is_one_of}
use Rattle.model.specs.Queues.{senders, ready}
use Rattle.model.specs.Locks.{lock_held_in}
use Rattle.model.specs.WellFormed.{sends_to}
use Rattle.model.proofs.Laws.{by, same?, and_left, and_right, few-enough}
use Rattle.laws.proofs.Lists.{bit-small}
use Rattle.laws.proofs.Phases.{phase-number, lock-held_in}
use Rattle.laws.proofs.Queues.{sends-to, sends-nowhere, senders-length}
use Rattle.formed.proofs.Flags.{cases, Implied, told, phase-small, FlagTest, told_if}
use Rattle.formed.proofs.Facts.{Other, target-other, queue-small, target_below, woken_below}
use Rattle.formed.proofs.Locks.{not-own-owner}
use Rattle.formed.specs.Groups.{copies_to}
use Rattle.formed.proofs.Formed.{Formed, of}

module _ {n : ℕ} {T : ℕ → Thread} (F : Formed n T) where
  -- 255 is no thread of the table
  pub below-nobody : n ≤ nobody
  below-nobody = let l = F.few in omega arith

  -- ---- a thread in a phase that is known
  module _ (x : ℕ) (xn : x < n) (p : Phase) (e : phase_of (T x).phase ≡ p) where
    -- the number of its phase
    pub number : (T x).phase ≡ phase_number p
    number = phase-number (T x).phase (phase-small (T x) (F.own x xn).flags) p e

    -- to whom it copies
    pub copies-in : copies_to (T x) ≡ cond (is_one_of (copy ∷ []) (phase_number p)) (T x).op.send.target nobody
    unfolding copies_to
    copies-in = ap (λ (k : ℕ). cond (is_one_of (copy ∷ []) k) (T x).op.send.target nobody) number

    -- the lock of another thread of the table that it holds
    pub holds_other : lock_held_in p (T x).op.send.target (T x).waking < n → Other n x (lock_held_in p (T x).op.send.target (T x).waking)
    holds_other below = record {
      below = below;
      apart = λ i. not-own-owner n below-nobody (λ r. (T r).owner) F.chains x xn ((F.owners x x xn xn).1 (lock-held_in (T x) p e ∙ i));
    }

  module _ (x : ℕ) (xn : x < n) where
    -- of x, which is in phase p, a test follows from its flags
    pub in-phase : (p : Phase) → phase_of (T x).phase ≡ p → (f : FlagTest) → Implied (phase_number p) f → f (T x).flags (has_receive (T x).op.receive) (T x).op.send.present ≡ true
    in-phase p e f t = told (T x) (F.own x xn).flags (phase_number p) (number x xn p e) f t

    -- and where g holds of them too
    pub in_phase_if : (p : Phase) → phase_of (T x).phase ≡ p → (g f : FlagTest) → Implied (phase_number p) (λ v r s. implies (g v r s) (f v r s))
        → g (T x).flags (has_receive (T x).op.receive) (T x).op.send.present ≡ true → f (T x).flags (has_receive (T x).op.receive) (T x).op.send.present ≡ true
    in_phase_if p e g f t k = told_if (T x) (F.own x xn).flags (phase_number p) (number x xn p e) g f t k

    -- a thread in lock sends
    pub sends-in_lock : phase_of (T x).phase ≡ lock → (T x).flags.send ≡ true
    unfolding cases
    sends-in_lock e = in-phase lock e (λ v r s. v.send) refl

    -- a thread in check sends
    pub sends-in_check : phase_of (T x).phase ≡ check → (T x).flags.send ≡ true
    unfolding cases
    sends-in_check e = in-phase check e (λ v r s. v.send) refl

    -- a thread in copy sends
    pub sends-in_copy : phase_of (T x).phase ≡ copy → (T x).flags.send ≡ true
    unfolding cases
    sends-in_copy e = in-phase copy e (λ v r s. v.send) refl

    -- a thread in look does not send
    pub quiet-in_look : phase_of (T x).phase ≡ look → (T x).flags.send ≡ false
    unfolding cases
    quiet-in_look e = not-true _ (in-phase look e (λ v r s. not v.send) refl)

    -- a thread in idle does not send
    pub quiet-in_idle : phase_of (T x).phase ≡ idle → (T x).flags.send ≡ false
    unfolding cases
    quiet-in_idle e = not-true _ (in-phase idle e (λ v r s. not v.send) refl)

    -- the target of a thread in lock is another thread of the table
    pub target-in_lock : phase_of (T x).phase ≡ lock → Other n x (T x).op.send.target
    target-in_lock e = target-other (F.own x xn) (sends-in_lock e)

    -- the target of a thread in check is another thread of the table
    pub target-in_check : phase_of (T x).phase ≡ check → Other n x (T x).op.send.target
    target-in_check e = target-other (F.own x xn) (sends-in_check e)

    -- the target of a thread in copy is another thread of the table
    pub target-in_copy : phase_of (T x).phase ≡ copy → Other n x (T x).op.send.target
    target-in_copy e = target-other (F.own x xn) (sends-in_copy e)

    -- the target of a thread in release, whose lock it holds, is another thread of the table
    pub target-in_release : phase_of (T x).phase ≡ release → Other n x (T x).op.send.target
    unfolding is_one_of
    target-in_release e = holds_other x xn release e (target_below (F.own x xn) (rw (number x xn release e) refl))

    -- the sender that is woken in wake is another thread of the table
    pub woken_in_wake : phase_of (T x).phase ≡ wake → Other n x (T x).waking
    unfolding is_one_of
    woken_in_wake e = holds_other x xn wake e (woken_below (F.own x xn) (rw (number x xn wake e) refl))

    -- the sender that is woken in unlock is another thread of the table
    pub woken_in_unlock : phase_of (T x).phase ≡ unlock → Other n x (T x).waking
    unfolding is_one_of
    woken_in_unlock e = holds_other x xn unlock e (woken_below (F.own x xn) (rw (number x xn unlock e) refl))

  -- ---- copies
  -- a thread that copies is in copy
  copies-phase : (y : ℕ) → copies_to (T y) ≢ nobody → (T y).phase ≡ phase_number copy
  unfolding copies_to is_one_of
  copies-phase y d = by (is_one_of (copy ∷ []) (T y).phase)
      (λ e. same? (T y).phase 3 (λ i. i) (λ k. absurd (d (rw (ne_eqb (T y).phase 3 k) refl))))
      (λ e. absurd (d (rw e refl)))

  -- who copies to r owns its lock
  pub copier : (r y : ℕ) → r < n → y < n → copies_to (T y) ≡ r → (T r).owner ≡ y
  unfolding copies_to phase_of is_one_of
  copier r y rn yn e =
      let l = below-nobody in
      let k : (T y).phase ≡ phase_number copy = copies-phase y (λ i. let z : r ≡ nobody = sym e ∙ i in omega arith) in
      (F.owners r y rn yn).1 (lock-held_in (T y) copy (ap phase_of k) ∙ sym (copies-in y yn copy (ap phase_of k)) ∙ e)

  -- to a thread whose lock is free nobody copies
  pub no-copier : (r : ℕ) → r < n → (T r).owner ≡ nobody → (y : ℕ) → y < n → copies_to (T y) ≢ r
  no-copier r rn free y yn e = let z : nobody ≡ y = sym free ∙ copier r y rn yn e in let l = below-nobody in omega arith

  -- so a thread whose lock is free may be ready or not
  pub copies-unowned : (r : ℕ) → r < n → (T r).owner ≡ nobody → (now : ℕ → Bool) → Copies n (of copies_to T) (update (of ready T) r now)
  copies-unowned r rn free now = copies-elsewhere n (of copies_to T) (of ready T) r now (no-copier r rn free) F.copies

  -- ---- queues
  -- who stands in x's queue sends to x
  pub queued-sends : (x s : ℕ) → x < n → 1 ≤ occurs s (senders (T x)) → (s < n) × (sends_to (T s) x ≡ true)
  queued-sends x s xn there =
      by (ltb s n && sends_to (T s) x)
      (λ e. (ltb-true s n (and_left (ltb s n) (sends_to (T s) x) e), and_right (ltb s n) (sends_to (T s) x) e))
      (λ e. let z : occurs s (senders (T x)) ≡ bit false = F.queues x xn s ∙ ap bit e in absurd (omega arith))

  -- and who sends to x stands there once
  pub sends-queued : (x s : ℕ) → x < n → s < n → sends_to (T s) x ≡ true → occurs s (senders (T x)) ≡ 1
  sends-queued x s xn sn e = F.queues x xn s ∙ rw (lt-ltb s n sn, e) refl

  -- a thread that sends stands in its target's queue
  pub queued-at-target : (x : ℕ) → x < n → (T x).flags.send ≡ true → 1 ≤ occurs x (senders (T (T x).op.send.target))
  queued-at-target x xn e =
      let once = sends-queued (T x).op.send.target x (target-other (F.own x xn) e).below xn (sends-to (T x) e (T x).op.send.target ∙ eq-eqb (T x).op.send.target (T x).op.send.target refl) in
      omega arith

  -- a queue has room for a thread that does not send
  pub queue-room : (x r : ℕ) → x < n → r < n → (T x).flags.send ≡ false → (T r).queue.len < 32
  unfolding occurs
  queue-room x r xn rn quiet =
      let fits = few-enough n (x ∷ senders (T r)) once out in
      omega (arith, senders-length (T r) (F.own r rn).items (queue-small (F.own r rn)), F.few)
    where
      absent : occurs x (senders (T r)) ≡ 0
      absent = F.queues r rn x ∙ rw (lt-ltb x n xn, sends-nowhere (T x) quiet r) refl

      once : (s : ℕ) → bit (eqb x s) + occurs s (senders (T r)) ≤ 1
      once s = same? s x
          (λ e. rw (e, absent) (omega (arith, bit-small (eqb x x))))
          (λ d. rw (ne_eqb x s (λ i. d (sym i)), F.queues r rn s) (omega (arith, bit-small (ltb s n && sends_to (T s) r))))

      out : (s : ℕ) → n ≤ s → bit (eqb x s) + occurs s (senders (T r)) ≡ 0
      out s l = rw (ne_eqb x s (omega arith), F.queues r rn s, le-ltb s n l) refl
