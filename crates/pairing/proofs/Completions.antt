-- A send part is completed by its rendezvous and by nothing else; likewise a receive part.
use mathlib.Core.Path.{◌≡◌, refl, sym, ap, ◌∙◌, subst}
use mathlib.Core.Bool.{false}
use mathlib.Core.Option.{some}
use mathlib.Core.List.{[]}
use Prim.Native.Nat.{ℕ, ◌+◌}
use native.Mathlib.Omega.{arith}
use lib.IntN.{ℤ}
use Rattle.model.specs.declared.Operation.{Operation}
use Rattle.model.specs.Lists.{bit}
use Rattle.model.specs.Codes.{code_only}
use Rattle.model.specs.Operations.{target_beyond, has_receive}
use Rattle.model.specs.Atomic.{runs, AtomicThread, Machine, ending, beginning, CanAbort, cancelled_sending, late_sending, cancelled_receiving, late_receiving}
use Rattle.model.specs.Linearization.{Entry}
use Rattle.model.proofs.Laws.{by}
use Rattle.laws.proofs.Acceptable.{accepts-there}
use Rattle.pairing.proofs.Sides.{Side, sender, receiver, takes_part, completed}
use Rattle.pairing.proofs.Effects.{Effect, kept, aborted, turned, sent, received}
use Rattle.pairing.proofs.Operations.{PartOf, RunsOnly}

module _ (n : ℕ) (p : Machine) (x : ℕ) (o : Operation) (t : RunsOnly o (p x)) where
  -- an abort completes no part
  abort_completes : (side : Side) (c : ℤ) → CanAbort n p x c
      → completed side o (some (ending (code_only c) [] (p x))) ≡ completed side o (some (p x))
  abort_completes side c (cancelled_sending u r m) = rw (t.shown (ap runs r), r) refl
  abort_completes side c (late_sending u r m k) = rw (t.shown (ap runs r), r) refl
  abort_completes side c (cancelled_receiving u r m) = rw (t.shown (ap runs r), r) refl
  abort_completes side c (late_receiving u r m k) = rw (t.shown (ap runs r), r) refl

  -- an entry that is no begin of x completes the part of a side if x is on that side of its rendezvous
  pub completes : (side : Side) (e : Entry) (q : AtomicThread) → Effect n p x e q
      → bit (completed side o (some q)) ≡ bit (takes_part side x e) + bit (completed side o (some (p x)))
  completes sender e q (kept off a) = rw (off.0, a.run, a.outcome) (omega arith)
  completes sender e q (aborted c off g k) = rw (off.0, k, abort_completes sender c g) (omega arith)
  completes sender e q (turned u on r h k) = rw (on.0, k, (subst (PartOf o) r t.part).1, t.shown (ap runs r), r) refl
  completes sender e q (sent u on r h k) = rw (on.0, k, (subst (PartOf o) r t.part).1, t.shown (ap runs r), r) refl
  completes sender e q (received s u w on j r a k) = rw (on.0, k, t.shown (ap runs r), r) (omega arith)
  completes receiver e q (kept off a) = rw (off.1, a.outcome) (omega arith)
  completes receiver e q (aborted c off g k) = rw (off.1, k, abort_completes receiver c g) (omega arith)
  completes receiver e q (turned u on r h k) = rw (on.1, k) (omega arith)
  completes receiver e q (sent u on r h k) = rw (on.1, k, sym (ap (λ (v : Operation). has_receive v.receive) (subst (PartOf o) r t.part).0) ∙ h) refl
  completes receiver e q (received s u w on j r a k) = rw (on.1, k, t.shown (ap runs r), sym (ap has_receive (subst (PartOf o) r t.part)) ∙ accepts-there w s a) refl

-- a begin completes nothing
pub begin-completes : (side : Side) (n : ℕ) (o : Operation) (q : AtomicThread) → completed side o (some (beginning n o q)) ≡ false
unfolding beginning
begin-completes sender n o q = by o.send.present
    (λ i. by (target_beyond n o) (λ e. rw e (rw i refl)) (λ e. rw e (rw i refl)))
    (λ i. rw i refl)
begin-completes receiver n o q = by (has_receive o.receive)
    (λ i. by (target_beyond n o) (λ e. rw (i, e) refl) (λ e. rw (i, e) refl))
    (λ i. rw i refl)
