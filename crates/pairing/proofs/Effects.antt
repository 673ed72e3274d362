-- What an event does to one thread.
use mathlib.Core.Path.{◌≡◌, refl, sym, ap, ◌∙◌}
use mathlib.Core.Logic.{◌≢◌}
use mathlib.Core.Bool.{true≢false, true, false}
use mathlib.Core.Option.{none, some}
use mathlib.Core.List.{[]}
use Prim.Native.Nat.{ℕ}
use lib.IntN.{ℤ}
use borrow.Author.Tests.{eqb-false, eq-eqb, ne_eqb}
use Rattle.model.specs.declared.Receive.{Receive}
use Rattle.model.specs.declared.Operation.{Operation}
use Rattle.model.specs.Lists.{update}
use Rattle.model.specs.Codes.{running, same_code, done, code_only}
use Rattle.model.specs.Operations.{has_receive, accepts, message}
use Rattle.model.specs.Atomic.{Run, nothing, sending, receiving, AtomicThread, Machine, begins, cancels, ticks, rendezvous, aborts, runs}
use Rattle.model.specs.Atomic.{ending, turning, beginning, cancelling, ticking, receiver_after, sender_after, play}
use Rattle.model.specs.Atomic.{is_receiving, accepts_in, CanAbort, cancelled_sending, late_sending, cancelled_receiving, late_receiving, Can}
use Rattle.model.specs.Linearization.{Entry, play_entry, Allowed, begins_by}
use Rattle.model.proofs.Laws.{by, same?}
use Rattle.laws.proofs.Ready.{ready_for-read}
use Rattle.laws.proofs.Lists.{update_same, update_other}
use Rattle.pairing.proofs.Sides.{Side, sender, receiver, ofSide, OnSides}

-- the same runs in both threads, and a user sees the same of them
pub record Alike (q p : AtomicThread) : Type 0 where
  pub run : q.run ≡ p.run
  pub outcome : q.outcome ≡ p.outcome
  pub words : q.words ≡ p.words

-- equal threads are alike
pub equal-alike : (q p : AtomicThread) → q ≡ p → Alike q p
equal-alike q p e = record { run = ap (λ (q : AtomicThread). q.run) e; outcome = ap (λ (q : AtomicThread). q.outcome) e; words = ap (λ (q : AtomicThread). q.words) e }

-- ---- a rendezvous
-- what the two threads of a rendezvous run
pub record Parties (p : Machine) (s r : ℕ) : Type 0 where
  pub operation : Operation
  pub wait : Receive
  pub sends : (p s).run ≡ sending operation
  pub target : operation.send.target ≡ r
  pub waits : (p r).run ≡ receiving wait
  pub accepted : accepts wait s ≡ true

-- a run that is a receive has its receive part
receive-part : (run : Run) (s : ℕ) → is_receiving run ≡ true → accepts_in run s ≡ true → (w : Receive) × (run ≡ receiving w) × (accepts w s ≡ true)
receive-part nothing s i a = absurd (true≢false (sym i))
receive-part (sending o) s i a = absurd (true≢false (sym i))
receive-part (receiving w) s i a = (w, refl, a)

-- a rendezvous has its two threads
pub parties : (n : ℕ) (p : Machine) (s r : ℕ) → Can n (rendezvous s r) p → Parties p s r
parties n p s r c =
    let ready = ready_for-read p r s c.3 in
    let h = receive-part (p r).run s ready.receiving ready.accepting in
    record { operation = c.2.operation; wait = h.0; sends = c.2.runs; target = c.2.target; waits = h.1; accepted = h.2 }

module _ (p : Machine) (s r : ℕ) (h : Parties p s r) where
  -- both run
  pub parties-run : (side : Side) → runs (p (ofSide side s r)).run ≡ true
  parties-run sender = rw h.sends refl
  parties-run receiver = rw h.waits refl

  -- they are two
  parties_differ : s ≢ r
  parties_differ e = true≢false (sym (rw (e, h.waits) refl) ∙ ap is_receiving h.sends)

  -- the receiver ends with the source, the count and the words of the sender
  pub receiver-ends : (n : ℕ) → play n (rendezvous s r) p r ≡ ending (record { code = done; source = s; count = h.operation.send.count }) (message h.operation.send) (p r)
  unfolding play receiver_after
  receiver-ends n = update_other _ s _ r (λ e. parties_differ (sym e)) ∙ update_same p r _ ∙ rw h.sends refl

  -- the sender turns to its receive part
  sender_turns : (n : ℕ) → has_receive h.operation.receive ≡ true → play n (rendezvous s r) p s ≡ turning h.operation.receive (p s)
  unfolding play sender_after
  sender_turns n b = update_same _ s _ ∙ rw (h.sends, b) refl

  -- or ends, where it has none
  sender-ends : (n : ℕ) → has_receive h.operation.receive ≡ false → play n (rendezvous s r) p s ≡ ending (code_only done) [] (p s)
  unfolding play sender_after
  sender-ends n b = update_same _ s _ ∙ rw (h.sends, b) refl

-- ---- each event
-- how an entry that is no begin of x leaves x: alike, or with one of four changes
pub data Effect (n : ℕ) (p : Machine) (x : ℕ) (e : Entry) (q : AtomicThread) : Type 0 where
  kept : OnSides x e false false → Alike q (p x) → Effect n p x e q
  aborted : (c : ℤ) → OnSides x e false false → CanAbort n p x c → q ≡ ending (code_only c) [] (p x) → Effect n p x e q
  turned : (o : Operation) → OnSides x e true false → (p x).run ≡ sending o → has_receive o.receive ≡ true → q ≡ turning o.receive (p x) → Effect n p x e q
  sent : (o : Operation) → OnSides x e true false → (p x).run ≡ sending o → has_receive o.receive ≡ false → q ≡ ending (code_only done) [] (p x) → Effect n p x e q
  received : (s : ℕ) (o : Operation) (w : Receive) → OnSides x e false true → (p s).run ≡ sending o → (p x).run ≡ receiving w → accepts w s ≡ true
      → q ≡ ending (record { code = done; source = s; count = o.send.count }) (message o.send) (p x) → Effect n p x e q

-- a cancel changes no more than the mark
cancelling-alike : (q : AtomicThread) → Alike (cancelling q) q
unfolding cancelling
cancelling-alike q = record { run = refl; outcome = refl; words = refl }

-- a tick changes no more than the time left
ticking-alike : (q : AtomicThread) → Alike (ticking q) q
unfolding ticking
ticking-alike q = record { run = refl; outcome = refl; words = refl }

module _ (n : ℕ) (p : Machine) (x : ℕ) where
  -- a change of another thread keeps x
  untouched : (y : ℕ) (q : AtomicThread) → x ≢ y → Alike (update p y q x) (p x)
  untouched y q d = equal-alike (update p y q x) (p x) (update_other p y q x d)

  -- what a rendezvous does to x
  rendezvous-effect : (s r : ℕ) → Parties p s r → Effect n p x (some (rendezvous s r)) (play n (rendezvous s r) p x)
  unfolding play
  rendezvous-effect s r h = same? s x
      (λ e. let on : OnSides x (some (rendezvous s r)) true false = (eq-eqb s x e, ne_eqb r x (λ i. parties_differ p s r h (e ∙ sym i))) in
      by (has_receive h.operation.receive)
      (λ b. turned h.operation on (rw (sym e) h.sends) b (rw (sym e) (sender_turns p s r h n b)))
      (λ b. sent h.operation on (rw (sym e) h.sends) b (rw (sym e) (sender-ends p s r h n b))))
      (λ d. same? r x
      (λ e. received s h.operation h.wait (ne_eqb s x d, eq-eqb r x e) h.sends (rw (sym e) h.waits) h.accepted (rw (sym e) (receiver-ends p s r h n)))
      (λ k. kept (ne_eqb s x d, ne_eqb r x k) (equal-alike _ _ (update_other _ s _ x (λ i. d (sym i)) ∙ update_other p r _ x (λ i. k (sym i))))))

  -- what an entry that is no begin of x does to x
  pub effect : (e : Entry) → Allowed n e p → begins_by x e ≡ false → Effect n p x e (play_entry n e p x)
  unfolding play
  effect none l b = kept (refl, refl) (equal-alike (p x) (p x) refl)
  effect (some (begins y o)) l b = kept (refl, refl) (untouched y (beginning n o (p y)) (λ e. eqb-false y x b (sym e)))
  effect (some (cancels y)) l b = kept (refl, refl) (same? x y (λ e. rw (e, update_same) (cancelling-alike (p y))) (untouched y (cancelling (p y))))
  effect (some ticks) l b = kept (refl, refl) (ticking-alike (p x))
  effect (some (rendezvous s r)) l b = rendezvous-effect s r (parties n p s r l)
  effect (some (aborts y c)) l b = same? x y
      (λ e. aborted c (refl, refl) (rw e l.1) (rw (e, update_same) refl))
      (λ d. kept (refl, refl) (untouched y (ending (code_only c) [] (p y)) d))

  -- a thread that may be aborted runs
  abort_runs : (c : ℤ) → CanAbort n p x c → runs (p x).run ≡ true
  abort_runs c (cancelled_sending o e m) = rw e refl
  abort_runs c (late_sending o e t k) = rw e refl
  abort_runs c (cancelled_receiving w e m) = rw e refl
  abort_runs c (late_receiving w e t k) = rw e refl

  -- and the code of an abort is not running
  pub abort_over : (c : ℤ) → CanAbort n p x c → same_code running c ≡ false
  abort_over c (cancelled_sending o e m) = refl
  abort_over c (late_sending o e t k) = refl
  abort_over c (cancelled_receiving w e m) = refl
  abort_over c (late_receiving w e t k) = refl

  -- a thread that runs nothing stays alike until it begins
  pub idle-kept : (e : Entry) (q : AtomicThread) → Effect n p x e q → runs (p x).run ≡ false → Alike q (p x)
  idle-kept e q (kept off a) i = a
  idle-kept e q (aborted c off g k) i = absurd (true≢false (sym (abort_runs c g) ∙ i))
  idle-kept e q (turned o on r h k) i = absurd (true≢false (sym (ap runs r) ∙ i))
  idle-kept e q (sent o on r h k) i = absurd (true≢false (sym (ap runs r) ∙ i))
  idle-kept e q (received s o w on j r a k) i = absurd (true≢false (sym (ap runs r) ∙ i))
