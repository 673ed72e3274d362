-- What the atomic machine sends is what was begun last.
use mathlib.Core.Path.{◌≡◌, refl, sym, ap, ◌∙◌, subst}
use mathlib.Core.Bool.{true≢false}
use mathlib.Core.Option.{none, some}
use Prim.Native.Nat.{ℕ}
use Rattle.model.specs.declared.Operation.{Operation}
use Rattle.model.specs.declared.Receive.{Receive}
use Rattle.model.specs.Lists.{update}
use Rattle.model.specs.Operations.{target_beyond, has_receive}
use Rattle.model.specs.Atomic.{Run, nothing, sending, receiving, AtomicThread, Machine, Event, begins, cancels, ticks, rendezvous, aborts, runs, beginning, cancelling, ticking, receiver_after, sender_after, play, is_receiving, Can}
use Rattle.model.specs.Linearization.{Entry, play_entry, Allowed}
use Rattle.model.proofs.Laws.{by, same?}
use Rattle.laws.proofs.Lists.{cond-true, cond-false, update_same, update_other}
use Rattle.logs.specs.OneRun.{begun_by}

-- what a thread sends is the operation that it began last
abbrev pub Known : (ℕ → Operation) → Machine → Type 0
Known ops p = (x : ℕ) (o : Operation) → (p x).run ≡ sending o → ops x ≡ o

-- ---- what runs
-- the operation of a send; another where nothing is sent
abbrev sent_in : Run → Operation → Operation
sent_in nothing d = d
sent_in (sending o) d = o
sent_in (receiving r) d = d

same-sending : (a b : Operation) → sending a ≡ sending b → a ≡ b
same-sending a b e = ap (λ (u : Run). sent_in u a) e

idle-not-sending : (u : Run) (o : Operation) → u ≡ nothing → u ≡ sending o → ⊥
idle-not-sending u o e f = true≢false (ap runs (sym f ∙ e))

receiving-not-sending : (u : Run) (r : Receive) (o : Operation) → u ≡ receiving r → u ≡ sending o → ⊥
receiving-not-sending u r o e f = true≢false (ap is_receiving (sym e ∙ f))

-- ---- one event
-- at first nothing is sent
pub nothing_known : (ops : ℕ → Operation) (p : Machine) → ((x : ℕ) → (p x).run ≡ nothing) → Known ops p
nothing_known ops p rests x o e = absurd (idle-not-sending (p x).run o (rests x) e)

-- a change of thread x keeps this, if what x sends then is what it began
changed-known : (ops : ℕ → Operation) (p : Machine) → Known ops p → (x : ℕ) (q : AtomicThread) → ((o : Operation) → q.run ≡ sending o → ops x ≡ o) → Known ops (update p x q)
changed-known ops p known x q here y o e = same? y x
    (λ i. ap ops i ∙ here o (ap (λ (h : AtomicThread). h.run) (sym (update_same p x q) ∙ ap (update p x q) (sym i)) ∙ e))
    (λ d. known y o (ap (λ (h : AtomicThread). h.run) (sym (update_other p x q y d)) ∙ e))

module _ (n : ℕ) (ops : ℕ → Operation) (p : Machine) (known : Known ops p) where
  -- the sender of a rendezvous sends no more
  sender-done : (u : Run) (q : AtomicThread) (o w : Operation) → u ≡ sending w → (sender_after u q).run ≡ sending o → ⊥
  unfolding sender_after
  sender-done u q o w e f = by (has_receive w.receive)
      (λ h. receiving-not-sending _ _ o (ap (λ (a : AtomicThread). a.run) (cond-true _ _ _ h)) is)
      (λ h. idle-not-sending _ o (ap (λ (a : AtomicThread). a.run) (cond-false _ _ _ h)) is)
    where
      is : (sender_after (sending w) q).run ≡ sending o
      is = ap (λ (v : Run). (sender_after v q).run) (sym e) ∙ f

  -- its receiver does not send
  receiver-done : (s : ℕ) (q : AtomicThread) (o w : Operation) → (receiver_after s (sending w) q).run ≡ sending o → ⊥
  unfolding receiver_after
  receiver-done s q o w f = idle-not-sending _ o refl f

  -- a thread that begins sends what it begins
  begins-own : (q : AtomicThread) (o w : Operation) → (beginning n o q).run ≡ sending w → o ≡ w
  unfolding beginning
  begins-own q o w f = by (target_beyond n o)
      (λ h. absurd (idle-not-sending _ w (ap (λ (a : AtomicThread). a.run) (cond-true _ _ _ h)) f))
      (λ h. by o.send.present
      (λ g. same-sending o w (sym (ap (λ (a : AtomicThread). a.run) (cond-false _ _ _ h) ∙ cond-true _ _ _ g) ∙ f))
      (λ g. absurd (receiving-not-sending _ o.receive w (ap (λ (a : AtomicThread). a.run) (cond-false _ _ _ h) ∙ cond-false _ _ _ g) f)))

  begun-known : (x : ℕ) (o : Operation) → Known (update ops x o) (update p x (beginning n o (p x)))
  begun-known x o y w e = same? y x
      (λ i. ap (update ops x o) i ∙ update_same ops x o ∙ begins-own (p x) o w (ap (λ (h : AtomicThread). h.run) (sym (update_same p x (beginning n o (p x))) ∙ ap (update p x (beginning n o (p x))) (sym i)) ∙ e))
      (λ d. update_other ops x o y d ∙ known y w (ap (λ (h : AtomicThread). h.run) (sym (update_other p x (beginning n o (p x)) y d)) ∙ e))

  event-known : (e : Event) → Can n e p → Known (begun_by (some e) ops) (play n e p)
  unfolding play cancelling ticking
  event-known (begins x o) can = begun-known x o
  event-known (cancels x) can = changed-known ops p known x _ (λ o e. known x o e)
  event-known ticks can = λ y o e. known y o e
  event-known (rendezvous s r) (sn, rn, queued, ready) =
      let received = changed-known ops p known r _ (λ o e. absurd (receiver-done s (p r) o queued.operation (subst (λ (u : Run). (receiver_after s u (p r)).run ≡ sending o) queued.runs e))) in
      changed-known ops _ received s _ (λ o e. absurd (sender-done (p s).run (p s) o queued.operation queued.runs e))
  event-known (aborts x c) can = changed-known ops p known x _ (λ o e. absurd (idle-not-sending _ o refl e))

  -- every entry of a linearization keeps this
  pub entry_known : (e : Entry) → Allowed n e p → Known (begun_by e ops) (play_entry n e p)
  entry_known none may = known
  entry_known (some e) may = event-known e may
