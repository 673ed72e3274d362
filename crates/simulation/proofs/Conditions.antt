-- What the atomic machine's conditions are in the threads that stand for it.
use mathlib.Core.Path.{◌≡◌, refl, sym, ap, ◌∙◌}
use mathlib.Core.Bool.{Bool, true, false, not, ◌&&◌, true≢false}
use mathlib.Core.List.{List, [], ◌∷◌}
use Prim.Native.Nat.{ℕ, ◌<◌}
use borrow.Author.Tests.{eq-eqb}
use Rattle.model.specs.declared.Operation.{Operation}
use Rattle.model.specs.declared.Thread.{Thread}
use Rattle.model.specs.Lists.{implies, all_of}
use Rattle.model.specs.Operations.{accepts}
use Rattle.model.specs.Queues.{ready}
use Rattle.model.specs.WellFormed.{sends_to}
use Rattle.model.specs.Atomic.{nothing, sending, receiving, runs, AtomicThread, Machine, QueuedAt, accepts_in, is_receiving, ready_for}
use Rattle.laws.proofs.Queues.{sends-to}
use Rattle.formed.proofs.Flags.{cases, told_any}
use Rattle.formed.proofs.Facts.{sends-runs}
use Rattle.simulation.proofs.Abstraction.{run_of, runs_with_ipc, abstraction}
use Rattle.simulation.proofs.Leads.{Simulates}

-- an operation is sent where `send` is set, and it is the thread's own
run-sending : (ipc send : Bool) (o u : Operation) → run_of ipc send o ≡ sending u → (send ≡ true) × (o ≡ u)
unfolding run_of
run-sending true true o u e = (refl, cc)
run-sending true false o u e = absurd (true≢false (ap is_receiving e))
run-sending false send o u e = absurd (true≢false (sym (ap runs e)))

-- the tests of readiness agree, since `receiving` is set where `ipc` is set without `send`
ready-same : (ipc send receives mark : Bool) (o : Operation) (s : ℕ) → implies (ipc && not send) receives ≡ true
    → all_of (is_receiving (run_of ipc send o) ∷ not mark ∷ accepts_in (run_of ipc send o) s ∷ []) ≡ all_of (ipc ∷ receives ∷ not send ∷ not mark ∷ accepts o.receive s ∷ [])
unfolding run_of implies all_of
ready-same false send receives mark o s e = refl
ready-same true true true mark o s e = refl
ready-same true true false mark o s e = refl
ready-same true false true mark o s e = refl
ready-same true false false mark o s e = absurd (true≢false (sym e))

module _ {n : ℕ} {p : Machine} {T : ℕ → Thread} {store : List ℕ} (S : Simulates n p T store) where
  module _ (x : ℕ) (xn : x < n) where
    -- what runs in thread x
    run-alike : (p x).run ≡ run_of (T x).flags.ipc (T x).flags.send (T x).op
    unfolding abstraction
    run-alike = ap (λ (q : AtomicThread). q.run) (S.like x xn)

    -- its mark
    pub mark-alike : (p x).mark ≡ (T x).flags.mark
    unfolding abstraction
    mark-alike = ap (λ (q : AtomicThread). q.mark) (S.like x xn)

    -- its `left`
    pub left-alike : (p x).left ≡ (T x).left
    unfolding abstraction
    left-alike = ap (λ (q : AtomicThread). q.left) (S.like x xn)

    -- an operation runs in it where `ipc` is set
    pub runs-alike : runs (p x).run ≡ (T x).flags.ipc
    runs-alike = ap runs run-alike ∙ runs_with_ipc (T x).flags.ipc (T x).flags.send (T x).op

    -- where `ipc` is clear nothing runs
    pub rests-alike : (T x).flags.ipc ≡ false → (p x).run ≡ nothing
    unfolding run_of
    rests-alike i = run-alike ∙ rw i refl

    -- it sends
    pub sends-alike : (T x).flags.send ≡ true → (p x).run ≡ sending (T x).op
    unfolding run_of
    sends-alike e = run-alike ∙ rw (sends-runs (S.formed.own x xn) e, e) refl

    -- it receives
    pub receives-alike : (T x).flags.ipc ≡ true → (T x).flags.send ≡ false → (p x).run ≡ receiving (T x).op.receive
    unfolding run_of
    receives-alike i e = run-alike ∙ rw (i, e) refl

    -- it is ready for s
    pub ready-alike : (s : ℕ) → ready_for p x s ≡ ready (T x) s
    unfolding ready_for ready cases
    ready-alike s = rw (run-alike, mark-alike) (ready-same (T x).flags.ipc (T x).flags.send (T x).flags.receiving (T x).flags.mark (T x).op s
        (told_any (T x) (S.formed.own x xn).flags (λ k v r s. implies (v.ipc && not v.send) v.receiving) refl))

    -- it is queued at r
    pub queued-alike : (r : ℕ) → QueuedAt p x r → sends_to (T x) r ≡ true
    queued-alike r q =
        let (sends, same) = run-sending (T x).flags.ipc (T x).flags.send (T x).op q.operation (sym run-alike ∙ q.runs) in
        sends-to (T x) sends r ∙ eq-eqb (T x).op.send.target r (ap (λ (o : Operation). o.send.target) same ∙ q.target)
