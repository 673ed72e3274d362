-- The aborts: each is allowed in the atomic machine where a step decides on it, and ends the thread alike.
use mathlib.Core.Path.{◌≡◌, refl, ap, ◌∙◌}
use mathlib.Core.Bool.{true, false}
use mathlib.Core.Option.{none, some}
use mathlib.Core.List.{List, []}
use Prim.Native.Nat.{ℕ, ◌<◌}
use native.Mathlib.Omega.{arith}
use lib.IntN.{ℤ}
use Rattle.model.specs.declared.Thread.{Thread}
use Rattle.model.specs.Codes.{receive_time_over, send_time_over, receive_cancelled, send_cancelled, nobody, code_only}
use Rattle.model.specs.Operations.{receive_time}
use Rattle.model.specs.Phases.{check, look, phase_of, is_one_of}
use Rattle.model.specs.Queues.{departed, find_sender, ready}
use Rattle.model.specs.Step.{Action, abort_send, abort_receive, own_after, other_after}
use Rattle.model.specs.Atomic.{receiving, Machine, aborts, ending, play, CanAbort, cancelled_sending, late_sending, cancelled_receiving, late_receiving}
use Rattle.laws.proofs.Search.{none-acceptable}
use Rattle.laws.proofs.Decided.{other_of, after_action}
use Rattle.formed.proofs.Facts.{target-other}
use Rattle.formed.specs.Groups.{copies_to}
use Rattle.formed.proofs.Neighbours.{quiet-in_look, below-nobody, sends-in_check, sends-queued}
use Rattle.simulation.proofs.Abstraction.{abstraction, CopiedBy, copies-nowhere}
use Rattle.simulation.proofs.Leads.{Simulates, Leads, same_store, own-leads}
use Rattle.simulation.proofs.Conditions.{mark-alike, left-alike, sends-alike, receives-alike, ready-alike, queued-alike}

module _ {n : ℕ} {p : Machine} {T : ℕ → Thread} {store : List ℕ} (S : Simulates n p T store) (x : ℕ) (xn : x < n) where
  -- the thread that steps
  abbrev h : Thread
  h = T x

  -- ---- check
  module _ (c : phase_of h.phase ≡ check) where
    -- it sends
    sends : h.flags.send ≡ true
    sends = sends-in_check S.formed x xn c

    -- a marked thread may abort its send
    pub send-cancelled : h.flags.mark ≡ true → CanAbort n p x send_cancelled
    send-cancelled e = cancelled_sending h.op (sends-alike S x xn sends) (mark-alike S x xn ∙ e)

    -- and one whose time is over and whose target is not ready
    pub send-late : ready (T h.op.send.target) x ≡ false → h.left ≡ 0 → CanAbort n p x send_time_over
    send-late e l = late_sending h.op (sends-alike S x xn sends) (left-alike S x xn ∙ l)
        (ready-alike S h.op.send.target (target-other (S.formed.own x xn) sends).below x ∙ e)

  -- ---- look
  module _ (c : phase_of h.phase ≡ look) (runs : h.flags.ipc ≡ true) where
    -- it receives
    receives : (p x).run ≡ receiving h.op.receive
    receives = receives-alike S x xn runs (quiet-in_look S.formed x xn c)

    -- a marked thread may abort its receive
    pub receive-cancelled : h.flags.mark ≡ true → CanAbort n p x receive_cancelled
    receive-cancelled e = cancelled_receiving h.op.receive receives (mark-alike S x xn ∙ e)

    -- and one whose time is over and, where its code is 0, whose search finds nobody: who is queued at it stands in its queue
    pub receive-late : h.left ≡ 0 → (receive_time h.op.receive ≡ 0 → find_sender h ≡ none) → CanAbort n p x receive_time_over
    receive-late l e = late_receiving h.op.receive receives (left-alike S x xn ∙ l) (λ z s sn q.
        let once = sends-queued S.formed x s xn sn (queued-alike S s sn x q) in
        rw receives (none-acceptable h s (e z) (omega arith)))

  -- ---- what they leave
  module _ (c : ℤ) (can : CanAbort n p x c) where
    -- an action that ends x with this code, and of whose other thread the atomic machine sees no change
    aborts_lead : (a : Action) → abstraction (other_after a x h (T (other_of a h))) ≡ abstraction (T (other_of a h))
        → ((words : List ℕ) → ending (code_only c) [] (abstraction h words) ≡ abstraction (own_after a h) words)
        → (CopiedBy n store (T (other_of a h)) → CopiedBy n store (other_after a x h (T (other_of a h)))) → copies_to (own_after a h) ≡ nobody
        → Leads n (some (aborts x c)) p (after_action a T x) store
    unfolding play
    aborts_lead a its ends copied calm = own-leads S x xn store (same_store S x xn) (some (aborts x c)) (xn, can) (other_of a h) (other_after a x h (T (other_of a h))) (own_after a h)
        (ending (code_only c) [] (p x)) refl its (ap (ending (code_only c) []) (S.like x xn) ∙ ends _) copied (copies-nowhere n store (own_after a h) (below-nobody S.formed) calm)

    -- of a send
    pub abort_send-leads : Leads n (some (aborts x c)) p (after_action (abort_send c) T x) store
    unfolding own_after other_after departed abstraction copies_to is_one_of
    abort_send-leads = aborts_lead (abort_send c) refl (λ words. refl) (λ k. k) refl

    -- of a receive
    pub abort_receive-leads : Leads n (some (aborts x c)) p (after_action (abort_receive c) T x) store
    unfolding own_after other_after abstraction copies_to is_one_of
    abort_receive-leads = aborts_lead (abort_receive c) refl (λ words. refl) (λ k. k) refl
