-- Every accepted call is its event of the atomic machine, or none, and both machines answer alike.
use mathlib.Core.Path.{◌≡◌, refl, ◌∙◌, subst}
use mathlib.Core.Option.{some}
use mathlib.Core.List.{List}
use Prim.Native.Nat.{ℕ, ◌<◌}
use native.Mathlib.Omega.{arith}
use lib.ListN.{length}
use Rattle.model.specs.declared.Thread.{Thread}
use Rattle.model.specs.declared.Table.{Table}
use Rattle.model.specs.Lists.{update}
use Rattle.model.specs.Threads.{at, edit_below, marked}
use Rattle.model.specs.Store.{words_at}
use Rattle.model.specs.Step.{Action, stay, take_lock, abort_send, start_copy, to_release, copy_word, finish_call, finish_send, free_target, retry, to_idle, abort_receive, take_sender, clear_poll, free_sender, decide}
use Rattle.model.specs.Calls.{cancel_table, cancel_reply, ticked, tick_table, Call, begin_via, step, cancel, tick, load, State, accepted_reply, accepted_state}
use Rattle.model.specs.Refusals.{refusal}
use Rattle.model.specs.Atomic.{Machine, cancels, ticks, cancelling, ticking, play, reply}
use Rattle.model.specs.Linearization.{alike, AtStep, AtAccepted}
use Rattle.model.specs.Linearized.{event_of, accepted_entry}
use Rattle.model.proofs.Laws.{by}
use Rattle.laws.proofs.Lists.{update-own}
use Rattle.laws.proofs.Tables.{edit-at, below_at}
use Rattle.laws.proofs.Refusals.{accepted-begin, accepted-step, accepted-cancel}
use Rattle.laws.proofs.Calls.{cancel_marks_reply, cancel-nothing-reply, cancel-cases}
use Rattle.formed.specs.Groups.{copies_to}
use Rattle.simulation.proofs.Abstraction.{runs_with_ipc, abstraction, CopiedBy}
use Rattle.simulation.proofs.Leads.{Simulates, Leads, same_store, alone-leads}
use Rattle.simulation.proofs.Conditions.{runs-alike}
use Rattle.simulation.proofs.Steps.{step-leads}
use Rattle.simulation.proofs.Begins.{begin-leads}

-- ---- cancel
module _ (t : Table) {p : Machine} {store : List ℕ} (S : Simulates t.n p (at t) store) (x : ℕ) (xn : x < t.n) where
  -- the thread that is cancelled
  abbrev h : Thread
  h = at t x

  -- a cancel by which x becomes f
  cancelled-leads : (f : Thread) → cancelling (p x) ≡ abstraction f (words_at store x) → CopiedBy t.n store f → Leads t.n (some (cancels x)) p (update (at t) x f) store
  unfolding play
  cancelled-leads f = alone-leads S x xn store (same_store S x xn) (some (cancels x)) xn f (cancelling (p x)) refl

  -- a cancel is its event
  pub cancel-leads : length t.threads ≡ 32 → Leads t.n (some (cancels x)) p (at (cancel_table x t)) store
  unfolding cancelling abstraction copies_to
  cancel-leads whole = cancel-cases x t (λ after. Leads t.n (some (cancels x)) p (at after) store)
      (λ on. rw (edit-at x marked t (omega arith)) (cancelled-leads (marked h) (rw (runs-alike S x xn ∙ on, S.like x xn) refl) (S.copied x xn)))
      (λ off. subst (λ (T : ℕ → Thread). Leads t.n (some (cancels x)) p T store) (update-own (at t) x) (cancelled-leads h (rw (runs-alike S x xn ∙ off) (S.like x xn)) (S.copied x xn)))

  -- both machines answer it alike
  cancel-answers : cancel_reply x t ≡ alike (reply (cancels x) p)
  unfolding reply
  cancel-answers = by h.flags.ipc
      (λ on. cancel_marks_reply x t on ∙ rw (runs-alike S x xn ∙ on) refl)
      (λ off. cancel-nothing-reply x t off ∙ rw (runs-alike S x xn ∙ off) refl)

-- ---- tick
-- it changes a thread alike in both machines
ticks-alike : (h : Thread) (words : List ℕ) → ticking (abstraction h words) ≡ abstraction (ticked h) words
unfolding ticking ticked abstraction
ticks-alike h words = rw (runs_with_ipc h.flags.ipc h.flags.send h.op) refl

-- a tick is its event
pub tick-leads : (t : Table) {p : Machine} {store : List ℕ} → Simulates t.n p (at t) store → length t.threads ≡ 32 → Leads t.n (some ticks) p (at (tick_table t)) store
unfolding play tick_table ticked copies_to
tick-leads t {p} {store} S whole = record {
  allowed = tt;
  like = λ y yn. rw (fallen y yn, S.like y yn) (ticks-alike (at t y) (words_at store y));
  copied = λ y yn. rw (fallen y yn) (S.copied y yn);
}
  where
    fallen : (y : ℕ) → y < t.n → at (edit_below t.n ticked t) y ≡ ticked (at t y)
    fallen y yn = below_at ticked t t.n y (omega arith) yn

-- ---- every call
-- an accepted call is its event, or none
pub call-leads : (c : Call) (s : State) {p : Machine} → refusal c s ≡ 0 → length s.table.threads ≡ 32 → Simulates s.table.n p (at s.table) s.store
    → Leads s.table.n (accepted_entry c s) p (at (accepted_state c s).table) (accepted_state c s).store
unfolding accepted_entry accepted_state
call-leads (begin_via via x o) s e whole S = begin-leads s S whole x o (accepted-begin via x o s e)
call-leads (step x) s e whole S = step-leads s.table S x (accepted-step x s e).below whole
call-leads (cancel x) s e whole S = cancel-leads s.table S x (accepted-cancel x s e).below whole
call-leads tick s e whole S = tick-leads s.table S whole
call-leads (load rules) s e whole S = unfold at in record { allowed = tt; like = S.like; copied = S.copied }

-- a step has a rendezvous, an abort or nothing in its place
event-at-step : (a : Action) (x : ℕ) (h : Thread) → AtStep (event_of a x h)
unfolding event_of
event-at-step (stay a) x h = tt
event-at-step take_lock x h = tt
event-at-step (abort_send c) x h = tt
event-at-step start_copy x h = tt
event-at-step to_release x h = tt
event-at-step copy_word x h = tt
event-at-step finish_call x h = tt
event-at-step finish_send x h = tt
event-at-step (free_target p) x h = tt
event-at-step retry x h = tt
event-at-step to_idle x h = tt
event-at-step (abort_receive c) x h = tt
event-at-step (take_sender s) x h = tt
event-at-step clear_poll x h = tt
event-at-step free_sender x h = tt

-- the entry of an accepted call may stand in its place, and begin, cancel and tick answer as the atomic machine does
pub call-placed : (c : Call) (s : State) {p : Machine} → refusal c s ≡ 0 → Simulates s.table.n p (at s.table) s.store → AtAccepted c (accepted_reply c s) (accepted_entry c s) p
unfolding accepted_entry accepted_reply reply
call-placed (begin_via via x o) s e S = record { event = refl; answer = refl }
call-placed (step x) s e S = event-at-step (decide s.table x) x (at s.table x)
call-placed (cancel x) s e S = record { event = refl; answer = cancel-answers s.table S x (accepted-cancel x s e).below }
call-placed tick s e S = record { event = refl; answer = refl }
call-placed (load rules) s e S = refl
