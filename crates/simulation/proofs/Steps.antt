-- Each step is its event of the atomic machine, or none.
use mathlib.Core.Path.{◌≡◌, refl, sym, subst}
use mathlib.Core.Bool.{true}
use mathlib.Core.Option.{none}
use mathlib.Core.List.{List}
use Prim.Native.Nat.{ℕ, ◌<◌}
use lib.ListN.{length}
use lib.IntN.{ℤ}
use Rattle.model.specs.declared.Thread.{Thread}
use Rattle.model.specs.declared.Table.{Table}
use Rattle.model.specs.Codes.{nobody}
use Rattle.model.specs.Phases.{Phase, check, look, phase_of, is_one_of}
use Rattle.model.specs.Threads.{at}
use Rattle.model.specs.Step.{Action, stay, take_lock, abort_send, start_copy, to_release, copy_word, finish_call, finish_send, free_target, retry, to_idle, abort_receive, take_sender, clear_poll, free_sender, decide, own_after, other_after, act, store_after}
use Rattle.model.specs.Atomic.{Machine, CanAbort}
use Rattle.model.specs.Linearized.{event_of}
use Rattle.laws.proofs.Decided.{TestedFor, AbortsSend, AbortsReceive, GoesOn, sending, receiving, ended, decided, other_of, after_action}
use Rattle.formed.specs.Groups.{copies_to}
use Rattle.formed.proofs.Neighbours.{below-nobody}
use Rattle.invariant.proofs.Steps.{act_changes}
use Rattle.simulation.proofs.Abstraction.{abstraction, CopiedBy, copies-nowhere, copied-nothing}
use Rattle.simulation.proofs.Leads.{Simulates, Leads, same_store, none-leads}
use Rattle.simulation.proofs.Copying.{copy-word-leads}
use Rattle.simulation.proofs.Aborts.{send-cancelled, send-late, receive-cancelled, receive-late, abort_send-leads, abort_receive-leads}
use Rattle.simulation.proofs.Rendezvous.{finish_call-leads, finish_send-leads}

module _ (t : Table) {p : Machine} {store : List ℕ} (S : Simulates t.n p (at t) store) (x : ℕ) (xn : x < t.n) where
  -- the thread that steps
  abbrev h : Thread
  h = at t x

  -- an action that the atomic machine sees in neither thread
  unseen : (a : Action) → abstraction (other_after a x h (at t (other_of a h))) ≡ abstraction (at t (other_of a h)) → abstraction (own_after a h) ≡ abstraction h
      → (CopiedBy t.n store (at t (other_of a h)) → CopiedBy t.n store (other_after a x h (at t (other_of a h)))) → CopiedBy t.n store (own_after a h)
      → Leads t.n none p (after_action a (at t) x) store
  unseen a = none-leads S x xn store (same_store S x xn) refl (other_of a h) (other_after a x h (at t (other_of a h))) (own_after a h)

  -- after the action x copies to nobody
  nowhere : (a : Action) → copies_to (own_after a h) ≡ nobody → CopiedBy t.n store (own_after a h)
  nowhere a = copies-nowhere t.n store (own_after a h) (below-nobody S.formed)

  -- x goes on from release
  goes_on : (q : Phase) → GoesOn t x q → Leads t.n none p (after_action (free_target q) (at t) x) store
  unfolding own_after other_after abstraction copies_to is_one_of
  goes_on q (sending e) = unseen (free_target q) refl refl (λ k. k) (nowhere (free_target q) refl)
  goes_on q (receiving e i) = unseen (free_target q) refl refl (λ k. k) (nowhere (free_target q) refl)
  goes_on q (ended e i) = unseen (free_target q) refl refl (λ k. k) (nowhere (free_target q) refl)

  -- an abort of a send that was decided is allowed
  may-abort_send : (c : ℤ) → AbortsSend t x c → phase_of h.phase ≡ check → CanAbort t.n p x c
  may-abort_send c (AbortsSend.cancelled e) q = send-cancelled S x xn q e
  may-abort_send c (AbortsSend.late e r l) q = send-late S x xn q r l

  -- and so is one of a receive
  may-abort_receive : (c : ℤ) → AbortsReceive t x c → phase_of h.phase ≡ look → h.flags.ipc ≡ true → CanAbort t.n p x c
  may-abort_receive c (AbortsReceive.cancelled e) q i = receive-cancelled S x xn q i e
  may-abort_receive c (AbortsReceive.late e l f) q i = receive-late S x xn q i l f

  -- every action that was decided is its event, or none
  action_leads : (a : Action) → TestedFor t x a → Leads t.n (event_of a x h) p (after_action a (at t) x) (store_after a h store)
  unfolding own_after other_after event_of store_after abstraction copies_to is_one_of
  action_leads (stay a) f = unseen (stay a) refl refl (λ k. k) (S.copied x xn)
  action_leads take_lock f = unseen take_lock refl refl (λ k. k) (nowhere take_lock refl)
  action_leads (abort_send c) f = abort_send-leads S x xn c (may-abort_send c f.1 f.0)
  action_leads start_copy f = unseen start_copy refl refl (λ k. k) (copied-nothing t.n store (own_after start_copy h) refl)
  action_leads to_release f = unseen to_release refl refl (λ k. k) (nowhere to_release refl)
  action_leads copy_word f = copy-word-leads S x xn f.0 f.1
  action_leads finish_call f = finish_call-leads S x xn f.0 f.1 f.2
  action_leads finish_send f = finish_send-leads S x xn f.0 f.1 f.2
  action_leads (free_target q) f = goes_on q f.1
  action_leads retry f = unseen retry refl refl (λ k. k) (nowhere retry refl)
  action_leads to_idle f = unseen to_idle refl refl (λ k. k) (nowhere to_idle refl)
  action_leads (abort_receive c) f = abort_receive-leads S x xn c (may-abort_receive c f.2 f.0 f.1)
  action_leads (take_sender s) f = unseen (take_sender s) refl refl (λ k. k) (nowhere (take_sender s) refl)
  action_leads clear_poll f = unseen clear_poll refl refl (λ k. k) (nowhere clear_poll refl)
  action_leads free_sender f = unseen free_sender refl refl (λ k. k) (nowhere free_sender refl)

  -- every step is its event, or none
  pub step-leads : length t.threads ≡ 32 → Leads t.n (event_of (decide t x) x h) p (at (act (decide t x) x t)) (store_after (decide t x) h store)
  step-leads whole = subst (λ (T : ℕ → Thread). Leads t.n (event_of (decide t x) x h) p T (store_after (decide t x) h store))
      (sym (act_changes t S.formed x xn whole (decide t x) (decided t x))) (action_leads (decide t x) (decided t x))
