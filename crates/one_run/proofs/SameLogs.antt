-- The two logs of one run are the same, entry by entry, and so they agree.
use mathlib.Core.Path.{◌≡◌, refl, sym, ap, ◌∙◌, subst}
use mathlib.Core.Logic.{◌≢◌}
use mathlib.Core.Bool.{true, false≢true}
use mathlib.Core.Option.{none, some}
use mathlib.Core.List.{List, [], ◌∷◌, ◌++◌}
use Prim.Native.Nat.{ℕ}
use Rattle.model.specs.declared.Operation.{Operation}
use Rattle.model.specs.Codes.{View}
use Rattle.model.specs.Operations.{message}
use Rattle.model.specs.Threads.{new_table, no_operation}
use Rattle.model.specs.Calls.{State}
use Rattle.model.specs.Refusals.{unless}
use Rattle.model.specs.Promise.{state, view}
use Rattle.model.specs.Atomic.{Run, sending, AtomicThread, Machine, first_machine, begins, cancels, ticks, rendezvous, aborts, play, receiver_after, is_receiving, ready_for}
use Rattle.model.specs.Linearization.{Observed, Trace, Entry, play_entry, Allowed}
use Rattle.model.specs.Linearized.{entry}
use Rattle.model.proofs.Laws.{all_of-read}
use Rattle.laws.proofs.Lists.{update_same, update_other}
use Rattle.linearization.proofs.Represents.{Represents, first-represents, call_simulated}
use Rattle.linearization.proofs.Demand.{represents-shown}
use Rattle.logs.specs.Comparison.{Logged, entries_of, compare, compare_answer, Pairing}
use Rattle.logs.specs.OneRun.{begun_by, sent_at, received_at, send_log, receive_log, Holds, OneRunAgrees}
use Rattle.agreement.proofs.Pairings.{paired-agree}
use Rattle.one_run.proofs.Known.{Known, nothing_known, entry_known}
use Rattle.one_run.proofs.Counts.{log_small, not-refused}

module _ (n : ℕ) (ops : ℕ → Operation) (p : Machine) (known : Known ops p) where
  -- a receiver is not its sender
  apart : (s r : ℕ) (o : Operation) → (p s).run ≡ sending o → is_receiving (p r).run ≡ true → r ≢ s
  apart s r o e receives same = false≢true (sym (ap (λ (k : ℕ). is_receiving (p k).run) same ∙ ap is_receiving e) ∙ receives)

  -- at a rendezvous both logs gain the same
  pub same-entry : (e : Entry) → Allowed n e p → (after : State) → Represents n after (play_entry n e p) → sent_at e ops ≡ received_at e after
  unfolding play receiver_after ready_for
  same-entry none may after R = refl
  same-entry (some (begins x o)) may after R = refl
  same-entry (some (cancels x)) may after R = refl
  same-entry (some ticks) may after R = refl
  same-entry (some (rendezvous s r)) (sn, rn, queued, ready) after R =
      let o = queued.operation in
      let other = apart s r o queued.runs (all_of-read _ ready).0 in
      let shown : view after r ≡ record { outcome = record { code = _; source = s; count = o.send.count }; words = message o.send } =
      represents-shown n after _ R r rn
      ∙ ap {B = View} (λ (h : AtomicThread). record { outcome = h.outcome; words = h.words }) (update_other _ s _ r other ∙ update_same p r _ ∙ ap (λ (u : Run). receiver_after s u (p r)) queued.runs) in
      ap {B = List Logged} (λ (w : Operation). record { sender = s; target = w.send.target; count = w.send.count; words = message w.send } ∷ []) (known s o queued.runs)
      ∙ ap {B = List Logged} (λ (t : ℕ). record { sender = s; target = t; count = o.send.count; words = message o.send } ∷ []) queued.target
      ∙ sym (ap {B = List Logged} (λ (v : View). record { sender = v.outcome.source; target = r; count = v.outcome.count; words = v.words } ∷ []) shown)
  same-entry (some (aborts x c)) may after R = refl

-- all calls of a trace
same_logs : (n : ℕ) (trace : List Observed) (ops : ℕ → Operation) (s : State) (p : Machine) → Represents n s p → Known ops p → Trace s trace → send_log ops s trace ≡ receive_log s trace
unfolding send_log receive_log
same_logs n [] ops s p R known kept = refl
same_logs n (c ∷ cs) ops s p R known (kept, rest) =
    let here = call_simulated n c.call s p R in
    let e = entry c.call s in
    let left : Represents n c.after (play_entry n e p) = subst (λ (after : State). Represents n after (play_entry n e p)) (sym kept.leaves) here.represents in
    ap (λ (l : List Logged). l ++ send_log (begun_by e ops) c.after cs) (same-entry n ops p known e here.allowed c.after left)
    ∙ ap (λ (l : List Logged). received_at e c.after ++ l) (same_logs n cs (begun_by e ops) c.after _ left (entry_known n ops p known e here.allowed) rest)

-- a log is paired with itself
itself : (log : List Logged) → Pairing log log
itself log = record { to = λ i. i; from = λ i. i; there = λ i l. (l, refl); back = λ i l. (l, refl); equal = λ i l. refl; order = λ i k l h e. l }

-- "always agree as long as neither is above 512 entries"
pub one-run-agrees : OneRunAgrees
unfolding compare_answer unless
one-run-agrees n one few store fit trace t sends receives sent received =
    let s = state (new_table n) store in
    let R = first-represents n one few store fit in
    let log = receive_log s trace in
    let same : send_log (λ x. no_operation) s trace ≡ log = same_logs n trace (λ x. no_operation) s first_machine R (nothing_known (λ x. no_operation) first_machine (λ x. refl)) t in
    let sent' : Holds sends log = subst (Holds sends) same sent in
    rw (not-refused sends receives log (log_small n trace s first_machine R t) sent' received)
    (ap (λ (l : List Logged). compare l (entries_of receives)) sent'.says ∙ ap (compare log) received.says ∙ paired-agree log log (itself log))
