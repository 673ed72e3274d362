-- What a call answers and leaves in each of its cases: refused and not, the three of begin and the two of cancel; that a step's answer does not depend on the words of a store; and which rules are loaded then.
use mathlib.Core.Path.{◌≡◌, refl, sym, ap, ◌∙◌, subst}
use mathlib.Core.Bool.{true, false, ◌&&◌}
use mathlib.Core.Option.{none}
use mathlib.Core.List.{List, ◌++◌}
use Prim.Native.Nat.{ℕ, suc, ◌*◌, ◌<◌}
use native.Mathlib.Omega.{arith}
use lib.ListN.{length, replicate, length-replicate}
use lib.Dec.{leb}
use borrow.Author.Tests.{leb-false}
use Rattle.model.specs.declared.Operation.{Operation}
use Rattle.model.specs.declared.Rules.{Rules}
use Rattle.model.specs.declared.Table.{Table}
use Rattle.model.specs.declared.Answer.{Answer}
use Rattle.model.specs.Answers.{Reply, nothing_to_cancel, refused, replied, said}
use Rattle.model.specs.Codes.{no_receiver, code_only}
use Rattle.model.specs.Operations.{target_beyond}
use Rattle.model.specs.Phases.{lock, look}
use Rattle.model.specs.Threads.{at, edit, marked, ended}
use Rattle.model.specs.Queues.{joined}
use Rattle.model.specs.Step.{decide, reply_of}
use Rattle.model.specs.Calls.{begun, begin_table, cancel_table, cancel_reply, Call, begin_via, step, cancel, tick, load, State, accepted_reply, accepted_state}
use Rattle.model.specs.Refusals.{first_refusal, unless, table_rows, argument_rows, later_rows, rows_of, refusal}
use Rattle.model.specs.Promise.{answer, next, state, Promise}
use Rattle.model.specs.Linearized.{accepted_entry, entry}
use Rattle.model.specs.Rest.{tried}
use Rattle.model.proofs.Laws.{by}
use Rattle.laws.proofs.Lists.{cond-true, cond-false, zero_or_not}
use Rattle.model.proofs.Free.{target-beyond}

-- ---- every call
module _ {ℓ} {A : Type ℓ} where
  -- where the refusal is 0, the accepted value is returned
  unless-accepted : (g : ℕ) (f : ℕ → A) (a : A) → g ≡ 0 → unless g f a ≡ a
  unfolding unless
  unless-accepted g f a e = rw e refl

  -- where it is another number, what is returned of that number
  unless-refused : (g : ℕ) (f : ℕ → A) (a : A) (k : ℕ) → g ≡ suc k → unless g f a ≡ f (suc k)
  unfolding unless
  unless-refused g f a k e = rw e refl

module _ (c : Call) (s : State) where
  -- a call is refused or not
  pub accepted? {ℓ} : {P : Type ℓ} → (refusal c s ≡ 0 → P) → ((g : ℕ) → refusal c s ≡ suc g → P) → P
  accepted? = zero_or_not (refusal c s)

  -- an accepted call leaves its state
  pub accepted-next : refusal c s ≡ 0 → next c s ≡ accepted_state c s
  unfolding next
  accepted-next e = unless-accepted (refusal c s) _ _ e

  -- and gives its reply
  pub accepted-answer : refusal c s ≡ 0 → answer c s ≡ replied (accepted_reply c s)
  unfolding answer
  accepted-answer e = unless-accepted (refusal c s) _ _ e

  -- and its entry stands in the linearization
  pub accepted-entry : refusal c s ≡ 0 → entry c s ≡ accepted_entry c s
  unfolding entry
  accepted-entry e = unless-accepted (refusal c s) _ _ e

  -- a refused call changes nothing
  pub refused-next : (g : ℕ) → refusal c s ≡ suc g → next c s ≡ s
  unfolding next
  refused-next g e = unless-refused (refusal c s) _ _ g e

  -- and answers the refusal
  pub refused-answer : (g : ℕ) → refusal c s ≡ suc g → answer c s ≡ refused (suc g)
  unfolding answer
  refused-answer g e = unless-refused (refusal c s) _ _ g e

  -- and has no event in the linearization
  pub refused-entry : (g : ℕ) → refusal c s ≡ suc g → entry c s ≡ none
  unfolding entry
  refused-entry g e = unless-refused (refusal c s) _ _ g e

  -- what holds of the accepted state, and of the state as it was, holds of what the call leaves
  pub next-cases {ℓ} : (P : State → Type ℓ) → (refusal c s ≡ 0 → P (accepted_state c s)) → P s → P (next c s)
  next-cases P f same = accepted? (λ e. subst P (sym (accepted-next e)) (f e)) (λ g e. subst P (sym (refused-next g e)) same)

  -- a call that answers a refusal has changed nothing
  pub refused-unchanged : (a : Answer) (after : State) → Promise c s a after → (g : ℕ) → said a ≡ refused g → after ≡ s
  refused-unchanged a after kept g e = accepted?
      (λ i. let z : replied (accepted_reply c s) ≡ refused g = sym (accepted-answer i) ∙ sym kept.answers ∙ e in absurd (not-refused z))
      (λ k i. kept.leaves ∙ refused-next k i)
    where
      not-refused : {r : Reply} → replied r ≡ refused g → ⊥
      not-refused z = let o : ◌≡◌ {A = ℕ} 0 1 = cc in absurd (omega arith)

-- ---- step
-- what a step answers depends on the length of the store, and not on its words
step-answer-same : (t : Table) (x : ℕ) (a b : List ℕ) → length a ≡ length b → answer (step x) (state t a) ≡ answer (step x) (state t b)
unfolding answer refusal rows_of later_rows accepted_reply
step-answer-same t x a b e = ap (λ (k : ℕ). unless (first_refusal (table_rows t ++ argument_rows t x k)) refused (replied (reply_of (decide t x)))) e

-- so with a store of the right length it is what it is when the step is tried
pub answers_as_tried : (t : Table) (x : ℕ) (store : List ℕ) → length store ≡ 8 * t.n → answer (step x) (state t store) ≡ answer (step x) (tried t)
answers_as_tried t x store fit = step-answer-same t x store (replicate (8 * t.n) 0) (fit ∙ sym (length-replicate (8 * t.n) 0))

-- ---- begin
-- the target of a send part is in the table unless it is beyond
pub target_near : (n : ℕ) (o : Operation) → o.send.present ≡ true → target_beyond n o ≡ false → o.send.target < n
unfolding target_beyond
target_near n o sends e = leb-false n o.send.target (rw sends at e)

module _ (x : ℕ) (o : Operation) (t : Table) where
  -- with a send part the thread joins its target's queue
  pub begins-to-send : target_beyond t.n o ≡ false → o.send.present ≡ true → begin_table x o t ≡ edit x (begun o lock) (edit o.send.target (joined x) t)
  unfolding begin_table
  begins-to-send near sends = cond-false (target_beyond t.n o) _ _ near ∙ cond-true o.send.present _ _ sends

  -- without one it looks for a sender
  pub begins-to-receive : o.send.present ≡ false → begin_table x o t ≡ edit x (begun o look) t
  unfolding begin_table target_beyond
  begins-to-receive alone = cond-false (o.send.present && leb t.n o.send.target) _ _ (rw alone refl) ∙ cond-false o.send.present _ _ alone

  -- what holds in each of the three cases holds of a begin
  pub begin-cases {ℓ} : (P : Table → Type ℓ)
      → (target_beyond t.n o ≡ true → P (edit x (ended (code_only no_receiver)) t))
      → (target_beyond t.n o ≡ false → o.send.present ≡ true → o.send.target < t.n → P (edit x (begun o lock) (edit o.send.target (joined x) t)))
      → (target_beyond t.n o ≡ false → o.send.present ≡ false → P (edit x (begun o look) t))
      → P (begin_table x o t)
  begin-cases P far near receives =
      by (target_beyond t.n o)
      (λ e. subst P (sym (target-beyond x o t e)) (far e))
      (λ e. by o.send.present
      (λ sends. subst P (sym (begins-to-send e sends)) (near e sends (target_near t.n o sends e)))
      (λ alone. subst P (sym (begins-to-receive alone)) (receives e alone)))

-- ---- cancel
module _ (x : ℕ) (t : Table) where
  -- a cancel of a running operation sets the mark
  pub cancel_marks : (at t x).flags.ipc ≡ true → cancel_table x t ≡ edit x marked t
  unfolding cancel_table
  cancel_marks runs = cond-true (at t x).flags.ipc _ _ runs

  -- and says so
  pub cancel_marks_reply : (at t x).flags.ipc ≡ true → cancel_reply x t ≡ Reply.marked
  unfolding cancel_reply
  cancel_marks_reply runs = cond-true (at t x).flags.ipc _ _ runs

  -- where nothing runs it changes nothing
  pub cancel-nothing : (at t x).flags.ipc ≡ false → cancel_table x t ≡ t
  unfolding cancel_table
  cancel-nothing over = cond-false (at t x).flags.ipc _ _ over

  -- and says that there is nothing to cancel
  pub cancel-nothing-reply : (at t x).flags.ipc ≡ false → cancel_reply x t ≡ nothing_to_cancel
  unfolding cancel_reply
  cancel-nothing-reply over = cond-false (at t x).flags.ipc _ _ over

  -- what holds in both cases holds of a cancel
  pub cancel-cases {ℓ} : (P : Table → Type ℓ) → ((at t x).flags.ipc ≡ true → P (edit x marked t)) → ((at t x).flags.ipc ≡ false → P t) → P (cancel_table x t)
  cancel-cases P runs over = by (at t x).flags.ipc (λ e. subst P (sym (cancel_marks e)) (runs e)) (λ e. subst P (sym (cancel-nothing e)) (over e))

-- ---- loadings
-- the rules after an accepted call: a loading's own, else as they were
abbrev pub rules_after : Call → Rules → Rules
rules_after (begin_via via x o) rules = rules
rules_after (step x) rules = rules
rules_after (cancel x) rules = rules
rules_after tick rules = rules
rules_after (load loaded) rules = loaded
