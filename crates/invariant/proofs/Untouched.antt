-- What a call leaves alone: the threads from N on, and all words but those of a thread that begins or is copied to.
use mathlib.Core.Path.{◌≡◌, refl, sym, ap, ◌∙◌, subst}
use mathlib.Core.Logic.{◌⊎◌, inl, inr, ⊎_elim}
use mathlib.Core.Bool.{true}
use mathlib.Core.List.{List}
use Prim.Native.Nat.{ℕ, ◌≤◌, ◌<◌}
use native.Mathlib.Omega.{arith}
use lib.ListN.{length}
use borrow.Author.Tests.{leb-true}
use Rattle.model.specs.declared.Operation.{Operation}
use Rattle.model.specs.declared.EntryPoint.{EntryPoint}
use Rattle.model.specs.declared.Thread.{Thread}
use Rattle.model.specs.declared.Table.{Table}
use Rattle.model.specs.Lists.{update}
use Rattle.model.specs.Operations.{word_limit}
use Rattle.model.specs.Phases.{is_one_of, copy, phase_of, phase_number}
use Rattle.model.specs.Threads.{at, edit}
use Rattle.model.specs.Queues.{joined}
use Rattle.model.specs.Store.{words_at, word_copied}
use Rattle.model.specs.WellFormed.{in_phase, send_in_range, numbers_in_range, send_and_mark_with_ipc, senders_send_set, Shaped, WellFormed}
use Rattle.model.specs.Step.{copy_word, decide, other_after, act, store_after}
use Rattle.model.specs.Calls.{ticked, begin_table, cancel_table, tick_table, Call, begin_via, step, cancel, tick, load, State, accepted_state}
use Rattle.model.specs.Refusals.{refusal}
use Rattle.model.specs.Promise.{next}
use Rattle.model.proofs.Laws.{same?, implies-read, all_of-read}
use Rattle.model.proofs.Tested.{well_formed-told}
use Rattle.laws.proofs.Phases.{phase-number}
use Rattle.laws.proofs.Lists.{update_same, update_other}
use Rattle.laws.proofs.Tables.{edit-other, below-beyond}
use Rattle.laws.proofs.Store.{words-zeroed-other, words-copied-other, step-store}
use Rattle.laws.proofs.Decided.{TestedFor, decided, other_of}
use Rattle.laws.proofs.Refusals.{accepted-table, accepted-begin, accepted-step, accepted-cancel}
use Rattle.laws.proofs.Calls.{next-cases, begin-cases, cancel-cases}
use Rattle.formed.proofs.Formed.{Formed}
use Rattle.invariant.proofs.Steps.{other-in-table, act_changes}
use Rattle.invariant.proofs.Keeps.{found-formed}

-- ---- the threads from N on
-- begin
begin-beyond : (x : ℕ) (o : Operation) (t : Table) → x < t.n → (y : ℕ) → t.n ≤ y → at (begin_table x o t) y ≡ at t y
begin-beyond x o t xn y l = begin-cases x o t (λ after. at after y ≡ at t y)
    (λ far. edit-other x _ t y (omega arith))
    (λ near sends below. edit-other x _ (edit o.send.target (joined x) t) y (omega arith) ∙ edit-other o.send.target (joined x) t y (omega arith))
    (λ near alone. edit-other x _ t y (omega arith))

-- step
step-beyond : (x : ℕ) (t : Table) → length t.threads ≡ 32 → Formed t.n (at t) → x < t.n → (y : ℕ) → t.n ≤ y → at (act (decide t x) x t) y ≡ at t y
step-beyond x t whole F xn y l =
    let a = decide t x in
    let r = other_of a (at t x) in
    ap (λ (T : ℕ → Thread). T y) (act_changes t F x xn whole a (decided t x))
    ∙ update_other (update (at t) r (other_after a x (at t x) (at t r))) x _ y (omega arith)
    ∙ ⊎_elim
    (λ rn. update_other (at t) r _ y (omega arith))
    (λ e. same? y r
    (λ i. rw (i, update_same) e)
    (λ d. update_other (at t) r _ y d))
    (other-in-table t F x xn a (decided t x))

-- cancel
cancel-beyond : (x : ℕ) (t : Table) → x < t.n → (y : ℕ) → t.n ≤ y → at (cancel_table x t) y ≡ at t y
cancel-beyond x t xn y l = cancel-cases x t (λ after. at after y ≡ at t y) (λ runs. edit-other x _ t y (omega arith)) (λ over. refl)

-- every accepted call
accepted-beyond : (c : Call) (s : State) → Shaped s.table → refusal c s ≡ 0 → (y : ℕ) → s.table.n ≤ y → at (accepted_state c s).table y ≡ at s.table y
unfolding accepted_state tick_table
accepted-beyond (begin_via via x o) s z e y l = begin-beyond x o s.table (accepted-begin via x o s e).below y l
accepted-beyond (step x) s z e y l = step-beyond x s.table z.threads (found-formed (step x) s z e) (accepted-step x s e).below y l
accepted-beyond (cancel x) s z e y l = cancel-beyond x s.table (accepted-cancel x s e).below y l
accepted-beyond tick s z e y l = below-beyond ticked s.table s.table.n y l
accepted-beyond (load rules) s z e y l = unfold at in refl

-- no call changes a thread that is not in use; the arrays' lengths are asked because `Formed`, which tells that a step's other thread is in
-- the table, has them
pub next-beyond : (c : Call) (s : State) → Shaped s.table → (y : ℕ) → s.table.n ≤ y → at (next c s).table y ≡ at s.table y
next-beyond c s z y l = next-cases c s (λ after. at after.table y ≡ at s.table y) (λ e. accepted-beyond c s z e y l) refl

-- ---- the words of thread y
-- the calls that write them: its own begin, and a step that copies a word to it
pub data Writes (s : State) (y : ℕ) : Call → Type 0 where
  begins : (via : EntryPoint) (o : Operation) → refusal (begin_via via y o) s ≡ 0 → Writes s y (begin_via via y o)
  copies : (x : ℕ) → refusal (step x) s ≡ 0 → decide s.table x ≡ copy_word → (at s.table x).op.send.target ≡ y → Writes s y (step x)

-- the message of a thread in copy is short enough, whatever the lengths of the table's arrays
copied-count : (t : Table) → WellFormed t → (x : ℕ) → x < t.n → phase_of (at t x).phase ≡ copy → (at t x).op.send.count ≤ word_limit
unfolding numbers_in_range send_in_range send_and_mark_with_ipc senders_send_set in_phase is_one_of
copied-count t w x xn c =
    let h = at t x in
    let (phase, (in_range, (receives, (part, more)))) = all_of-read _ (w.numbers x xn) in
    let k : h.phase ≡ phase_number copy = phase-number h.phase (leb-true h.phase 8 phase) copy c in
    let sends : h.flags.send ≡ true = implies-read _ _ (w.send_set x xn) (rw k refl) in
    let runs : h.flags.ipc ≡ true = implies-read _ _ (w.send_and_mark x xn) (rw sends refl) in
    let (below, (count, end)) = all_of-read _ (implies-read _ _ (implies-read _ _ in_range runs) (implies-read _ _ part sends)) in
    leb-true h.op.send.count word_limit count

-- a step that copies a word has room for it
copied-below : (x : ℕ) (s : State) → refusal (step x) s ≡ 0 → decide s.table x ≡ copy_word → (at s.table x).copied < word_limit
copied-below x s e i =
    let f : TestedFor s.table x copy_word = subst (TestedFor s.table x) i (decided s.table x) in
    omega (arith, f.1, copied-count s.table (well_formed-told s.table (accepted-table (step x) s e)) x (accepted-step x s e).below f.0)

-- every accepted call
accepted-words : (c : Call) (s : State) → refusal c s ≡ 0 → (y : ℕ) → (words_at (accepted_state c s).store y ≡ words_at s.store y) ⊎ Writes s y c
unfolding accepted_state
accepted-words (begin_via via x o) s e y = same? y x
    (λ i. inr (subst (λ (k : ℕ). Writes s y (begin_via via k o)) i (begins via o (rw i e))))
    (λ d. inl (words-zeroed-other s.store x y d))
accepted-words (step x) s e y = ⊎_elim
    (λ same. inl (ap (λ (store : List ℕ). words_at store y) same))
    (λ (word : (decide s.table x ≡ copy_word) × (store_after (decide s.table x) (at s.table x) s.store ≡ word_copied (at s.table x) s.store)).
    same? y (at s.table x).op.send.target
    (λ i. inr (copies x e word.0 (sym i)))
    (λ d. inl (ap (λ (store : List ℕ). words_at store y) word.1 ∙ words-copied-other (at s.table x) s.store y d (copied-below x s e word.0))))
    (step-store (decide s.table x) (at s.table x) s.store)
accepted-words (cancel x) s e y = inl refl
accepted-words tick s e y = inl refl
accepted-words (load rules) s e y = inl refl

-- no other call changes them
pub next-words : (c : Call) (s : State) (y : ℕ) → (words_at (next c s).store y ≡ words_at s.store y) ⊎ Writes s y c
next-words c s y = next-cases c s (λ after. (words_at after.store y ≡ words_at s.store y) ⊎ Writes s y c) (λ e. accepted-words c s e y) (inl refl)
