-- What a call that may run is owed and may rely on: its promise from what it answers and leaves, by the code's tests, and the places that it reads and writes.
use Rattle.std.specs.Prelude.{◌≡◌, ℕ, ◌+◌, ◌*◌, ◌<◌, ◌≤◌, true, false, ltb, List, [], length}
use mathlib.Core.Path.{refl, sym, ap, ◌∙◌, subst}
use native.Mathlib.Numerals.{add-one}
use native.Mathlib.Omega.{arith}
use borrow.Author.Tests.{le-leb, lt-leb, ltb-true, ltb-false}
use mir.Val.{Val}
use denote.Shadow.{shadow}
use Rattle.model.specs.declared.Operation.{Operation}
use Rattle.model.specs.declared.EntryPoint.TheVariants.{Main}
use Rattle.model.specs.declared.Thread.{Thread}
use Rattle.model.specs.declared.Rules.{Rules}
use Rattle.model.specs.declared.Table.{Table}
use Rattle.model.specs.declared.Answer.{Answer}
use Rattle.model.specs.declared.Answer.TheVariants.{Accepted, Marked, NothingToCancel}
use Rattle.model.specs.Answers.{replied, said}
use Rattle.model.specs.Codes.{no_receiver, code_only}
use Rattle.model.specs.Operations.{target_beyond}
use Rattle.model.specs.Phases.{lock, look}
use Rattle.model.specs.Threads.{with_rules, at, put, edit, edit_below, marked, ended}
use Rattle.model.specs.Queues.{joined}
use Rattle.model.specs.Store.{zeroed}
use Rattle.model.specs.WellFormed.{Shaped}
use Rattle.model.specs.Calls.{begun, begin_table, cancel_table, cancel_reply, ticked, tick_table, Call, begin, cancel, tick, load, State, accepted_reply, accepted_state}
use Rattle.model.specs.Refusals.{rows_of, refusal, table_rows, argument_rows, begin_rows, later_rows}
use Rattle.model.specs.Promise.{state, Promise}
use Rattle.model.proofs.Laws.{by, and_right}
use Rattle.model.specs.contracts.Table.{the_row}
use Rattle.model.proofs.Tested.{formed-few}
use Rattle.model.proofs.Free.{target-beyond}
use Rattle.laws.proofs.Refusals.{AcceptedBegin, accepted-table, accepted-begin, accepted-cancel}
use Rattle.laws.proofs.Calls.{accepted-next, accepted-answer, begins-to-send, begins-to-receive, cancel_marks, cancel_marks_reply, cancel-nothing, cancel-nothing-reply}
use Rattle.laws.proofs.Lists.{cond-true, cond-false}
use Rattle.laws.proofs.Tables.{put-own}
use Rattle.begins.specs.Begun.{joins, joined_thread, queue_joined, own_begun}
use Rattle.formed.proofs.Shape.{shaped}
use Rattle.formed.proofs.Neighbours.{quiet-in_idle, queue-room}
use Rattle.invariant.proofs.Keeps.{found-formed}

-- ---- every call
module _ (c : Call) (s : State) where
  -- a call that is not refused keeps its promise where it answers and leaves what an accepted call does
  pub performed : refusal c s ≡ 0 → (a : Answer) (after : State) → said a ≡ replied (accepted_reply c s) → after ≡ accepted_state c s → Promise c s a after
  performed e a after says leaves = record { answers = says ∙ sym (accepted-answer c s e); leaves = leaves ∙ sym (accepted-next c s e) }

  module _ (e : refusal c s ≡ 0) where
    -- a call that is not refused finds at most 32 threads
    pub accepted-few : s.table.n ≤ 32
    accepted-few = formed-few s.table (accepted-table c s e)

    -- its table's arrays are whole, as the table's type tells
    pub accepted-shaped : (vs : List Val) → shadow (the_row.own_val s.table vs) → Shaped s.table
    accepted-shaped vs typed = shaped s.table vs typed accepted-few

-- ---- begin
module _ (x : ℕ) (o : Operation) (s : State) (e : refusal (begin x o) s ≡ 0) where
  -- what it was tested for
  tested : AcceptedBegin s x o
  tested = accepted-begin Main x o s e

  -- the thread has a place in the array
  pub begin-place : x < 32
  begin-place = omega (arith, tested.below, accepted-few (begin x o) s e)

  -- and eight words in the store
  pub begin-words : 8 * x + 8 ≤ length s.store
  begin-words = omega (arith, tested.below, tested.store)

  -- a target in the table has a place in the array
  target-place : o.send.target < s.table.n → o.send.target < 32
  target-place near = omega (arith, accepted-few (begin x o) s e)

  -- and room in its queue
  target_room : Shaped s.table → o.send.target < s.table.n → (at s.table o.send.target).queue.len < 32
  target_room whole near = let F = found-formed (begin x o) s whole e in
      queue-room F x o.send.target tested.below near (quiet-in_idle F x tested.below tested.in_idle)

  module _ (words : List ℕ) (cleared : words ≡ zeroed x s.store) where
    -- the promise by the table that is left
    begin-performed : (after : Table) → after ≡ begin_table x o s.table → Promise (begin x o) s Accepted (state after words)
    unfolding accepted_reply accepted_state
    begin-performed after left = performed (begin x o) s e Accepted (state after words) refl (rw (left, cleared) refl)

    -- with a target of n or more: h is the thread that ended
    begin-beyond : o.send.present ≡ true → s.table.n ≤ o.send.target → (h : Thread) → h ≡ ended (code_only no_receiver) (at s.table x)
        → Promise (begin x o) s Accepted (state (put x h s.table) words)
    unfolding edit target_beyond
    begin-beyond sends far h is = begin-performed _ (rw is (sym (target-beyond x o s.table (rw (sends, le-leb s.table.n o.send.target far) refl))))

    -- with a target in the table: g is the target with the thread in its queue, h the thread that began
    begin-sends : o.send.present ≡ true → o.send.target < s.table.n → (g h : Thread) → g ≡ joined x (at s.table o.send.target)
        → h ≡ begun o lock (at (put o.send.target g s.table) x) → Promise (begin x o) s Accepted (state (put x h (put o.send.target g s.table)) words)
    unfolding edit target_beyond
    begin-sends sends near g h joins is = begin-performed _ (rw (is, joins) (sym (begins-to-send x o s.table (rw (sends, lt-leb s.table.n o.send.target near) refl) sends)))

    -- without a send part: h is the thread that began
    begin-receives : o.send.present ≡ false → (h : Thread) → h ≡ begun o look (at s.table x) → Promise (begin x o) s Accepted (state (put x h s.table) words)
    unfolding edit
    begin-receives alone h is = begin-performed _ (rw is (sym (begins-to-receive x o s.table alone)))

    -- ---- with n threads and the place j whose queue is joined, as the code has them: g is the thread there and h thread x, afterwards
    module _ (n : ℕ) (sized : s.table.n ≡ n) (j : ℕ) (g h : Thread) (joins-is : g ≡ queue_joined n x o (at s.table j)) (begins-is : h ≡ own_begun n o (at (put j g s.table) x)) where
      -- where no queue is joined, the table is still what it was
      none-joined : joins n o ≡ false → put j g s.table ≡ s.table
      unfolding queue_joined
      none-joined no-queue = ap (λ (k : Thread). put j k s.table) (joins-is ∙ cond-false _ _ _ no-queue) ∙ put-own j s.table

      -- with a target of n or more, or without a send part
      begin-alone : (k : Thread → Thread) → joins n o ≡ false → ((r : Thread) → own_begun n o r ≡ k r) → (h ≡ k (at s.table x) → Promise (begin x o) s Accepted (state (put x h s.table) words))
          → Promise (begin x o) s Accepted (state (put x h (put j g s.table)) words)
      begin-alone k no-queue does promised = subst (λ (u : Table). Promise (begin x o) s Accepted (state (put x h u) words)) (sym (none-joined no-queue))
          (promised (begins-is ∙ does _ ∙ ap (λ (u : Table). k (at u x)) (none-joined no-queue)))

      -- the promise
      pub begin-leaves : j ≡ joined_thread n x o → Promise (begin x o) s Accepted (state (put x h (put j g s.table)) words)
      unfolding joins joined_thread queue_joined own_begun
      begin-leaves place = by o.send.present
          (λ sends. by (ltb o.send.target n)
          (λ near. let joining : joins n o ≡ true = rw (sends, near) refl in
          let is : j ≡ o.send.target = place ∙ cond-true _ _ _ joining in
          rw is (begin-sends sends (omega (arith, ltb-true o.send.target n near, sized)) g h
          (joins-is ∙ cond-true _ _ _ joining ∙ ap (λ (k : ℕ). joined x (at s.table k)) is)
          (begins-is ∙ cond-true _ _ _ sends ∙ cond-true _ _ _ near ∙ ap (λ (k : ℕ). begun o lock (at (put k g s.table) x)) is)))
          (λ far. begin-alone (λ r. ended (code_only no_receiver) r) (rw (sends, far) refl) (λ r. cond-true _ _ _ sends ∙ cond-false _ _ _ far) (begin-beyond sends (omega (arith, ltb-false o.send.target n far, sized)) h)))
          (λ alone. begin-alone (λ r. begun o look r) (rw alone refl) (λ r. cond-false _ _ _ alone) (begin-receives alone h))

  -- the thread whose queue is joined
  module _ (n : ℕ) (sized : s.table.n ≡ n) (j : ℕ) (is : j ≡ joined_thread n x o) where
    -- has a place in the array
    pub joined-in_array : j < 32
    unfolding joins joined_thread
    joined-in_array = rw is (by o.send.present
        (λ sends. by (ltb o.send.target n)
        (λ near. rw (sends, near) (target-place (omega (arith, ltb-true o.send.target n near, sized))))
        (λ far. rw (sends, far) begin-place))
        (λ alone. rw alone begin-place))

    -- and room in its queue
    pub joined-room : Shaped s.table → joins n o ≡ true → (at s.table j).queue.len < 32
    unfolding joins joined_thread
    joined-room whole joining = rw (is ∙ cond-true _ _ _ joining) (target_room whole (omega (arith, ltb-true o.send.target n (and_right o.send.present _ joining), sized)))

-- ---- cancel
-- the thread has a place in the array
pub cancel-place : (x : ℕ) (s : State) → refusal (cancel x) s ≡ 0 → x < 32
cancel-place x s e = omega (arith, (accepted-cancel x s e).below, accepted-few (cancel x) s e)

module _ (x : ℕ) (t : Table) (e : refusal (cancel x) (state t []) ≡ 0) where
  -- the promise by the answer and the table that is left, whatever the store
  cancel-performed : (a : Answer) (after : Table) → said a ≡ replied (cancel_reply x t) → after ≡ cancel_table x t → (store : List ℕ) → Promise (cancel x) (state t store) a (state after store)
  unfolding accepted_reply accepted_state refusal rows_of table_rows argument_rows begin_rows later_rows
  cancel-performed a after says left store = performed (cancel x) (state t store) e a (state after store) says (ap (λ (u : Table). state u store) left)

  -- of a running operation: h is the thread with its mark
  pub cancel-running : (at t x).flags.ipc ≡ true → (h : Thread) → h ≡ marked (at t x) → (store : List ℕ) → Promise (cancel x) (state t store) Marked (state (put x h t) store)
  unfolding edit
  cancel-running runs h is = cancel-performed Marked _ (ap replied (sym (cancel_marks_reply x t runs))) (ap (λ (k : Thread). put x k t) is ∙ sym (cancel_marks x t runs))

  -- where nothing runs
  pub cancel-over : (at t x).flags.ipc ≡ false → (store : List ℕ) → Promise (cancel x) (state t store) NothingToCancel (state t store)
  cancel-over over = cancel-performed NothingToCancel t (ap replied (sym (cancel-nothing-reply x t over))) (sym (cancel-nothing x t over))

-- ---- tick
module _ (t : Table) where
  -- the promise by the table that is left, whatever the store
  pub tick-performed : refusal tick (state t []) ≡ 0 → (after : Table) → after ≡ tick_table t → (store : List ℕ) → Promise tick (state t store) Accepted (state after store)
  unfolding accepted_reply accepted_state refusal rows_of table_rows argument_rows begin_rows later_rows
  tick-performed e after left store = performed tick (state t store) e Accepted (state after store) refl (ap (λ (u : Table). state u store) left)

  -- no thread is ticked yet
  pub none-ticked : t ≡ edit_below 0 ticked t
  unfolding edit_below
  none-ticked = refl

  -- one more thread is ticked: h is thread i
  pub one-more-ticked : (now : Table) (i : ℕ) (h : Thread) → now ≡ edit_below i ticked t → h ≡ ticked (at now i) → put i h now ≡ edit_below (i + 1) ticked t
  unfolding edit_below edit
  one-more-ticked now i h so is = rw (add-one, is, so) refl

  -- all are ticked
  pub all-ticked : (now : Table) (i : ℕ) → now ≡ edit_below i ticked t → i ≡ t.n → now ≡ tick_table t
  unfolding tick_table
  all-ticked now i so all = so ∙ ap (λ (k : ℕ). edit_below k ticked t) all

-- ---- loading rules
-- the promise, whatever the store
pub load-performed : (rules : Rules) (t : Table) → refusal (load rules) (state t []) ≡ 0 → (store : List ℕ) → Promise (load rules) (state t store) Accepted (state (with_rules rules t) store)
unfolding refusal rows_of later_rows accepted_reply accepted_state
load-performed rules t e store = performed (load rules) (state t store) e Accepted (state (with_rules rules t) store) refl refl
