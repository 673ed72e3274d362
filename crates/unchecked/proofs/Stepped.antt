-- A step on two threads of a table and a slice of the store is the step of the table and the store.
use Rattle.std.specs.Prelude.{◌≡◌, Option, Some, None, unwrap_or, ℕ, ◌+◌, ◌-◌, ◌*◌, ◌<◌, ◌≤◌, true, cond, ltb, ◌≢◌, ◌⊎◌, List, length, get_or, set, ℤ}
use mathlib.Core.Path.{refl, sym, ◌∙◌, ap, subst}
use mathlib.Core.Logic.{inl, inr, ⊎_elim}
use mathlib.Core.Bool.{false≢true}
use mathlib.Core.Option as maybe
use native.Mathlib.Omega.{arith}
use borrow.Author.Tests.{eq-eqb, ne_eqb, ltb-true, ltb-false}
use borrow.Rule.Slice.PartMut.{mid_of, put_mid, put_same, set_mid_at, mid_len}
use Rattle.model.specs.declared.Thread.{Thread}
use Rattle.model.specs.declared.Table.{Table}
use Rattle.model.specs.declared.Answer.TheVariants.{Held}
use Rattle.model.specs.Answers.{held, replied}
use Rattle.model.specs.Codes.{receive_cancelled, send_cancelled, send_time_over, nobody}
use Rattle.model.specs.Operations.{has_receive}
use Rattle.model.specs.Phases.{Phase, idle, lock, check, copy, release, sleep, look, wake, unlock, unknown, phase_of, phase_number}
use Rattle.model.specs.Threads.{at, put}
use Rattle.model.specs.Locks.{lock_free}
use Rattle.model.specs.Queues.{find_sender}
use Rattle.model.specs.WellFormed.{Shaped}
use Rattle.model.specs.Step.{Action, abort_send, abort_receive, to_idle, copy_word, stay, other, look_at, decide_in, decide, reply_of, own_after, other_after, act, store_after}
use Rattle.model.specs.Store.{word_copied}
use Rattle.model.specs.Calls.{step, State, accepted_reply, accepted_state}
use Rattle.model.specs.Refusals.{refusal}
use Rattle.model.specs.Promise.{Promise, state}
use Rattle.model.proofs.Laws.{by, same?}
use Rattle.laws.proofs.Lists.{cond-true, cond-false}
use Rattle.laws.proofs.Tables.{put-own, put-over, put-nowhere}
use Rattle.laws.proofs.Search.{found-queued}
use Rattle.laws.proofs.Decided.{other-in, decided, TestedFor}
use Rattle.laws.proofs.Store.{step-store}
use Rattle.laws.proofs.Refusals.{accepted-step}
use Rattle.formed.proofs.Facts.{count_small, queue-small}
use Rattle.formed.proofs.Formed.{Formed}
use Rattle.formed.proofs.Neighbours.{below-nobody, number, sends-in_check, sends-in_copy, target-in_lock, target-in_check, target-in_copy, target-in_release, woken_in_wake, woken_in_unlock, queued-sends, queued-at-target}
use Rattle.invariant.proofs.Keeps.{found-formed}
use Rattle.actions.specs.declared.Change.{Change}
use Rattle.actions.specs.declared.Ending.{Ending}
use Rattle.actions.specs.declared.Ending.TheVariants.{SendCancelled, SendTimeOver, CallFinished, SendFinished, ReceiveCancelled, ReceiveTimeOver}
use Rattle.actions.specs.Acted.{own_changed, other_changed, action_of, Acted}
use Rattle.actions.proofs.Endings.{told-fields, told-ending}
use Rattle.endings.specs.Ended.{Ended, Waits, ends_send}
use Rattle.phases.specs.Fit.{partner, found_as, Fit, FitAs, word_added, words_after}
use Rattle.laws.proofs.Decisions.{in_number, copy-word, copy-calls, copy-sends}
use Rattle.phases.proofs.Settled.{words-kept, words_copied}
use Rattle.phases.proofs.Partners.{partner-in, alone-nobody, partner-unfound, partner-found}
use Rattle.unchecked.specs.Places.{or_own}
use Rattle.unchecked.proofs.Performed.{performed}

-- where there is another thread, it is the one that is read
read-other : (o : Option ℕ) (x k : ℕ) → o ≡ Some k → unwrap_or o x ≡ k
read-other o x k e = ap (λ (q : Option ℕ). unwrap_or q x) e

-- where there is none, the own thread is
read-own : (o : Option ℕ) (x : ℕ) → o ≡ None → unwrap_or o x ≡ x
read-own o x e = ap (λ (q : Option ℕ). unwrap_or q x) e

-- the same by a number, where nobody's tells none
pub or-other : (o x n : ℕ) → n ≤ nobody → o < n → or_own o x ≡ o
unfolding or_own
or-other o x n few h = cond-false _ _ _ (ne_eqb o nobody (λ e. omega arith))

pub or-own : (o x : ℕ) → o ≡ nobody → or_own o x ≡ x
unfolding or_own
or-own o x e = cond-true _ _ _ (eq-eqb _ _ e)

-- ---- what a well-formed table tells of thread x and the other thread of its step
module _ (t : Table) (F : Formed t.n (at t)) (x : ℕ) (xn : x < t.n) where
  -- the stepped thread
  abbrev own : Thread
  own = at t x

  -- the thread that a step reads as the other one
  abbrev place : ℕ
  place = unwrap_or (partner own) x

  -- there is no other thread, and none matters for the decision
  abbrev Alone : Type 0
  Alone = (partner own ≡ None) × ((r q : Thread) → decide_in (phase_of own.phase) x own r ≡ decide_in (phase_of own.phase) x own q)

  -- there is one, and it is in the table
  abbrev Beside : Type 0
  Beside = (partner own ≡ Some (other own)) × (other own < t.n)

  -- a phase with no other thread is alone
  alone_in : (p : Phase) → phase_of own.phase ≡ p → partner own ≡ None → ((r q : Thread) → decide_in p x own r ≡ decide_in p x own q) → Alone
  alone_in p e o same = (o, λ r q. ap (λ (k : Phase). decide_in k x own r) e ∙ same r q ∙ sym (ap (λ (k : Phase). decide_in k x own q) e))

  -- a look that finds no sender decides by the thread alone
  look-alone : (r : Thread) → find_sender own ≡ maybe.none → decide_in look x own r ≡ cond own.flags.ipc (cond own.flags.mark (abort_receive receive_cancelled) (look_at own own maybe.none)) to_idle
  unfolding decide_in look_at
  look-alone r e = ap (λ (o : maybe.Option ℕ). cond own.flags.ipc (cond own.flags.mark (abort_receive receive_cancelled) (look_at own r o)) to_idle) e

  -- a phase with one is beside it
  beside_in : (k : ℕ) → partner own ≡ Some k → other own ≡ k → k < t.n → Alone ⊎ Beside
  beside_in k e is below = inr (rw is (e, below))

  -- in look the other thread is a queued sender, or there is none
  look-other : phase_of own.phase ≡ look → (o : maybe.Option ℕ) → find_sender own ≡ o → Alone ⊎ Beside
  look-other e maybe.none f = inl (alone_in look e (partner-unfound own e f) (λ r q. look-alone r f ∙ sym (look-alone q f)))
  look-other e (maybe.some s) f = beside_in s (partner-found own e s f) (other-in own look e ∙ ap (λ (o : maybe.Option ℕ). maybe.get_or o nobody) f) (queued-sends F x s xn (found-queued own s f)).0

  -- the other thread of a step is in the table, or there is none
  pub other-or-alone : Alone ⊎ Beside
  unfolding decide_in
  other-or-alone = go (phase_of own.phase) refl
    where
      go : (p : Phase) → phase_of own.phase ≡ p → Alone ⊎ Beside
      go idle e = inl (alone_in idle e (partner-in own idle e) (λ r q. refl))
      go lock e = beside_in _ (partner-in own lock e) (other-in own lock e) (target-in_lock F x xn e).below
      go check e = beside_in _ (partner-in own check e) (other-in own check e) (target-in_check F x xn e).below
      go copy e = beside_in _ (partner-in own copy e) (other-in own copy e) (target-in_copy F x xn e).below
      go release e = beside_in _ (partner-in own release e) (other-in own release e) (target-in_release F x xn e).below
      go sleep e = inl (alone_in sleep e (partner-in own sleep e) (λ r q. refl))
      go look e = look-other e (find_sender own) refl
      go wake e = beside_in _ (partner-in own wake e) (other-in own wake e) (woken_in_wake F x xn e).below
      go unlock e = beside_in _ (partner-in own unlock e) (other-in own unlock e) (woken_in_unlock F x xn e).below
      go unknown e = inl (alone_in unknown e (partner-in own unknown e) (λ r q. refl))

  -- the thread that is read as the other one is in the table
  pub place-below : place < t.n
  place-below = ⊎_elim (λ a. rw (read-own (partner own) x a.0) xn) (λ l. rw (read-other (partner own) x _ l.0) l.1) other-or-alone

  -- it is the one that the other thread's number tells
  pub place-own : place ≡ or_own (other own) x
  place-own = ⊎_elim
      (λ a. read-own (partner own) x a.0 ∙ sym (or-own (other own) x (alone-nobody own a.0)))
      (λ l. read-other (partner own) x _ l.0 ∙ sym (or-other (other own) x t.n (below-nobody F) l.1))
      other-or-alone

  -- a thread that sends to its other thread waits there
  waits-at : own.flags.send ≡ true → partner own ≡ Some own.op.send.target → own.op.send.target < t.n → Waits x (at t place)
  waits-at sends is below =
      rw (read-other (partner own) x _ is)
      (record { few = queue-small (F.own own.op.send.target below); there = queued-at-target F x xn sends })

  -- so does one in check
  pub waits-in-check : phase_of own.phase ≡ check → Waits x (at t place)
  waits-in-check e = waits-at (sends-in_check F x xn e) (partner-in own check e) (target-in_check F x xn e).below

  -- and one in copy
  pub waits-in-copy : phase_of own.phase ≡ copy → Waits x (at t place)
  waits-in-copy e = waits-at (sends-in_copy F x xn e) (partner-in own copy e) (target-in_copy F x xn e).below

  -- the step on two threads has what it relies on
  pub fits : Fit (partner own) own
  fits = record {
    counts = λ e. count_small (F.own x xn) (sends-in_copy F x xn e);
    finds = λ e. partner-in own look e;
  }

  -- what the search has found is the other thread: no sender that is found has nobody's number
  found-other : phase_of own.phase ≡ look → (o : maybe.Option ℕ) → find_sender own ≡ o → find_sender own ≡ found_as (other own)
  unfolding found_as
  found-other e maybe.none f = f ∙ sym (cond-true _ _ _ (eq-eqb (other own) nobody (other-in own look e ∙ ap (λ (o : maybe.Option ℕ). maybe.get_or o nobody) f)))
  found-other e (maybe.some s) f =
      let is : other own ≡ s = other-in own look e ∙ ap (λ (o : maybe.Option ℕ). maybe.get_or o nobody) f in
      let below = (queued-sends F x s xn (found-queued own s f)).0 in
      let few = below-nobody F in
      f ∙ sym (ap (λ (o : ℕ). found_as o) is ∙ cond-false _ _ _ (ne_eqb s nobody (λ k. omega arith)))

  -- so has it by the other thread's number
  pub fits-as : FitAs (other own) own
  fits-as = record {
    counts = fits.counts;
    finds = λ e. found-other e (find_sender own) refl;
  }

  -- ---- what the two threads come to in the table
  -- the decision is that of the thread that is read as the other one
  pub decision : own.owner ≡ nobody → decide t x ≡ decide_in (phase_of own.phase) x own (at t place)
  unfolding decide lock_free
  decision free = cond-true _ _ _ (eq-eqb own.owner nobody free) ∙ ⊎_elim
      (λ a. a.1 (at t (other own)) (at t place))
      (λ l. ap (λ (o : ℕ). decide_in (phase_of own.phase) x own (at t o)) (sym (read-other (partner own) x _ l.0)))
      other-or-alone

  -- the two threads put back are the table after the action
  pub put_back : (a : Action) → length t.threads ≡ 32 → put x (own_after a own) (put place (other_after a x own (at t place)) t) ≡ act a x t
  unfolding act
  put_back a whole = ⊎_elim
      (λ e. over place (read-own (partner own) x e.0) ∙ sym (ap (put x (own_after a own)) (put-nowhere (other own) _ t (out (alone-nobody own e.0)))))
      (λ l. ap (λ (o : ℕ). put x (own_after a own) (put o (other_after a x own (at t o)) t)) (read-other (partner own) x _ l.0))
      other-or-alone
    where
      over : (o : ℕ) → o ≡ x → put x (own_after a own) (put o (other_after a x own (at t o)) t) ≡ put x (own_after a own) t
      over o e = rw e (put-over x (own_after a own) (other_after a x own (at t x)) t)

      out : other own ≡ nobody → length t.threads ≤ other own
      out e = omega arith

-- ---- a step that is not refused
module _ (x : ℕ) (s : State) (accepted : refusal (step x) s ≡ 0) (shaped : Shaped s.table) where
  -- the table before the step
  abbrev before : Table
  before = s.table

  -- what the table tells
  formed : Formed before.n (at before)
  formed = found-formed (step x) s shaped accepted

  -- the thread is in the table
  below : x < before.n
  below = (accepted-step x s accepted).below

  -- and in the array
  pub in_array : x < 32
  in_array = let few = formed.few in let xn = below in omega arith

  -- its queue is not too long
  pub queue-fits : (at before x).queue.len ≤ 32
  queue-fits = queue-small (formed.own x below)

  -- a thread whose lock is owned stays as it is
  pub held_stays : (at before x).owner ≢ nobody → Promise (step x) s Held s
  unfolding accepted_reply accepted_state decide lock_free reply_of act own_after other_after store_after
  held_stays owned =
      let is : decide before x ≡ stay held = cond-false _ _ _ (ne_eqb (at before x).owner nobody owned) in
      performed (step x) s accepted Held s
      (ap (λ (a : Action). replied (reply_of a)) (sym is))
      (sym (ap (λ (a : Action). state (act a x before) (store_after a (at before x) s.store)) is ∙ ap (λ (t : Table). state t s.store) (ap (put x (at before x)) (put-own (other (at before x)) before) ∙ put-own x before)))

  -- ---- with the other thread's number, as the code has it
  module _ (o : Option ℕ) (j : ℕ) (finds : o ≡ partner (at before x)) (reads : j ≡ unwrap_or o x) where
    -- the thread that is read as the other one, by the definition
    is : j ≡ unwrap_or (partner (at before x)) x
    is = reads ∙ ap (λ (k : Option ℕ). unwrap_or k x) finds

    -- it is in the table
    other-below : j < before.n
    other-below = rw is (place-below before formed x below)

    -- and in the array
    pub other-in-array : j < 32
    other-in-array = let few = formed.few in let jn = other-below in omega arith

    -- its eight words are in the store
    pub slice-ends : 8 * j + 8 ≤ length s.store
    slice-ends = let long = (accepted-step x s accepted).store in let jn = other-below in omega arith

    -- how many words the slice has, as the code computes it
    abbrev size : ℕ
    size = 8 * j + 8 - 8 * j

    -- the slice before the step
    abbrev slice : List ℕ
    slice = mid_of (8 * j) size s.store

    -- it has eight words
    pub slice-eight : length slice ≡ 8
    slice-eight = mid_len (8 * j) (8 * j + 8) s.store slice-ends ∙ omega arith

    -- so a step on the two threads has what it relies on
    pub fits-here : Fit o (at before x)
    fits-here = rw finds (fits before formed x below)

    module _ (free : (at before x).owner ≡ nobody) where
      -- what the step decides
      decides : decide before x ≡ decide_in (phase_of (at before x).phase) x (at before x) (at before j)
      decides = decision before formed x below free ∙ ap (λ (k : ℕ). decide_in (phase_of (at before x).phase) x (at before x) (at before k)) (sym is)

      -- a thread that is not in copy leaves the store as it is
      store_kept : (at before x).phase ≢ phase_number copy → store_after (decide before x) (at before x) s.store ≡ s.store
      store_kept d = ⊎_elim (λ e. e)
          (λ c. let tested : TestedFor before x copy_word = subst (TestedFor before x) c.0 (decided before x) in absurd (d (number formed x below copy tested.0)))
          (step-store (decide before x) (at before x) s.store)

      module _ (copies : (at before x).phase ≡ phase_number copy) where
        -- a thread in copy decides as copy does
        decides-copy : decide before x ≡ decide_in copy x (at before x) (at before j)
        decides-copy = decides ∙ ap (λ (p : Phase). decide_in p x (at before x) (at before j)) (in_number copy (at before x).phase copies)

        -- and its other thread is the target
        is-target : j ≡ (at before x).op.send.target
        is-target =
            let e = in_number copy (at before x).phase copies in
            is ∙ read-other (partner (at before x)) x _ (partner-in (at before x) copy e)

        -- where no word remains, it leaves the store as it is
        store_finished : (at before x).op.send.count ≤ (at before x).copied → store_after (decide before x) (at before x) s.store ≡ s.store
        unfolding store_after
        store_finished all = by (has_receive (at before x).op.receive)
            (λ e. ap (λ (a : Action). store_after a (at before x) s.store) (decides-copy ∙ copy-calls x (at before x) (at before j) all e))
            (λ e. ap (λ (a : Action). store_after a (at before x) s.store) (decides-copy ∙ copy-sends x (at before x) (at before j) all e))

        -- where one remains, it is set in the target's eight
        store-copied : (at before x).copied < (at before x).op.send.count
            → set s.store (8 * j + (at before x).copied) (get_or (at before x).op.send.words (at before x).copied 0) ≡ store_after (decide before x) (at before x) s.store
        unfolding store_after word_copied
        store-copied more =
            ap (λ (k : ℕ). set s.store (8 * k + (at before x).copied) (get_or (at before x).op.send.words (at before x).copied 0)) is-target
            ∙ sym (ap (λ (a : Action). store_after a (at before x) s.store) (decides-copy ∙ copy-word x (at before x) (at before j) more))

      -- a word that is copied has its place in the slice
      word_fits : (at before x).phase ≡ phase_number copy → (at before x).copied < (at before x).op.send.count → (at before x).copied < length slice
      word_fits copies more =
          let long = slice-eight in
          let few = count_small (formed.own x below) (sends-in_copy formed x below (in_number copy (at before x).phase copies)) in
          omega arith

      -- the slice put back is the store after the action
      store-back : put_mid (8 * j) size s.store (words_after (at before x) slice) ≡ store_after (decide before x) (at before x) s.store
      unfolding word_added
      store-back = same? (at before x).phase (phase_number copy)
          (λ e. ap (put_mid (8 * j) size s.store) (sym (words_copied (at before x) slice e)) ∙ by (ltb (at before x).copied (at before x).op.send.count)
          (λ l. let more = ltb-true (at before x).copied (at before x).op.send.count l in
          ap (put_mid (8 * j) size s.store) (cond-true _ _ _ l) ∙ set_mid_at (8 * j) size (at before x).copied s.store _ (word_fits e more) ∙ store-copied e more)
          (λ l. ap (put_mid (8 * j) size s.store) (cond-false _ _ _ l) ∙ put_same (8 * j) size s.store ∙ sym (store_finished e (ltb-false (at before x).copied (at before x).op.send.count l))))
          (λ d. ap (put_mid (8 * j) size s.store) (sym (words-kept (at before x) slice d)) ∙ put_same (8 * j) size s.store ∙ sym (store_kept d))

      -- what the step on two threads does
      abbrev does : Action
      does = decide_in (phase_of (at before x).phase) x (at before x) (at before j)

      -- a thread in check waits in the queue of the thread that is read
      check-waits : (code : ℤ) → abort_send code ≡ does → Waits x (at before j)
      check-waits code e = rw is (waits-in-check before formed x below (subst (TestedFor before x) (decides ∙ sym e) (decided before x)).0)

      -- a send part that ends had its sender in the queue of the thread that is read
      pub ending-waits : (e : Ending) (c : Change) → c.ending ≡ Some e → Acted does x (at before x) (at before j) c → ends_send e ≡ true → Waits x (at before j)
      ending-waits e c ends acted = go e (told-ending does x (at before x) (at before j) c e ends acted.told)
        where
          go : (e : Ending) → action_of e ≡ does → ends_send e ≡ true → Waits x (at before j)
          go SendCancelled told sends = check-waits send_cancelled told
          go SendTimeOver told sends = check-waits send_time_over told
          go CallFinished told sends = rw is (waits-in-copy before formed x below (subst (TestedFor before x) (decides ∙ sym told) (decided before x)).0)
          go SendFinished told sends = rw is (waits-in-copy before formed x below (subst (TestedFor before x) (decides ∙ sym told) (decided before x)).0)
          go ReceiveCancelled told sends = absurd (false≢true sends)
          go ReceiveTimeOver told sends = absurd (false≢true sends)

      module _ (c : Change) (acted : Acted does x (at before x) (at before j) c) (words : List ℕ) (copied : words ≡ words_after (at before x) slice) (mine theirs : Thread) where
        -- the two threads put back are the table after the step
        table-back : mine ≡ own_after does (at before x) → theirs ≡ other_after does x (at before x) (at before j) → put x mine (put j theirs before) ≡ act (decide before x) x before
        table-back own_is other-is =
            ap (λ (h : Thread). put x h (put j theirs before)) own_is
            ∙ ap (λ (h : Thread). put x (own_after does (at before x)) (put j h before)) other-is
            ∙ ap (λ (k : ℕ). put x (own_after does (at before x)) (put k (other_after does x (at before x) (at before k)) before)) is
            ∙ put_back before formed x below does shaped.threads
            ∙ ap (λ (b : Action). act b x before) (sym decides)

        -- the two threads and the slice put back keep the promise of the step
        stepped : mine ≡ own_after does (at before x) → theirs ≡ other_after does x (at before x) (at before j)
            → Promise (step x) s c.answer (state (put x mine (put j theirs before)) (put_mid (8 * j) size s.store words))
        unfolding accepted_reply accepted_state
        stepped own_is other-is = performed (step x) s accepted c.answer _
            (acted.answers ∙ ap (λ (a : Action). replied (reply_of a)) (sym decides))
            (ap (λ (t : Table). state t (put_mid (8 * j) size s.store words)) (table-back own_is other-is)
            ∙ ap (λ (w : List ℕ). state (act (decide before x) x before) w) (ap (put_mid (8 * j) size s.store) copied ∙ store-back))

        -- a step that ends nothing, with the fields that are set
        pub stepped_on : c.ending ≡ None → mine ≡ own_changed c (at before x) → theirs ≡ other_changed c (at before j)
            → Promise (step x) s c.answer (state (put x mine (put j theirs before)) (put_mid (8 * j) size s.store words))
        stepped_on goes own_is other-is =
            let fields = told-fields does x (at before x) (at before j) c goes acted.told in
            stepped (own_is ∙ fields.0) (other-is ∙ fields.1)

        -- a step that ends something, with both threads as the ending leaves them
        pub stepped-to-end : (e : Ending) → c.ending ≡ Some e → Ended (action_of e) x (at before x) (at before j) (record { own = mine; other = theirs })
            → Promise (step x) s c.answer (state (put x mine (put j theirs before)) (put_mid (8 * j) size s.store words))
        stepped-to-end e ends ended =
            let is-does = told-ending does x (at before x) (at before j) c e ends acted.told in
            let both = subst (λ (a : Action). Ended a x (at before x) (at before j) (record { own = mine; other = theirs })) is-does ended in
            stepped both.own both.other
