-- The test `well_formed` and the facts `WellFormed` say the same of a table.
use mathlib.Core.Path.{◌≡◌, refl, ◌∙◌}
use mathlib.Core.Logic.{◌≢◌, ◌↔◌}
use mathlib.Core.Bool.{Bool, true, ◌&&◌}
use mathlib.Core.List.{List, [], ◌∷◌}
use Prim.Native.Nat.{ℕ, suc, ◌≤◌, ◌<◌}
use native.Mathlib.Omega.{arith}
use lib.Dec.{ltb}
use borrow.Author.Tests.{ltb-true, ltb-false, lt-ltb, le-ltb, eqb-true, eqb-false, eq-eqb, ne_eqb, not-true}
use Rattle.model.specs.declared.Thread.{Thread}
use Rattle.model.specs.declared.Table.{Table}
use Rattle.model.specs.Lists.{bit, occurs}
use Rattle.model.specs.Codes.{nobody}
use Rattle.model.specs.Threads.{at}
use Rattle.model.specs.Queues.{senders}
use Rattle.model.specs.Locks.{lock_held}
use Rattle.model.specs.WellFormed.{size_in_range, sends_to, within, owner_of, chain, Each, WellFormed, each, all_under, queue_test, owner_test, chain_test, clauses, well_formed}
use Rattle.model.proofs.Laws.{by, and_left, and_right, and-made, equal-alike-read, equal-alike-made, ◌and◌, all_of-read, all_of-made, all-below-read, all-below-made, occurs-first}
use Rattle.model.proofs.Numbers.{size-read}
use Rattle.model.proofs.Chains.{chains-long}

-- a well-formed table is small enough that 255 is none of its threads
pub size_small : (n : ℕ) → size_in_range n ≡ true → n ≤ nobody
size_small n e = let l = (size-read n e).1 in omega arith

-- a list where no number from n on stands passes the test that all are below n
under-made : (n : ℕ) (q : List ℕ) → ((s : ℕ) → n ≤ s → occurs s q ≡ 0) → all_under n q ≡ true
unfolding all_under occurs
under-made n [] h = refl
under-made n (a ∷ q) h = and-made (ltb a n) (all_under n q)
    (by (ltb a n) (λ e. e) (λ e. absurd (omega (arith, occurs-first a q, h a (ltb-false a n e)))))
    (under-made n q (λ s l. omega (arith, h s l)))

-- in a list that passes the test that all are below n, no number from n on stands
under-read : (n : ℕ) (q : List ℕ) → all_under n q ≡ true → (s : ℕ) → n ≤ s → occurs s q ≡ 0
unfolding all_under occurs
under-read n [] e s l = refl
under-read n (a ∷ q) e s l =
    let an = ltb-true a n (and_left (ltb a n) (all_under n q) e) in
    rw (ne_eqb a s (omega arith), under-read n q (and_right (ltb a n) (all_under n q) e) s l) refl

-- ---- each kind of clause: the fact and its test are the same
module _ (t : Table) where
  -- of each thread by itself
  each_same : (clause : ℕ → Thread → Bool) → Each t clause ↔ (each t clause ≡ true)
  unfolding each
  each_same clause = (all-below-made t.n _, all-below-read t.n _)

  -- of one queue
  queue-same : (r : ℕ) → ((s : ℕ) → occurs s (senders (at t r)) ≡ bit (ltb s t.n && sends_to (at t s) r)) ↔ (queue_test t r ≡ true)
  unfolding queue_test
  queue-same r = (
    λ h. all_of-made _ (
        under-made t.n _ (λ s l. h s ∙ rw (le-ltb s t.n l) refl)
        and all-below-made t.n _ (λ s l. eq-eqb _ _ (h s ∙ rw (lt-ltb s t.n l) refl))
        and tt),
    λ e s. let (under, (counts, end)) = all_of-read _ e in
        by (ltb s t.n)
        (λ i. rw i (eqb-true _ _ (all-below-read t.n _ counts s (ltb-true s t.n i))))
        (λ i. rw i (under-read t.n _ under s (ltb-false s t.n i))),
  )

  -- of the owner of one lock
  owner-same : (r : ℕ) → ((o : ℕ) → o < t.n → ((at t r).owner ≡ o) ↔ (lock_held (at t o) ≡ r)) ↔ (owner_test t r ≡ true)
  unfolding owner_test
  owner-same r = (
    λ h. all-below-made t.n _ (λ o on. equal-alike-made _ _ _ _ (h o on)),
    λ e o on. equal-alike-read _ _ _ _ (all-below-read t.n _ e o on),
  )

  -- of the chain of owners from one thread, as far as n owners
  chain_same : (r : ℕ) → ((k : ℕ) → k < t.n → chain (owner_of t) (suc k) r ≢ r) ↔ (chain_test t r ≡ true)
  unfolding chain_test
  chain_same r = (
    λ h. all-below-made t.n _ (λ k kn. rw (ne_eqb _ _ (h k kn)) refl),
    λ e k kn. eqb-false _ _ (not-true _ (all-below-read t.n _ e k kn)),
  )

  -- only a thread of the table has a thread of the table for its owner
  owned_in : t.n ≤ nobody → (r : ℕ) → owner_of t r < t.n → r < t.n
  unfolding owner_of within
  owned_in few r h = by (ltb r t.n) (ltb-true r t.n) (λ e. absurd (let l : nobody < t.n = rw e at h in omega arith))

-- ---- the whole table
-- a well-formed table passes the test
pub well_formed-tested : (t : Table) → WellFormed t → well_formed t ≡ true
unfolding well_formed clauses
well_formed-tested t w = all_of-made _ (
    w.size
    and (each_same t _).0 w.numbers
    and (each_same t _).0 w.ipc_exactly
    and (each_same t _).0 w.bare_outcome
    and (each_same t _).0 w.with_others
    and all-below-made t.n _ (λ r rn. (queue-same t r).0 (w.queues r rn))
    and all-below-made t.n _ (λ r rn. (owner-same t r).0 (λ o. w.owners r o rn))
    and all-below-made t.n _ (λ r rn. (chain_same t r).0 (λ k kn. w.chains r rn k))
    and (each_same t _).0 w.send_and_mark
    and (each_same t _).0 w.poll
    and (each_same t _).0 w.receiving
    and (each_same t _).0 w.without_send
    and (each_same t _).0 w.idle_flags
    and (each_same t _).0 w.release_target
    and (each_same t _).0 w.send_clear
    and (each_same t _).0 w.send_set
    and (each_same t _).0 w.copies
    and w.rules
    and tt
    )

-- a table that passes the test is well-formed
pub well_formed-told : (t : Table) → well_formed t ≡ true → WellFormed t
unfolding well_formed clauses
well_formed-told t e =
    let (size, (numbers, (ipc_exactly, (bare_outcome, (with_others, (queues, (owners, (chains, more)))))))) = all_of-read _ e in
    let (send_and_mark, (poll, (receiving, (without_send, (idle_flags, (release_target, (send_clear, (send_set, (copies, (rules, end)))))))))) = more in
    record {
      size = size;
      numbers = (each_same t _).1 numbers;
      ipc_exactly = (each_same t _).1 ipc_exactly;
      bare_outcome = (each_same t _).1 bare_outcome;
      with_others = (each_same t _).1 with_others;
      queues = λ r rn. (queue-same t r).1 (all-below-read t.n _ queues r rn);
      owners = λ r o rn. (owner-same t r).1 (all-below-read t.n _ owners r rn) o;
      chains = chains-long (owner_of t) t.n (λ r rn. (chain_same t r).1 (all-below-read t.n _ chains r rn)) (owned_in t (size_small t.n size));
      send_and_mark = (each_same t _).1 send_and_mark;
      poll = (each_same t _).1 poll;
      receiving = (each_same t _).1 receiving;
      without_send = (each_same t _).1 without_send;
      idle_flags = (each_same t _).1 idle_flags;
      release_target = (each_same t _).1 release_target;
      send_clear = (each_same t _).1 send_clear;
      send_set = (each_same t _).1 send_set;
      copies = (each_same t _).1 copies;
      rules = rules;
    }

-- a well-formed table has at most 32 threads
pub formed-few : (t : Table) → well_formed t ≡ true → t.n ≤ 32
formed-few t e = (size-read t.n (well_formed-told t e).size).1

-- the facts and the test are the same
pub well_formed-same : (t : Table) → (WellFormed t) ↔ (well_formed t ≡ true)
well_formed-same t = (well_formed-tested t, well_formed-told t)
