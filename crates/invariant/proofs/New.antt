-- A new table is well-formed.
use mathlib.Core.Path.{◌≡◌, refl, sym, ap, ◌∙◌}
use mathlib.Core.Bool.{Bool, true, false}
use mathlib.Core.List.{[]}
use Prim.Native.Nat.{ℕ, suc, ◌≤◌, ◌<◌}
use native.Mathlib.Omega.{arith}
use lib.ListN.{length-replicate, get_or-replicate}
use lib.Dec.{ltb}
use borrow.Author.Tests.{ltb-true}
use Rattle.model.specs.declared.Thread.{Thread}
use Rattle.model.specs.Lists.{implies, all_of, occurs}
use Rattle.model.specs.Codes.{nobody}
use Rattle.model.specs.Phases.{is_one_of, phase_of}
use Rattle.model.specs.Rules.{no_rules, rules_fit}
use Rattle.model.specs.Threads.{new_thread, new_table, zero_thread, at}
use Rattle.model.specs.Queues.{senders}
use Rattle.model.specs.Locks.{lock_held}
use Rattle.model.specs.WellFormed.{within, in_phase, is_code, nobody_or_below, sends_to, owner_of, chain, Shaped, Each, WellFormed}
use Rattle.model.specs.WellFormed.{size_in_range, numbers_in_range, ipc_with_running, bare_unless_done, not_with_itself, send_and_mark_with_ipc, poll_with_send}
use Rattle.model.specs.WellFormed.{receiving_with_part, ipc_without_send, idle_without_flags, release_has_target, receivers_send_clear, senders_send_set, copies_to_ready}
use Rattle.model.specs.Refusals.{unless, make_refusal}
use Rattle.model.specs.Promise.{made_table}
use Rattle.model.proofs.Laws.{by}
use Rattle.model.proofs.Numbers.{size-made}
use Rattle.laws.proofs.Refusals.{making_accepted}

-- a new table of n threads has n threads
pub new-size : (n : ℕ) → (new_table n).n ≡ n
unfolding new_table
new-size n = refl

-- each thread of a new table is a new thread
pub new-at : (n x : ℕ) → x < 32 → at (new_table n) x ≡ new_thread
unfolding at new_table
new-at n x l = get_or-replicate 32 x new_thread zero_thread l

module _ (n : ℕ) (few : n ≤ 32) where
  -- also by the number of threads
  new-below : (x : ℕ) → x < (new_table n).n → at (new_table n) x ≡ new_thread
  new-below x l = new-at n x (omega (arith, new-size n))

  -- what holds of a new thread holds of each
  new-each : (clause : ℕ → Thread → Bool) → ((x : ℕ) → clause x new_thread ≡ true) → Each (new_table n) clause
  new-each clause h x l = rw (new-below x l) (h x)

  -- no lock is owned
  new-owner : (x : ℕ) → x < (new_table n).n → (at (new_table n) x).owner ≡ nobody
  unfolding new_thread
  new-owner x l = ap (λ (h : Thread). h.owner) (new-below x l)

  -- no lock is held
  new-held : (x : ℕ) → x < (new_table n).n → lock_held (at (new_table n) x) ≡ nobody
  unfolding new_thread lock_held phase_of
  new-held x l = rw (new-below x l) refl

  -- no queue has a sender
  new-queue : (x : ℕ) → x < (new_table n).n → senders (at (new_table n) x) ≡ []
  unfolding new_thread senders
  new-queue x l = rw (new-below x l) refl

  -- no thread sends
  new-sends : (x r : ℕ) → x < (new_table n).n → sends_to (at (new_table n) x) r ≡ false
  unfolding new_thread sends_to
  new-sends x r l = rw (new-below x l) refl

  -- every chain of owners ends with nobody
  new-chain : (r k : ℕ) → chain (owner_of (new_table n)) (suc k) r ≡ nobody
  unfolding chain owner_of within
  new-chain r k = let o = chain (owner_of (new_table n)) k r in
      by (ltb o (new_table n).n) (λ e. rw e (new-owner o (ltb-true o (new_table n).n e))) (λ e. rw e refl)

  -- the arrays of a new table have their 32 places
  pub new-shaped : Shaped (new_table n)
  unfolding new_thread new_table
  new-shaped = record { threads = length-replicate 32 new_thread; queues = λ x l. rw (new-below x l) refl }

-- a new table has no rules
pub new-rules : (n : ℕ) → (new_table n).rules.len ≡ 0
unfolding new_table no_rules
new-rules n = refl

-- so they fit
new-fit : (n : ℕ) → rules_fit (new_table n).n (new_table n).rules ≡ true
unfolding rules_fit
new-fit n = rw (new-rules n) refl

-- a new table of 1 to 32 threads is well-formed
pub new-well_formed : (n : ℕ) → 1 ≤ n → n ≤ 32 → WellFormed (new_table n)
unfolding new_thread implies all_of occurs size_in_range in_phase is_one_of is_code nobody_or_below numbers_in_range ipc_with_running bare_unless_done not_with_itself send_and_mark_with_ipc poll_with_send receiving_with_part ipc_without_send idle_without_flags release_has_target receivers_send_clear senders_send_set copies_to_ready
new-well_formed n some few = let size = new-size n in record {
  size = rw size (size-made n some few);
  numbers = new-each n few (λ x h. numbers_in_range (new_table n).n h) (λ x. refl);
  ipc_exactly = new-each n few (λ x h. ipc_with_running h) (λ x. refl);
  bare_outcome = new-each n few (λ x h. bare_unless_done h) (λ x. refl);
  with_others = new-each n few not_with_itself (λ x. refl);
  queues = λ r rn s. rw (new-queue n few r rn) (by (ltb s (new_table n).n) (λ e. rw (e, new-sends n few s r (ltb-true s (new_table n).n e)) refl) (λ e. rw e refl));
  owners = λ r o rn on. (
    λ e. let z : nobody ≡ o = sym (new-owner n few r rn) ∙ e in absurd (omega arith),
    λ e. let z : nobody ≡ r = sym (new-held n few o on) ∙ e in absurd (omega arith),
  );
  chains = λ r rn k e. let z : nobody ≡ r = sym (new-chain n few r k) ∙ e in omega arith;
  send_and_mark = new-each n few (λ x h. send_and_mark_with_ipc h) (λ x. refl);
  poll = new-each n few (λ x h. poll_with_send h) (λ x. refl);
  receiving = new-each n few (λ x h. receiving_with_part h) (λ x. refl);
  without_send = new-each n few (λ x h. ipc_without_send h) (λ x. refl);
  idle_flags = new-each n few (λ x h. idle_without_flags h) (λ x. refl);
  release_target = new-each n few (λ x h. release_has_target (new_table n).n h) (λ x. refl);
  send_clear = new-each n few (λ x h. receivers_send_clear h) (λ x. refl);
  send_set = new-each n few (λ x h. senders_send_set h) (λ x. refl);
  copies = new-each n few (copies_to_ready (new_table n)) (λ x. refl);
  rules = new-fit n;
}

-- ---- making a table
-- a table that is made is well-formed
pub made-well_formed : (n : ℕ) → make_refusal n ≡ 0 → WellFormed (made_table n)
unfolding made_table unless
made-well_formed n e = let (some, few) = making_accepted n e in rw e (new-well_formed n some few)
