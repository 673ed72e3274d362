-- A well-formed table over the function of its threads: the clauses between threads by six readings, those on one thread grouped.
use mathlib.Core.Path.{◌≡◌}
use mathlib.Core.Bool.{true}
use mathlib.Core.List.{[], ◌∷◌}
use Prim.Native.Nat.{ℕ, ◌≤◌, ◌<◌}
use native.Mathlib.Omega.{arith}
use Rattle.model.specs.declared.Thread.{Thread}
use Rattle.model.specs.declared.Table.{Table}
use Rattle.model.specs.Phases.{copy, phase_of, is_one_of}
use Rattle.model.specs.Rules.{rules_fit}
use Rattle.model.specs.Threads.{at}
use Rattle.model.specs.Queues.{senders, ready}
use Rattle.model.specs.Locks.{lock_held}
use Rattle.model.specs.WellFormed.{size_in_range, in_phase, sends_to, owner_of, copies_to_ready, Shaped, WellFormed, within}
use Rattle.model.proofs.Laws.{by, implies-read, implies-made}
use Rattle.model.proofs.Numbers.{size-read}
use Rattle.formed.proofs.Flags.{cases}
use Rattle.formed.proofs.Own.{Own, OwnClauses, own_grouped, own_ungrouped}
use Rattle.formed.proofs.Facts.{copy-sends, target-other}
use Rattle.formed.proofs.Locks.{Owners, Chains}
use Rattle.formed.proofs.Queues.{Queues}
use Rattle.formed.proofs.Copies.{Copies}
use Rattle.formed.specs.Groups.{copies_to}

-- a reading of every thread
abbrev pub of {ℓ} : {A : Type ℓ} → (Thread → A) → (ℕ → Thread) → ℕ → A
of P T y = P (T y)

-- the owner of a thread's lock
abbrev pub owner : Thread → ℕ
owner h = h.owner

-- opens the six readings of a thread on which the clauses between threads depend
unfoldable pub readings : ℕ
unfolding copies_to sends_to senders ready lock_held phase_of
readings = 0

-- the clauses of `WellFormed`, with those on one thread grouped
pub record Formed (n : ℕ) (T : ℕ → Thread) : Type 0 where
  pub few : n ≤ 32
  pub own : (x : ℕ) → x < n → Own n x (T x)
  pub queues : Queues n (of sends_to T) (of senders T)
  pub owners : Owners n (of owner T) (of lock_held T)
  pub chains : Chains n (of owner T)
  pub copies : Copies n (of copies_to T) (of ready T)

-- ---- the same as `WellFormed` with `Shaped`
module _ (t : Table) (w : WellFormed t) (z : Shaped t) where
  -- there are at most 32 threads
  small : t.n ≤ 32
  small = (size-read t.n w.size).1

  -- the clause on copies, by the readings
  copies-read : Copies t.n (of copies_to (at t)) (of ready (at t))
  unfolding copies_to is_one_of copies_to_ready in_phase
  copies-read x xn = by (is_one_of (copy ∷ []) (at t x).phase)
      (λ e. rw e (λ l. implies-read _ _ (w.copies x xn) e))
      (λ e. rw e (λ l. absurd (let s = small in omega arith)))

  -- the clauses of a thread
  clauses-at : (x : ℕ) → x < t.n → OwnClauses t.n x (at t x)
  clauses-at x xn = record {
    numbers = w.numbers x xn;
    ipc_exactly = w.ipc_exactly x xn;
    bare_outcome = w.bare_outcome x xn;
    with_others = w.with_others x xn;
    send_and_mark = w.send_and_mark x xn;
    poll = w.poll x xn;
    receiving = w.receiving x xn;
    without_send = w.without_send x xn;
    idle_flags = w.idle_flags x xn;
    release_target = w.release_target x xn;
    send_clear = w.send_clear x xn;
    send_set = w.send_set x xn;
    items = z.queues x xn;
  }

  -- a well-formed table whose arrays have their lengths is `Formed`
  pub formed_grouped : Formed t.n (at t)
  unfolding owner_of within
  formed_grouped = record {
    few = small;
    own = λ x xn. own_grouped t.n x (at t x) (clauses-at x xn);
    queues = w.queues;
    owners = w.owners;
    chains = w.chains;
    copies = copies-read;
  }

-- a table of the right size is well-formed if its rules and its threads are
module _ (t : Table) (size : size_in_range t.n ≡ true) (rules : rules_fit t.n t.rules ≡ true) (F : Formed t.n (at t)) where
  -- the clauses of a thread
  own-clauses : (x : ℕ) → x < t.n → OwnClauses t.n x (at t x)
  own-clauses x xn = own_ungrouped t.n x (at t x) (F.own x xn)

  -- the clause on copies, as `WellFormed` has it
  copies-told : (x : ℕ) → x < t.n → copies_to_ready t x (at t x) ≡ true
  unfolding copies_to copies_to_ready in_phase cases
  copies-told x xn = implies-made _ _ (λ (e : is_one_of (copy ∷ []) (at t x).phase ≡ true).
      let sends : (at t x).flags.send ≡ true = copy-sends (F.own x xn) e in
      rw e at (F.copies x xn (rw e (target-other (F.own x xn) sends).below)))

  -- the same clauses, as `WellFormed` has them
  pub formed_ungrouped : WellFormed t
  unfolding owner_of within
  formed_ungrouped = record {
    size = size;
    numbers = λ x xn. (own-clauses x xn).numbers;
    ipc_exactly = λ x xn. (own-clauses x xn).ipc_exactly;
    bare_outcome = λ x xn. (own-clauses x xn).bare_outcome;
    with_others = λ x xn. (own-clauses x xn).with_others;
    queues = F.queues;
    owners = F.owners;
    chains = F.chains;
    send_and_mark = λ x xn. (own-clauses x xn).send_and_mark;
    poll = λ x xn. (own-clauses x xn).poll;
    receiving = λ x xn. (own-clauses x xn).receiving;
    without_send = λ x xn. (own-clauses x xn).without_send;
    idle_flags = λ x xn. (own-clauses x xn).idle_flags;
    release_target = λ x xn. (own-clauses x xn).release_target;
    send_clear = λ x xn. (own-clauses x xn).send_clear;
    send_set = λ x xn. (own-clauses x xn).send_set;
    copies = copies-told;
    rules = rules;
  }
