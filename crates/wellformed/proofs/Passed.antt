-- Thread by thread: what is known of the first k threads, and that it comes to a well-formed table.
use mathlib.Core.Path.{◌≡◌, refl}
use mathlib.Core.Logic.{◌≢◌}
use mathlib.Core.Bool.{true}
use mathlib.Core.List.{List}
use Prim.Native.Nat.{ℕ, ◌+◌, ◌≤◌, ◌<◌}
use native.Mathlib.Numerals.{add-one}
use native.Mathlib.Omega.{arith}
use lib.ListN.{length, replicate, get_or-replicate}
use lib.Dec.{eqb}
use borrow.Author.Tests.{lt-ltb, ne_eqb}
use Rattle.model.specs.declared.Thread.{Thread}
use Rattle.model.specs.declared.Table.{Table}
use Rattle.model.specs.Lists.{all_below}
use Rattle.model.specs.Codes.{nobody}
use Rattle.model.specs.Threads.{at}
use Rattle.model.specs.Queues.{senders, ready}
use Rattle.model.specs.WellFormed.{sends_to}
use Rattle.model.proofs.Laws.{by, same?, implies-read}
use Rattle.formed.proofs.Own.{Own}
use Rattle.formed.proofs.Facts.{target-other}
use Rattle.formed.specs.Groups.{copies_to}
use Rattle.formed.proofs.Formed.{of, Formed}
use Rattle.clauses.specs.Alone.{target_of}
use Rattle.wellformed.specs.Links.{number_at, target_at, owner_at, held_at, link_fits, copy_ready}
use Rattle.wellformed.specs.Waiting.{Free, Entered}
use Rattle.wellformed.proofs.Waits.{Waits, waits-none, waits-more, waits-free, waits-queues, queues-waits}
use Rattle.wellformed.proofs.Links.{Linked, links_told, links_made}

-- ---- the target of a thread
-- a thread sends to its target, and to no other
sends-target : (h : Thread) (r : ℕ) → r < nobody → sends_to h r ≡ eqb (target_of h) r
unfolding sends_to target_of
sends-target h r l = by h.flags.send (λ e. rw e refl) (λ e. rw (e, ne_eqb nobody r (omega arith)) refl)

-- of a thread that is well-formed by itself it is a thread of the table, or nobody
target_small : {n x : ℕ} {h : Thread} → Own n x h → target_of h ≢ nobody → target_of h < n
unfolding target_of
target_small {n} {x} {h} w = by h.flags.send (λ e. rw e (λ d. (target-other w e).below)) (λ e. rw e (λ d. absurd (d refl)))

-- ---- the first k threads
-- they are well-formed by themselves, those to which they copy are ready, and where their senders wait is entered
pub record Passed (t : Table) (k : ℕ) (waits : List ℕ) : Type 0 where
  pub own : (x : ℕ) → x < k → Own t.n x (at t x)
  pub copies : (x : ℕ) → x < k → copies_to (at t x) < t.n → ready (at t (copies_to (at t x))) x ≡ true
  pub waiting : Waits t.n k (of senders (at t)) (number_at waits)
  pub places : length waits ≡ 32

module _ (t : Table) (few : t.n ≤ 32) where
  -- each thread sends to its target, and to no other
  to-target : (s r : ℕ) → r < t.n → sends_to (at t s) r ≡ eqb (target_of (at t s)) r
  to-target s r rn = sends-target (at t s) r (omega arith)

  -- none yet
  pub passed_none : Passed t 0 (replicate 32 nobody)
  passed_none = record {
    own = λ x l. absurd (omega arith);
    copies = λ x l. absurd (omega arith);
    waiting = waits-none t.n (omega arith) _ _ (λ s sn. get_or-replicate 32 s nobody 0 (omega arith));
    places = refl;
  }

  module _ {k : ℕ} {waits : List ℕ} (P : Passed t k waits) where
    -- one more
    pub passed-more : (now : List ℕ) → k < t.n → Own t.n k (at t k) → copy_ready t k (at t k) ≡ true → Entered t.n k (senders (at t k)) waits now → Passed t (k + 1) now
    passed-more now kn w copy E = rw add-one (record {
      own = λ x xn. same? x k (λ e. rw e w) (λ d. P.own x (omega arith));
      copies = λ x xn. same? x k (λ e. rw e (λ l. implies-read _ _ copy (lt-ltb _ _ l))) (λ d. P.copies x (omega arith));
      waiting = waits-more t.n (omega arith) _ k kn (number_at waits) (number_at now) P.waiting E.free E.now;
      places = E.whole;
    })

    -- in a well-formed table the next queue's senders are free
    pub next-free : Formed t.n (at t) → k < t.n → Free t.n (number_at waits) (senders (at t k))
    next-free F kn = waits-free t.n (omega arith) _ _ _ to-target k (number_at waits) P.waiting F.queues kn

  -- ---- all threads
  module _ {waits : List ℕ} (P : Passed t t.n waits) where
    -- they fit together: the table is well-formed
    pub passed-formed : all_below t.n (link_fits t.n (number_at waits) (target_at t) (owner_at t) (held_at t)) ≡ true → Formed t.n (at t)
    passed-formed e = record {
      few = few;
      own = P.own;
      queues = waits-queues t.n (omega arith) _ _ _ to-target (number_at waits) P.waiting L.waiting;
      owners = L.owners;
      chains = L.chains;
      copies = P.copies;
    }
      where
        L : Linked t.n (number_at waits) (target_at t) (owner_at t) (held_at t)
        L = links_told t.n (omega arith) _ _ _ _ e

    -- the table is well-formed: they fit together
    pub formed-passed : Formed t.n (at t) → all_below t.n (link_fits t.n (number_at waits) (target_at t) (owner_at t) (held_at t)) ≡ true
    formed-passed F = links_made t.n (omega arith) (number_at waits) (target_at t) (owner_at t) (held_at t) (record {
      waiting = queues-waits t.n (omega arith) _ _ _ to-target (number_at waits) P.waiting
          (λ s sn. target_small (F.own s sn)) F.queues;
      owners = F.owners;
      chains = F.chains;
    })
