-- Document 01, "The table": when a table is well-formed (document 01's "sound"), as a list of facts and as a test that computes.
-- That the arrays of threads and of queue places have 32 places is a fact of the types and stands apart, in `Shaped`.
use Rattle.std.specs.Prelude.{◌≡◌, ◌↔◌, ◌≢◌, Bool, true, false, not, cond, ◌&&◌, ◌||◌, List, [], ◌∷◌, ℕ, zero, suc, ◌<◌, length, eqb, leb, ltb, ℤ}
use Rattle.std.specs.Bool.{beq}
use Rattle.model.specs.declared.SendPart.{SendPart}
use Rattle.model.specs.declared.Receive.{Receive}
use Rattle.model.specs.declared.Thread.{Thread}
use Rattle.model.specs.declared.Table.{Table}
use Rattle.model.specs.Lists.{implies, all_of, all_below, bit, occurs}
use Rattle.model.specs.Operations.{closed_beyond, empty_set, word_limit, has_receive, receive_time, closed_on}
use Rattle.model.specs.Codes.{done, running, codes, same_code, nobody}
use Rattle.model.specs.Times.{is_time_code, is_left}
use Rattle.model.specs.Phases.{is_one_of, Phase, idle, lock, check, copy, release, sleep, look, wake, unlock}
use Rattle.model.specs.Rules.{rules_fit}
use Rattle.model.specs.Threads.{at}
use Rattle.model.specs.Queues.{senders, ready}
use Rattle.model.specs.Locks.{lock_held}

-- ---- the clauses of one thread, each a test of thread x, which is h, in a table of n threads
-- "N is 1 to 32"
unfoldable pub size_in_range : ℕ → Bool
size_in_range n = leb 1 n && leb n 32

-- the thread is in one of these phases
unfoldable pub in_phase : List Phase → Thread → Bool
in_phase ps h = is_one_of ps h.phase

-- a code of document 01
unfoldable pub is_code : List ℤ → ℤ → Bool
is_code [] c = false
is_code (k ∷ ks) c = same_code k c || is_code ks c

-- 255 or a thread of the table
unfoldable pub nobody_or_below : ℕ → ℕ → Bool
nobody_or_below n x = eqb x nobody || ltb x n

-- the numbers of a send part: target, words, time code
unfoldable pub send_in_range : ℕ → SendPart → Bool
send_in_range n part = implies part.present (all_of (ltb part.target n ∷ leb part.count word_limit ∷ is_time_code part.time ∷ []))

-- the numbers of a receive part: time code, partners, which are no "empty set"
unfoldable pub receive_in_range : ℕ → Receive → Bool
receive_in_range n r = all_of (implies (has_receive r) (is_time_code (receive_time r)) ∷ not (closed_beyond n r) ∷ not (empty_set r) ∷ [])

-- "every number in use is in range": of a running operation all numbers of its parts are in use, and `left`; of an ended one only the
-- target that release still frees (`release_has_target`); a thread that sends, or frees its target's lock, has a send part
unfoldable pub numbers_in_range : ℕ → Thread → Bool
numbers_in_range n h = all_of (
    leb h.phase 8
    ∷ implies h.flags.ipc (send_in_range n h.op.send)
    ∷ implies h.flags.ipc (receive_in_range n h.op.receive)
    ∷ implies h.flags.send h.op.send.present
    ∷ implies (in_phase (release ∷ []) h) h.op.send.present
    ∷ implies h.flags.ipc (is_left h.left)
    ∷ leb h.queue.len 32
    ∷ nobody_or_below n h.owner
    ∷ is_code codes h.outcome.code
    ∷ nobody_or_below n h.outcome.source
    ∷ leb h.outcome.count word_limit
    ∷ implies (in_phase (copy ∷ []) h) (leb h.copied h.op.send.count)
    ∷ implies (in_phase (wake ∷ unlock ∷ []) h) (ltb h.waking n)
    ∷ []
    )

-- "`ipc` is set exactly with code 1"
unfoldable pub ipc_with_running : Thread → Bool
ipc_with_running h = beq h.flags.ipc (same_code running h.outcome.code)

-- "source is 255 and count 0 unless the code is 0"
unfoldable pub bare_unless_done : Thread → Bool
bare_unless_done h = same_code done h.outcome.code || eqb h.outcome.source nobody && eqb h.outcome.count 0

-- "no thread is its own target or partner", where these are in use
unfoldable pub not_with_itself : ℕ → Thread → Bool
not_with_itself x h = all_of (
    implies (h.flags.ipc && h.op.send.present) (not (eqb h.op.send.target x))
    ∷ implies (in_phase (release ∷ []) h) (not (eqb h.op.send.target x))
    ∷ implies h.flags.ipc (not (closed_on h.op.receive x))
    ∷ []
    )

-- "`send` and `mark` are set only with `ipc`"
unfoldable pub send_and_mark_with_ipc : Thread → Bool
send_and_mark_with_ipc h = implies (h.flags.send || h.flags.mark) h.flags.ipc

-- "`poll` only with `send`"
unfoldable pub poll_with_send : Thread → Bool
poll_with_send h = implies h.flags.poll h.flags.send

-- "`receiving` exactly if `ipc` is set and the operation has a receive part"
unfoldable pub receiving_with_part : Thread → Bool
receiving_with_part h = beq h.flags.receiving (h.flags.ipc && has_receive h.op.receive)

-- "`ipc` without `send` has one"
unfoldable pub ipc_without_send : Thread → Bool
ipc_without_send h = implies (h.flags.ipc && not h.flags.send) (has_receive h.op.receive)

-- "idle has no flag"
unfoldable pub idle_without_flags : Thread → Bool
idle_without_flags h = implies (in_phase (idle ∷ []) h) (not (h.flags.ipc || h.flags.send || h.flags.receiving || h.flags.poll || h.flags.mark))

-- "release has a target below N"
unfoldable pub release_has_target : ℕ → Thread → Bool
release_has_target n h = implies (in_phase (release ∷ []) h) (ltb h.op.send.target n)

-- "look, wake and unlock have `send` clear"
unfoldable pub receivers_send_clear : Thread → Bool
receivers_send_clear h = implies (in_phase (look ∷ wake ∷ unlock ∷ []) h) (not h.flags.send)

-- "lock to copy and sleep have it set"
unfoldable pub senders_send_set : Thread → Bool
senders_send_set h = implies (in_phase (lock ∷ check ∷ copy ∷ sleep ∷ []) h) h.flags.send

-- "a thread in copy has a receiver that is ready for it"
unfoldable pub copies_to_ready : Table → ℕ → Thread → Bool
copies_to_ready t x h = implies (in_phase (copy ∷ []) h) (ready (at t h.op.send.target) x)

-- ---- what the clauses on queues and locks speak of
-- a thread "with `send` set and target r"
unfoldable pub sends_to : Thread → ℕ → Bool
sends_to h r = h.flags.send && eqb h.op.send.target r

-- the owner of a lock, by the owner of each; of no thread's, nobody
unfoldable pub within : ℕ → (ℕ → ℕ) → ℕ → ℕ
within n owner r = cond (ltb r n) (owner r) nobody

-- the owner of thread r's lock
unfoldable pub owner_of : Table → ℕ → ℕ
owner_of t r = within t.n (λ x. (at t x).owner) r

-- the owner of the owner of .. r, k times over
unfoldable pub chain : (ℕ → ℕ) → ℕ → ℕ → ℕ
chain owner zero r = r
chain owner (suc k) r = owner (chain owner k r)

-- ---- a fact of the types
-- the arrays of threads and of queue places have their 32 places, as every value of the types has
pub record Shaped (t : Table) : Type 0 where
  pub threads : length t.threads ≡ 32
  pub queues : (x : ℕ) → x < t.n → length (at t x).queue.items ≡ 32

-- ---- as facts, in the order of document 01's list
-- the test holds of each thread in use
abbrev pub Each : Table → (ℕ → Thread → Bool) → Type 0
Each t clause = (x : ℕ) → x < t.n → clause x (at t x) ≡ true

-- a table is well-formed
pub record WellFormed (t : Table) : Type 0 where
  pub size : size_in_range t.n ≡ true
  pub numbers : Each t (λ x h. numbers_in_range t.n h)
  pub ipc_exactly : Each t (λ x h. ipc_with_running h)
  pub bare_outcome : Each t (λ x h. bare_unless_done h)
  pub with_others : Each t not_with_itself
  -- "queue r holds, once each, exactly the threads with `send` set and target r"
  pub queues : (r : ℕ) → r < t.n → (s : ℕ) → occurs s (senders (at t r)) ≡ bit (ltb s t.n && sends_to (at t s) r)
  -- "a lock's owner is exactly the thread whose phase holds it"
  pub owners : (r o : ℕ) → r < t.n → o < t.n → ((at t r).owner ≡ o) ↔ (lock_held (at t o) ≡ r)
  -- "no chain of lock owners comes back to its start"
  pub chains : (r : ℕ) → r < t.n → (k : ℕ) → chain (owner_of t) (suc k) r ≢ r
  pub send_and_mark : Each t (λ x h. send_and_mark_with_ipc h)
  pub poll : Each t (λ x h. poll_with_send h)
  pub receiving : Each t (λ x h. receiving_with_part h)
  pub without_send : Each t (λ x h. ipc_without_send h)
  pub idle_flags : Each t (λ x h. idle_without_flags h)
  pub release_target : Each t (λ x h. release_has_target t.n h)
  pub send_clear : Each t (λ x h. receivers_send_clear h)
  pub send_set : Each t (λ x h. senders_send_set h)
  pub copies : Each t (copies_to_ready t)
  -- document 02, #102: "a table holding entries that break their loading's rule is not sound"
  pub rules : rules_fit t.n t.rules ≡ true

-- ---- as a test
-- the test holds of each thread in use
unfoldable pub each : Table → (ℕ → Thread → Bool) → Bool
each t clause = all_below t.n (λ x. clause x (at t x))

-- each number of a list is below n
unfoldable pub all_under : ℕ → List ℕ → Bool
all_under n [] = true
all_under n (a ∷ q) = ltb a n && all_under n q

-- of one queue: only threads of the table, and each as often as it should be
unfoldable pub queue_test : Table → ℕ → Bool
queue_test t r = all_of (all_under t.n (senders (at t r)) ∷ all_below t.n (λ s. eqb (occurs s (senders (at t r))) (bit (sends_to (at t s) r))) ∷ [])

-- of one lock: its owner is the thread that holds it
unfoldable pub owner_test : Table → ℕ → Bool
owner_test t r = all_below t.n (λ o. beq (eqb (at t r).owner o) (eqb (lock_held (at t o)) r))

-- a chain that comes back does so within n owners
unfoldable pub chain_test : Table → ℕ → Bool
chain_test t r = all_below t.n (λ k. not (eqb (chain (owner_of t) (suc k) r) r))

-- a test for each clause, in the order of document 01's list, and that of document 02, #102
unfoldable pub clauses : Table → List Bool
clauses t =
    size_in_range t.n
    ∷ each t (λ x h. numbers_in_range t.n h)
    ∷ each t (λ x h. ipc_with_running h)
    ∷ each t (λ x h. bare_unless_done h)
    ∷ each t not_with_itself
    ∷ all_below t.n (queue_test t)
    ∷ all_below t.n (owner_test t)
    ∷ all_below t.n (chain_test t)
    ∷ each t (λ x h. send_and_mark_with_ipc h)
    ∷ each t (λ x h. poll_with_send h)
    ∷ each t (λ x h. receiving_with_part h)
    ∷ each t (λ x h. ipc_without_send h)
    ∷ each t (λ x h. idle_without_flags h)
    ∷ each t (λ x h. release_has_target t.n h)
    ∷ each t (λ x h. receivers_send_clear h)
    ∷ each t (λ x h. senders_send_set h)
    ∷ each t (copies_to_ready t)
    ∷ rules_fit t.n t.rules
    ∷ []

-- a table is well-formed
unfoldable pub well_formed : Table → Bool
well_formed t = all_of (clauses t)
