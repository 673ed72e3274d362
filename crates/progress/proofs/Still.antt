-- A table in which no thread's step moves: no lock is owned, and no queued sender has a target that is ready for it.
use mathlib.Core.Path.{◌≡◌, refl, sym, ap, ◌∙◌, subst}
use mathlib.Core.Logic.{◌≢◌}
use mathlib.Core.Bool.{Bool, true, false, not, cond, true≢false}
use mathlib.Core.Option.{Option, none, some, get_or}
use Prim.Native.Nat.{ℕ, zero, suc, ◌≤◌, ◌<◌}
use native.Mathlib.Omega.{arith}
use lib.Dec.{eqb, ltb}
use borrow.Author.Tests.{eq-eqb, not-true}
use Rattle.model.specs.declared.Thread.{Thread}
use Rattle.model.specs.declared.Table.{Table}
use Rattle.model.specs.Answers.{moved, replied}
use Rattle.model.specs.Lists.{occurs}
use Rattle.model.specs.Codes.{nobody}
use Rattle.model.specs.Operations.{has_receive}
use Rattle.model.specs.Phases.{Phase, idle, lock, check, copy, release, sleep, look, wake, unlock, unknown, phase_of}
use Rattle.model.specs.Threads.{at}
use Rattle.model.specs.Queues.{senders, find_sender, ready}
use Rattle.model.specs.Locks.{lock_free, lock_held_in}
use Rattle.model.specs.WellFormed.{chain, within, sends_to}
use Rattle.model.specs.Step.{Action, abort_send, start_copy, to_release, copy_word, finish_call, finish_send, free_target, other_in, other, overdue, decide_in, decide, reply_of}
use Rattle.model.specs.Rest.{stays}
use Rattle.model.proofs.Laws.{by, same?, and_left}
use Rattle.model.proofs.Chains.{chain-leaves}
use Rattle.laws.proofs.Decisions.{lock-takes, sleep_woken, look-overdue, look-takes}
use Rattle.laws.proofs.Phases.{lock-held_in}
use Rattle.laws.proofs.Ready.{IsReady, ready_read}
use Rattle.laws.proofs.Search.{found-queued, none-acceptable}
use Rattle.formed.proofs.Flags.{cases}
use Rattle.formed.proofs.Facts.{owner-below}
use Rattle.formed.proofs.Formed.{Formed, of, owner}
use Rattle.formed.proofs.Locks.{within_in}
use Rattle.formed.proofs.Neighbours.{below-nobody, in-phase, quiet-in_idle, quiet-in_look, target-in_lock, queued-sends}

-- ---- phases in which a thread holds a lock
-- an action moves
abbrev Moves : Action → Type 0
Moves a = reply_of a ≡ moved

-- a choice by a test has what both sides have
pub either : (P : Action → Type 0) (b : Bool) (a c : Action) → P a → P c → P (cond b a c)
either P true a c p q = p
either P false a c p q = q

-- a thread that holds a lock moves
pub holder_moves : (p : Phase) (target waking : ℕ) → lock_held_in p target waking ≢ nobody → (x : ℕ) (h r : Thread) → Moves (decide_in p x h r)
unfolding decide_in reply_of
holder_moves idle t w d x h r = absurd (d refl)
holder_moves lock t w d x h r = absurd (d refl)
holder_moves check t w d x h r =
    either Moves h.flags.mark (abort_send _) _ refl (either Moves (ready r x) start_copy _ refl (either Moves (eqb h.left 0) (abort_send _) to_release refl refl))
holder_moves copy t w d x h r = either Moves (ltb h.copied h.op.send.count) copy_word _ refl (either Moves (has_receive h.op.receive) finish_call finish_send refl refl)
holder_moves release t w d x h r = either Moves h.flags.send (free_target _) _ refl (either Moves h.flags.ipc (free_target _) (free_target _) refl refl)
holder_moves sleep t w d x h r = absurd (d refl)
holder_moves look t w d x h r = absurd (d refl)
holder_moves wake t w d x h r = refl
holder_moves unlock t w d x h r = refl
holder_moves unknown t w d x h r = absurd (d refl)

-- ---- a well-formed table in which no thread's step moves
module _ (t : Table) (F : Formed t.n (at t)) (quiet : (x : ℕ) → x < t.n → stays (replied (reply_of (decide t x))) ≡ true) where
  -- a thread of the table is in phase p
  abbrev In : ℕ → Phase → Type 0
  In x p = phase_of (at t x).phase ≡ p

  -- what the phase of a thread with a free lock settles on is no move
  by_phase : (x : ℕ) → x < t.n → (at t x).owner ≡ nobody → (p : Phase) → In x p → reply_of (decide_in p x (at t x) (at t (other_in p (at t x)))) ≢ moved
  unfolding decide lock_free other
  by_phase x xn e p i m =
      let settles : Phase → Action = λ q. decide_in q x (at t x) (at t (other_in q (at t x))) in
      let stay : stays (replied (reply_of (settles p))) ≡ true = subst (λ (q : Phase). stays (replied (reply_of (settles q))) ≡ true) i (rw (eq-eqb (at t x).owner nobody e) at (quiet x xn)) in
      true≢false (sym stay ∙ ap (λ a. stays (replied a)) m)

  -- ---- no lock is owned
  -- who owns a lock has its own lock owned, since it would move
  owner_owned : (r o : ℕ) → r < t.n → o < t.n → (at t r).owner ≡ o → (at t o).owner ≢ nobody
  owner_owned r o rn on e free =
      let p : Phase = phase_of (at t o).phase in
      let has : lock_held_in p (at t o).op.send.target (at t o).waking ≡ r = sym (lock-held_in (at t o) p refl) ∙ (F.owners r o rn on).0 e in
      by_phase o on free p refl (holder_moves p (at t o).op.send.target (at t o).waking (λ i. let z : r ≡ nobody = sym has ∙ i in let l = below-nobody F in omega arith) o (at t o) _)

  -- the owner of a thread's lock, as chains go
  abbrev owner_in : ℕ → ℕ
  owner_in = within t.n (of owner (at t))

  -- so a chain of owners would stay in the table
  chain-stays : (r : ℕ) → r < t.n → (at t r).owner ≢ nobody → (j : ℕ) → (chain owner_in j r < t.n) × ((at t (chain owner_in j r)).owner ≢ nobody)
  unfolding chain
  chain-stays r rn d zero = (rn, d)
  chain-stays r rn d (suc j) =
      let (below, owned) = chain-stays r rn d j in
      let c = chain owner_in j r in
      let o : (at t c).owner < t.n = owner-below (F.own c below) owned in
      rw (within_in t.n (below-nobody F) (of owner (at t)) c below) (o, owner_owned c (at t c).owner below o refl)

  -- and none does
  pub unowned : (r : ℕ) → r < t.n → (at t r).owner ≡ nobody
  unowned r rn = same? (at t r).owner nobody (λ e. e)
      (λ d. absurd (chain-leaves owner_in t.n (λ q qn k l. F.chains q qn k) r (λ j l. (chain-stays r rn d j).0)))

  -- ---- in which phases a thread is then
  -- in none does it move
  still : (x : ℕ) → x < t.n → (p : Phase) → In x p → reply_of (decide_in p x (at t x) (at t (other_in p (at t x)))) ≢ moved
  still x xn p i = by_phase x xn (unowned x xn) p i

  -- not in one that holds a lock
  holds_none : (x : ℕ) → x < t.n → (p : Phase) → In x p → lock_held_in p 0 0 ≢ nobody → ⊥
  holds_none x xn p i d = still x xn p i (holder_moves p 0 0 d x (at t x) _)

  -- but in one of these
  data Waits (x : ℕ) : Type 0 where
    in_idle : In x idle → Waits x
    in_sleep : In x sleep → Waits x
    in_look : In x look → Waits x

  waits_in : (x : ℕ) → x < t.n → (p : Phase) → In x p → Waits x
  unfolding cases reply_of
  waits_in x xn idle i = in_idle i
  waits_in x xn lock i = absurd (still x xn lock i (ap reply_of (lock-takes x (at t x) _ (unowned (at t x).op.send.target (target-in_lock F x xn i).below))))
  waits_in x xn check i = absurd (holds_none x xn check i (λ e. omega arith))
  waits_in x xn copy i = absurd (holds_none x xn copy i (λ e. omega arith))
  waits_in x xn release i = absurd (holds_none x xn release i (λ e. omega arith))
  waits_in x xn sleep i = in_sleep i
  waits_in x xn look i = in_look i
  waits_in x xn wake i = absurd (holds_none x xn wake i (λ e. omega arith))
  waits_in x xn unlock i = absurd (holds_none x xn unlock i (λ e. omega arith))
  waits_in x xn unknown i = absurd (true≢false (sym (in-phase F x xn unknown i (λ v r q. false) refl)))

  waits : (x : ℕ) → x < t.n → Waits x
  waits x xn = waits_in x xn (phase_of (at t x).phase) refl

  -- ---- no queued sender has a target that is ready for it
  -- a sender has `poll` set: it sleeps, and would go to lock if not
  polls : (s : ℕ) → s < t.n → (at t s).flags.send ≡ true → Waits s → (at t s).flags.poll ≡ true
  unfolding reply_of
  polls s sn sends (in_idle i) = absurd (true≢false (sym sends ∙ quiet-in_idle F s sn i))
  polls s sn sends (in_sleep i) = by (at t s).flags.poll (λ e. e) (λ e. absurd (still s sn sleep i (ap reply_of (sleep_woken s (at t s) _ e))))
  polls s sn sends (in_look i) = absurd (true≢false (sym sends ∙ quiet-in_look F s sn i))

  -- a thread that sends to somebody sends
  sends-read : (h : Thread) (r : ℕ) → sends_to h r ≡ true → h.flags.send ≡ true
  unfolding sends_to
  sends-read h r e = and_left h.flags.send _ e

  -- a receiver in look whose search finds a sender would take that sender's lock, or end where its limit is over
  finds-nobody : (r : ℕ) → r < t.n → In r look → (at t r).flags.ipc ≡ true → (at t r).flags.mark ≡ false → (o : Option ℕ) → find_sender (at t r) ≡ o → o ≡ none
  unfolding reply_of
  finds-nobody r rn i runs unmarked none e = refl
  finds-nobody r rn i runs unmarked (some s) e =
      let (sn, sends) = queued-sends F r s rn (found-queued (at t r) s e) in
      let found : other_in look (at t r) ≡ s = ap (λ (o : Option ℕ). get_or o nobody) e in
      let it = at t (other_in look (at t r)) in
      absurd (by (overdue (at t r))
      (λ late. still r rn look i (ap reply_of (look-overdue r (at t r) it runs unmarked late)))
      (λ early. still r rn look i (ap reply_of (look-takes r (at t r) it runs unmarked s e early
      (rw found (polls s sn (sends-read (at t s) r sends) (waits s sn))) (rw found (unowned s sn))))))

  -- a thread that is ready for a queued sender would move
  not_beside : (r s : ℕ) → r < t.n → 1 ≤ occurs s (senders (at t r)) → IsReady (at t r) s → Waits r → ⊥
  unfolding cases
  not_beside r s rn queued k (in_idle i) = true≢false (sym k.running ∙ not-true _ (in-phase F r rn idle i (λ v a b. not v.ipc) refl))
  not_beside r s rn queued k (in_sleep i) = true≢false (sym (in-phase F r rn sleep i (λ v a b. v.send) refl) ∙ k.not_sending)
  not_beside r s rn queued k (in_look i) =
      true≢false (sym k.accepting ∙ none-acceptable (at t r) s (finds-nobody r rn i k.running k.unmarked (find_sender (at t r)) refl) queued)

  -- so none is
  pub unready : (r s : ℕ) → r < t.n → 1 ≤ occurs s (senders (at t r)) → ready (at t r) s ≡ false
  unready r s rn queued = by (ready (at t r) s) (λ e. absurd (not_beside r s rn queued (ready_read (at t r) s e) (waits r rn))) (λ e. e)
