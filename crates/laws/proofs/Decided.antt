-- What a step has tested when it settles on an action, and which other thread the action concerns.
use mathlib.Core.Path.{◌≡◌, refl, ap, sym, ◌∙◌}
use mathlib.Core.Logic.{◌≢◌, ◌⊎◌, inl, inr}
use mathlib.Core.Bool.{Bool, true, false, not, cond, ◌||◌, true≢false}
use mathlib.Core.Option.{Option, none, some, get_or}
use Prim.Native.Nat.{ℕ, ◌≤◌, ◌<◌}
use lib.Dec.{eqb, leb, ltb}
use lib.IntN.{ℤ}
use borrow.Author.Tests.{eqb-true, eqb-false, ltb-true, ltb-false}
use Rattle.model.specs.declared.Thread.{Thread}
use Rattle.model.specs.declared.Table.{Table}
use Rattle.model.specs.Answers.{held}
use Rattle.model.specs.Codes.{receive_time_over, send_time_over, receive_cancelled, send_cancelled, nobody}
use Rattle.model.specs.Operations.{has_receive, receive_time}
use Rattle.model.specs.Lists.{update}
use Rattle.model.specs.Times.{is_hard}
use Rattle.model.specs.Phases.{Phase, idle, lock, check, copy, release, sleep, look, wake, unlock, unknown, phase_of}
use Rattle.model.specs.Threads.{at}
use Rattle.model.specs.Locks.{lock_free}
use Rattle.model.specs.Queues.{find_sender, ready}
use Rattle.model.specs.Step.{Action, stay, take_lock, abort_send, start_copy, to_release, copy_word, finish_call, finish_send, free_target, retry, to_idle, abort_receive, take_sender, clear_poll, free_sender, other_in, other, overdue, look_at, decide_in, decide, own_after, other_after}
use Rattle.model.proofs.Laws.{by, and_left, and_right}

-- a free lock is owned by nobody
pub lock-free-read : (h : Thread) → lock_free h ≡ true → h.owner ≡ nobody
unfolding lock_free
lock-free-read h e = eqb-true h.owner nobody e

-- an overdue receive has no time left
pub overdue-late : (h : Thread) → overdue h ≡ true → h.left ≡ 0
unfolding overdue
overdue-late h e = eqb-true h.left 0 (and_right (is_hard (receive_time h.op.receive)) _ e)

-- and its time code is not 0
pub overdue_hard : (h : Thread) → overdue h ≡ true → receive_time h.op.receive ≢ 0
unfolding overdue is_hard
overdue_hard h e z =
    let low : leb 1 (receive_time h.op.receive) ≡ true = and_left _ _ (and_left (is_hard (receive_time h.op.receive)) _ e) in
    true≢false (sym low ∙ rw z refl)

-- ---- the other thread
-- the thread that a step reads or changes besides its own, by the phase that the thread is known to be in
pub other-in : (h : Thread) (p : Phase) → phase_of h.phase ≡ p → other h ≡ other_in p h
unfolding other
other-in h p e = ap (λ (q : Phase). other_in q h) e

-- the other thread by the action; nobody where the action does not tell it, which then changes none
abbrev pub other_of : Action → Thread → ℕ
other_of (stay a) h = nobody
other_of take_lock h = h.op.send.target
other_of (abort_send c) h = h.op.send.target
other_of start_copy h = h.op.send.target
other_of to_release h = h.op.send.target
other_of copy_word h = h.op.send.target
other_of finish_call h = h.op.send.target
other_of finish_send h = h.op.send.target
other_of (free_target p) h = h.op.send.target
other_of retry h = nobody
other_of to_idle h = nobody
other_of (abort_receive c) h = nobody
other_of (take_sender s) h = s
other_of clear_poll h = h.waking
other_of free_sender h = h.waking

-- the threads after an action of thread x
abbrev pub after_action : Action → (ℕ → Thread) → ℕ → ℕ → Thread
after_action a T x = update (update T (other_of a (T x)) (other_after a x (T x) (T (other_of a (T x))))) x (own_after a (T x))

-- ---- the tests of thread x's step
module _ (t : Table) (x : ℕ) where
  -- thread x is in phase p
  abbrev pub In : Phase → Type 0
  In p = phase_of (at t x).phase ≡ p

  -- thread x's target
  abbrev pub target : ℕ
  target = (at t x).op.send.target

  -- why a send is aborted, by the code
  pub data AbortsSend : ℤ → Type 0 where
    cancelled : (at t x).flags.mark ≡ true → AbortsSend send_cancelled
    late : (at t x).flags.mark ≡ false → ready (at t target) x ≡ false → (at t x).left ≡ 0 → AbortsSend send_time_over

  -- why a receive is aborted, by the code
  pub data AbortsReceive : ℤ → Type 0 where
    cancelled : (at t x).flags.mark ≡ true → AbortsReceive receive_cancelled
    late : (at t x).flags.mark ≡ false → (at t x).left ≡ 0 → (receive_time (at t x).op.receive ≡ 0 → find_sender (at t x) ≡ none) → AbortsReceive receive_time_over

  -- why a thread goes to a phase when it has freed its target's lock
  pub data GoesOn : Phase → Type 0 where
    sending : (at t x).flags.send ≡ true → GoesOn sleep
    receiving : (at t x).flags.send ≡ false → (at t x).flags.ipc ≡ true → GoesOn look
    ended : (at t x).flags.send ≡ false → (at t x).flags.ipc ≡ false → GoesOn idle

  -- why a receiver takes the lock of sender s
  pub record TakesSender (s : ℕ) : Type 0 where
    pub running : (at t x).flags.ipc ≡ true
    pub unmarked : (at t x).flags.mark ≡ false
    pub finds : find_sender (at t x) ≡ some s
    pub polls : (at t s).flags.poll ≡ true
    pub free : (at t s).owner ≡ nobody

  -- for each action the tests that led to it; a step that stays changes nothing, and nothing is asked of it
  abbrev pub TestedFor : Action → Type 0
  TestedFor (stay a) = Unit {0}
  TestedFor take_lock = In lock × ((at t target).owner ≡ nobody)
  TestedFor (abort_send c) = In check × AbortsSend c
  TestedFor start_copy = In check × ((at t x).flags.mark ≡ false) × (ready (at t target) x ≡ true)
  TestedFor to_release = In check × ((at t x).flags.mark ≡ false) × (ready (at t target) x ≡ false) × ((at t x).left ≢ 0)
  TestedFor copy_word = In copy × ((at t x).copied < (at t x).op.send.count)
  TestedFor finish_call = In copy × ((at t x).op.send.count ≤ (at t x).copied) × (has_receive (at t x).op.receive ≡ true)
  TestedFor finish_send = In copy × ((at t x).op.send.count ≤ (at t x).copied) × (has_receive (at t x).op.receive ≡ false)
  TestedFor (free_target p) = In release × GoesOn p
  TestedFor retry = In sleep × ((not (at t x).flags.poll || (at t x).flags.mark || eqb (at t x).left 0) ≡ true)
  TestedFor to_idle = In look × ((at t x).flags.ipc ≡ false)
  TestedFor (abort_receive c) = In look × ((at t x).flags.ipc ≡ true) × AbortsReceive c
  TestedFor (take_sender s) = In look × TakesSender s
  TestedFor clear_poll = In wake
  TestedFor free_sender = In unlock

  -- a choice by a test has been tested for what either side has
  chosen : (b : Bool) (a c : Action) → (b ≡ true → TestedFor a) → (b ≡ false → TestedFor c) → TestedFor (cond b a c)
  chosen true a c f g = f refl
  chosen false a c f g = g refl

  -- what look has tested, with what the search finds
  looked : In look → (at t x).flags.ipc ≡ true → (at t x).flags.mark ≡ false → (o : Option ℕ) → find_sender (at t x) ≡ o → TestedFor (look_at (at t x) (at t (get_or o nobody)) o)
  unfolding look_at
  looked p runs unmarked (some s) e =
      chosen (overdue (at t x)) (abort_receive receive_time_over) _ (λ i. (p, runs, AbortsReceive.late unmarked (overdue-late (at t x) i) (λ z. absurd (overdue_hard (at t x) i z)))) (λ k.
      chosen (at t s).flags.poll (cond (lock_free (at t s)) (take_sender s) _) _
      (λ i. chosen (lock_free (at t s)) (take_sender s) _ (λ j. (p, record { running = runs; unmarked = unmarked; finds = e; polls = i; free = lock-free-read (at t s) j })) (λ j. tt))
      (λ i. tt))
  looked p runs unmarked none e =
      chosen (eqb (at t x).left 0) (abort_receive receive_time_over) _ (λ i. (p, runs, AbortsReceive.late unmarked (eqb-true (at t x).left 0 i) (λ z. e))) (λ i. tt)

  -- what each phase has tested
  decided_in : (p : Phase) → In p → TestedFor (decide_in p x (at t x) (at t (other_in p (at t x))))
  unfolding decide_in
  decided_in idle p = tt
  decided_in lock p = chosen (lock_free (at t target)) take_lock _ (λ i. (p, lock-free-read (at t target) i)) (λ i. tt)
  decided_in check p =
      chosen (at t x).flags.mark (abort_send send_cancelled) _ (λ i. (p, AbortsSend.cancelled i)) (λ i.
      chosen (ready (at t target) x) start_copy _ (λ j. (p, i, j)) (λ j.
      chosen (eqb (at t x).left 0) (abort_send send_time_over) to_release (λ k. (p, AbortsSend.late i j (eqb-true (at t x).left 0 k))) (λ k. (p, i, j, eqb-false (at t x).left 0 k))))
  decided_in copy p =
      chosen (ltb (at t x).copied (at t x).op.send.count) copy_word _ (λ i. (p, ltb-true (at t x).copied (at t x).op.send.count i)) (λ i.
      let all = ltb-false (at t x).copied (at t x).op.send.count i in
      chosen (has_receive (at t x).op.receive) finish_call finish_send (λ j. (p, all, j)) (λ j. (p, all, j)))
  decided_in release p =
      chosen (at t x).flags.send (free_target sleep) _ (λ i. (p, sending i)) (λ i.
      chosen (at t x).flags.ipc (free_target look) (free_target idle) (λ j. (p, receiving i j)) (λ j. (p, ended i j)))
  decided_in sleep p = chosen (not (at t x).flags.poll || (at t x).flags.mark || eqb (at t x).left 0) retry _ (λ i. (p, i)) (λ i. tt)
  decided_in look p =
      chosen (at t x).flags.ipc _ to_idle (λ i.
      chosen (at t x).flags.mark (abort_receive receive_cancelled) _ (λ j. (p, i, AbortsReceive.cancelled j)) (λ j. looked p i j (find_sender (at t x)) refl))
      (λ i. (p, i))
  decided_in wake p = p
  decided_in unlock p = p
  decided_in unknown p = tt

  -- a step has tested what its action says
  pub decided : TestedFor (decide t x)
  unfolding decide other
  decided = chosen (lock_free (at t x)) (decide_in (phase_of (at t x).phase) x (at t x) _) (stay held) (λ i. decided_in (phase_of (at t x).phase) refl) (λ i. tt)

  -- a step that finds its own lock taken does nothing, so in every other the lock is free
  pub own-lock-free : (decide t x ≡ stay held) ⊎ (lock_free (at t x) ≡ true)
  unfolding decide
  own-lock-free = by (lock_free (at t x)) inr (λ i. inl (rw i refl))

  -- the other thread of a step is the one that its action tells, or the action changes no other thread
  pub other-is : (a : Action) → TestedFor a → (other (at t x) ≡ other_of a (at t x)) ⊎ ((r : Thread) → other_after a x (at t x) r ≡ r)
  unfolding other_after
  other-is (stay a) f = inr (λ r. refl)
  other-is take_lock f = inl (other-in (at t x) lock f.0)
  other-is (abort_send c) f = inl (other-in (at t x) check f.0)
  other-is start_copy f = inl (other-in (at t x) check f.0)
  other-is to_release f = inl (other-in (at t x) check f.0)
  other-is copy_word f = inl (other-in (at t x) copy f.0)
  other-is finish_call f = inl (other-in (at t x) copy f.0)
  other-is finish_send f = inl (other-in (at t x) copy f.0)
  other-is (free_target p) f = inl (other-in (at t x) release f.0)
  other-is retry f = inr (λ r. refl)
  other-is to_idle f = inr (λ r. refl)
  other-is (abort_receive c) f = inr (λ r. refl)
  other-is (take_sender s) f = inl (rw (other-in (at t x) look f.0, f.1.finds) refl)
  other-is clear_poll f = inl (other-in (at t x) wake f)
  other-is free_sender f = inl (other-in (at t x) unlock f)
