-- On which action a phase settles, by the tests in the order of document 01; phases by their numbers.
use mathlib.Core.Path.{◌≡◌, refl, ◌∙◌, ap}
use mathlib.Core.Logic.{◌≢◌}
use mathlib.Core.Bool.{true, false}
use mathlib.Core.Option.{Option, none, some}
use Prim.Native.Nat.{ℕ, suc, ◌≤◌, ◌<◌}
use native.Mathlib.Omega.{arith}
use lib.ListN.{get_or-eq_default}
use borrow.Author.Tests.{lt-ltb, le-ltb, eq-eqb, ne_eqb}
use Rattle.model.specs.declared.Thread.{Thread}
use Rattle.model.specs.Answers.{wants, asleep}
use Rattle.model.specs.Codes.{receive_time_over, send_time_over, receive_cancelled, send_cancelled, nobody}
use Rattle.model.specs.Operations.{has_receive}
use Rattle.model.specs.Phases.{Phase, idle, lock, check, copy, release, sleep, look, unknown, phases, phase_of, phase_number}
use Rattle.model.specs.Locks.{lock_free}
use Rattle.model.specs.Queues.{find_sender, ready}
use Rattle.model.specs.Step.{stay, take_lock, abort_send, start_copy, to_release, copy_word, finish_call, finish_send, free_target, retry, to_idle, abort_receive, take_sender, other, overdue, look_at, decide_in}
use Rattle.model.proofs.Laws.{same?}
use Rattle.model.proofs.Numbers.{phase-read}
use Rattle.laws.proofs.Decided.{other-in, overdue-late}
use Rattle.laws.proofs.Lists.{cond-true, cond-false}

-- a thread with the number of a phase is in it
pub in_number : (p : Phase) (k : ℕ) → k ≡ phase_number p → phase_of k ≡ p
in_number p k e = ap phase_of e ∙ phase-read p

-- a number past the last phase is none
pub unknown-phase : (k : ℕ) → 9 ≤ k → phase_of k ≡ unknown
unfolding phase_of
unknown-phase k h = get_or-eq_default phases unknown h

-- a number that is at least m and is not m is larger
past : (m k : ℕ) → m ≤ k → k ≢ m → suc m ≤ k
past m k h d = omega arith

-- a number that is none of the nine is past the last
pub past-last : (k : ℕ) → k ≢ 0 → k ≢ 1 → k ≢ 2 → k ≢ 3 → k ≢ 4 → k ≢ 5 → k ≢ 6 → k ≢ 7 → k ≢ 8 → phase_of k ≡ unknown
past-last k a b c d e f g h i =
    unknown-phase k (past 8 k (past 7 k (past 6 k (past 5 k (past 4 k (past 3 k (past 2 k (past 1 k (past 0 k (omega arith) a) b) c) d) e) f) g) h) i)

-- in idle, in sleep and in no phase a step has no other thread
pub no_other : (h : Thread) → h.phase ≢ 1 → h.phase ≢ 2 → h.phase ≢ 3 → h.phase ≢ 4 → h.phase ≢ 6 → h.phase ≢ 7 → h.phase ≢ 8 → other h ≡ nobody
no_other h a b c d e f g =
    same? h.phase 0 (λ i. other-in h idle (in_number idle h.phase i)) (λ i.
    same? h.phase 5 (λ j. other-in h sleep (in_number sleep h.phase j)) (λ j.
    other-in h unknown (past-last h.phase i a b c d j e f g)))

module _ (x : ℕ) (h r : Thread) where
  -- lock: the target's lock is free
  pub lock-takes : r.owner ≡ nobody → decide_in lock x h r ≡ take_lock
  unfolding decide_in lock_free
  lock-takes e = rw (eq-eqb _ _ e) refl

  -- lock: it is taken
  pub lock-wants : r.owner ≢ nobody → decide_in lock x h r ≡ stay wants
  unfolding decide_in lock_free
  lock-wants e = rw (ne_eqb _ _ e) refl

  -- check: the own mark
  pub check-cancelled : h.flags.mark ≡ true → decide_in check x h r ≡ abort_send send_cancelled
  unfolding decide_in
  check-cancelled e = rw e refl

  -- check: the target is ready
  pub check-copies : h.flags.mark ≡ false → ready r x ≡ true → decide_in check x h r ≡ start_copy
  unfolding decide_in
  check-copies e f = rw (e, f) refl

  -- check: no time is left
  pub check-late : h.flags.mark ≡ false → ready r x ≡ false → h.left ≡ 0 → decide_in check x h r ≡ abort_send send_time_over
  unfolding decide_in
  check-late e f g = rw (e, f, eq-eqb _ _ g) refl

  -- check: else release
  pub check_releases : h.flags.mark ≡ false → ready r x ≡ false → h.left ≢ 0 → decide_in check x h r ≡ to_release
  unfolding decide_in
  check_releases e f g = rw (e, f, ne_eqb _ _ g) refl

  -- copy: a word remains
  pub copy-word : h.copied < h.op.send.count → decide_in copy x h r ≡ copy_word
  unfolding decide_in
  copy-word e = rw (lt-ltb _ _ e) refl

  -- copy: none remains, and a receive part is there
  pub copy-calls : h.op.send.count ≤ h.copied → has_receive h.op.receive ≡ true → decide_in copy x h r ≡ finish_call
  unfolding decide_in
  copy-calls e f = rw (le-ltb _ _ e, f) refl

  -- copy: none remains, and no receive part is there
  pub copy-sends : h.op.send.count ≤ h.copied → has_receive h.op.receive ≡ false → decide_in copy x h r ≡ finish_send
  unfolding decide_in
  copy-sends e f = rw (le-ltb _ _ e, f) refl

  -- release: still sending
  pub release_sleeps : h.flags.send ≡ true → decide_in release x h r ≡ free_target sleep
  unfolding decide_in
  release_sleeps e = rw e refl

  -- release: receiving
  pub release_looks : h.flags.send ≡ false → h.flags.ipc ≡ true → decide_in release x h r ≡ free_target look
  unfolding decide_in
  release_looks e f = rw (e, f) refl

  -- release: ended
  pub release-ends : h.flags.send ≡ false → h.flags.ipc ≡ false → decide_in release x h r ≡ free_target idle
  unfolding decide_in
  release-ends e f = rw (e, f) refl

  -- sleep: woken
  pub sleep_woken : h.flags.poll ≡ false → decide_in sleep x h r ≡ retry
  unfolding decide_in
  sleep_woken e = rw e refl

  -- sleep: marked
  pub sleep-marked : h.flags.poll ≡ true → h.flags.mark ≡ true → decide_in sleep x h r ≡ retry
  unfolding decide_in
  sleep-marked e f = rw (e, f) refl

  -- sleep: no time is left
  pub sleep-late : h.flags.poll ≡ true → h.flags.mark ≡ false → h.left ≡ 0 → decide_in sleep x h r ≡ retry
  unfolding decide_in
  sleep-late e f g = rw (e, f, eq-eqb _ _ g) refl

  -- sleep: else asleep
  pub sleep-stays : h.flags.poll ≡ true → h.flags.mark ≡ false → h.left ≢ 0 → decide_in sleep x h r ≡ stay asleep
  unfolding decide_in
  sleep-stays e f g = rw (e, f, ne_eqb _ _ g) refl

  -- look: finished by a sender
  pub look-ended : h.flags.ipc ≡ false → decide_in look x h r ≡ to_idle
  unfolding decide_in
  look-ended e = rw e refl

  -- look: the own mark
  pub look-cancelled : h.flags.ipc ≡ true → h.flags.mark ≡ true → decide_in look x h r ≡ abort_receive receive_cancelled
  unfolding decide_in
  look-cancelled e f = rw (e, f) refl

  module _ (runs : h.flags.ipc ≡ true) (unmarked : h.flags.mark ≡ false) where
    -- look: else by what the search finds
    look_by : (o : Option ℕ) → find_sender h ≡ o → decide_in look x h r ≡ look_at h r o
    unfolding decide_in
    look_by o e = cond-true _ _ _ runs ∙ cond-false _ _ _ unmarked ∙ ap (λ (p : Option ℕ). look_at h r p) e

    module _ (missing : find_sender h ≡ none) where
      -- look: no sender is found and no time is left
      pub look-late : h.left ≡ 0 → decide_in look x h r ≡ abort_receive receive_time_over
      unfolding look_at
      look-late e = look_by none missing ∙ cond-true _ _ _ (eq-eqb _ _ e)

      -- look: no sender is found
      pub look-waits : h.left ≢ 0 → decide_in look x h r ≡ stay asleep
      unfolding look_at
      look-waits e = look_by none missing ∙ cond-false _ _ _ (ne_eqb _ _ e)

    -- look: a limit is over, by what the search finds
    overdue_by : overdue h ≡ true → (o : Option ℕ) → find_sender h ≡ o → decide_in look x h r ≡ abort_receive receive_time_over
    unfolding look_at
    overdue_by e (some s) found = look_by (some s) found ∙ cond-true _ _ _ e
    overdue_by e none missing = look-late missing (overdue-late h e)

    -- look: a limit is over, whoever is queued
    pub look-overdue : overdue h ≡ true → decide_in look x h r ≡ abort_receive receive_time_over
    look-overdue e = overdue_by e (find_sender h) refl

    module _ (s : ℕ) (found : find_sender h ≡ some s) where
      -- look: the sender that is found does not poll
      pub look-found_awake : overdue h ≡ false → r.flags.poll ≡ false → decide_in look x h r ≡ stay asleep
      unfolding look_at
      look-found_awake d e = look_by (some s) found ∙ cond-false _ _ _ d ∙ cond-false _ _ _ e

      -- look: its lock is taken
      pub look-found-wants : overdue h ≡ false → r.flags.poll ≡ true → r.owner ≢ nobody → decide_in look x h r ≡ stay wants
      unfolding look_at lock_free
      look-found-wants d e f = look_by (some s) found ∙ rw (d, e, ne_eqb _ _ f) refl

      -- look: else it is taken now
      pub look-takes : overdue h ≡ false → r.flags.poll ≡ true → r.owner ≡ nobody → decide_in look x h r ≡ take_sender s
      unfolding look_at lock_free
      look-takes d e f = look_by (some s) found ∙ rw (d, e, eq-eqb _ _ f) refl
