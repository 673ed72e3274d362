-- The actions of a step by which no lock changes and no operation ends: each keeps the threads well-formed.
use mathlib.Core.Path.{◌≡◌, refl, sym}
use mathlib.Core.Bool.{true, false, not}
use Prim.Native.Nat.{ℕ, ◌+◌, ◌<◌}
use native.Mathlib.Omega.{arith}
use Rattle.model.specs.declared.Thread.{Thread}
use Rattle.model.specs.Phases.{idle, lock, check, copy, release, sleep, look, wake, unlock, phase_of, phase_number}
use Rattle.model.specs.Queues.{ready}
use Rattle.model.specs.Step.{start_copy, to_release, copy_word, retry, to_idle, clear_poll, own_after, other_after}
use Rattle.laws.proofs.Phases.{lock-held_in}
use Rattle.laws.proofs.Decided.{other_of, after_action}
use Rattle.formed.proofs.Flags.{cases, fits_in}
use Rattle.formed.specs.Groups.{phase_fits, copies_to}
use Rattle.formed.proofs.Own.{Own}
use Rattle.invariant.proofs.Alone.{release-fits, copy-fits, woken_fits, own_unpolled, own-entering}
use Rattle.formed.proofs.Copies.{copies-start}
use Rattle.formed.proofs.Formed.{readings, of, Formed}
use Rattle.formed.proofs.Neighbours.{target-in_check, number, copies-in, woken_in_wake, in-phase, in_phase_if}
use Rattle.invariant.proofs.Changed.{kept, here, formed-changed}

module _ {n : ℕ} {T : ℕ → Thread} (F : Formed n T) (x : ℕ) (xn : x < n) where
  -- the thread that steps
  abbrev h : Thread
  h = T x

  -- its target
  abbrev target : ℕ
  target = (T x).op.send.target

  -- check: it starts to copy to a target that is ready
  pub start-copy_keeps : phase_of h.phase ≡ check → ready (T target) x ≡ true → Formed n (after_action start_copy T x)
  unfolding own_after other_after readings cases
  start-copy_keeps p now =
      let w : Own n x h = F.own x xn in
      formed-changed F x target (own_after start_copy h) (other_after start_copy x h (T target))
      (record {
        owner = kept refl refl;
        held = kept refl (sym (lock-held_in h check p));
        sends = kept refl refl;
        queue = kept refl refl;
        copies = here refl;
        ready = kept refl refl;
      })
      (record {
        other = F.own target;
        own = record {
          flags = in-phase F x xn check p (fits_in copy) refl;
          outcome = w.outcome;
          operation = w.operation;
          phase = copy-fits n x h.op.send 0 h.waking (omega arith);
          queue = w.queue;
          items = w.items;
        };
        queues = F.queues;
        owners = F.owners;
        chains = F.chains;
        copies = copies-start n (of copies_to T) (of ready T) x target now F.copies;
      })

  -- check: its target is not ready and time is left
  pub to-release_keeps : phase_of h.phase ≡ check → Formed n (after_action to_release T x)
  unfolding own_after other_after readings cases
  to-release_keeps p =
      let w : Own n x h = F.own x xn in
      formed-changed F x target (own_after to_release h) (other_after to_release x h (T target))
      (record {
        owner = kept refl refl;
        held = kept refl (sym (lock-held_in h check p));
        sends = kept refl refl;
        queue = kept refl refl;
        copies = kept refl (sym (copies-in F x xn check p));
        ready = kept refl refl;
      })
      (record {
        other = F.own target;
        own = own-entering w release (in-phase F x xn check p (fits_in release) refl)
            (release-fits n x h.op.send h.copied h.waking (target-in_check F x xn p));
        queues = F.queues;
        owners = F.owners;
        chains = F.chains;
        copies = F.copies;
      })

  -- copy: one word more
  pub copy-word_keeps : phase_of h.phase ≡ copy → h.copied < h.op.send.count → Formed n (after_action copy_word T x)
  unfolding own_after other_after readings
  copy-word_keeps p more =
      let w : Own n x h = F.own x xn in
      formed-changed F x target (own_after copy_word h) (other_after copy_word x h (T target))
      (record { owner = kept refl refl; held = kept refl refl; sends = kept refl refl; queue = kept refl refl; copies = kept refl refl; ready = kept refl refl })
      (record {
        other = F.own target;
        own = record {
          flags = w.flags;
          outcome = w.outcome;
          operation = w.operation;
          phase = rw (number F x xn copy p) (copy-fits n x h.op.send (h.copied + 1) h.waking (omega arith));
          queue = w.queue;
          items = w.items;
        };
        queues = F.queues;
        owners = F.owners;
        chains = F.chains;
        copies = F.copies;
      })

  -- sleep: it tries again
  pub retry_keeps : phase_of h.phase ≡ sleep → Formed n (after_action retry T x)
  unfolding own_after other_after readings cases phase_fits
  retry_keeps p =
      formed-changed F x (other_of retry h) (own_after retry h) (other_after retry x h (T (other_of retry h)))
      (record {
        owner = kept refl refl;
        held = kept refl (sym (lock-held_in h sleep p));
        sends = kept refl refl;
        queue = kept refl refl;
        copies = kept refl (sym (copies-in F x xn sleep p));
        ready = kept refl refl;
      })
      (record {
        other = F.own (other_of retry h);
        own = own-entering (F.own x xn) lock (in-phase F x xn sleep p (fits_in lock) refl) refl;
        queues = F.queues;
        owners = F.owners;
        chains = F.chains;
        copies = F.copies;
      })

  -- look: nothing runs any more
  pub to-idle_keeps : phase_of h.phase ≡ look → h.flags.ipc ≡ false → Formed n (after_action to_idle T x)
  unfolding own_after other_after readings cases phase_fits
  to-idle_keeps p over =
      formed-changed F x (other_of to_idle h) (own_after to_idle h) (other_after to_idle x h (T (other_of to_idle h)))
      (record {
        owner = kept refl refl;
        held = kept refl (sym (lock-held_in h look p));
        sends = kept refl refl;
        queue = kept refl refl;
        copies = kept refl (sym (copies-in F x xn look p));
        ready = kept refl refl;
      })
      (record {
        other = F.own (other_of to_idle h);
        own = own-entering (F.own x xn) idle (in_phase_if F x xn look p (λ v r s. not v.ipc) (fits_in idle) refl (rw over refl)) refl;
        queues = F.queues;
        owners = F.owners;
        chains = F.chains;
        copies = F.copies;
      })

  -- wake: it clears the sender's `poll`
  pub clear_poll_keeps : phase_of h.phase ≡ wake → Formed n (after_action clear_poll T x)
  unfolding own_after other_after readings cases
  clear_poll_keeps p =
      formed-changed F x h.waking (own_after clear_poll h) (other_after clear_poll x h (T h.waking))
      (record {
        owner = kept refl refl;
        held = kept refl (sym (lock-held_in h wake p));
        sends = kept refl refl;
        queue = kept refl refl;
        copies = kept refl (sym (copies-in F x xn wake p));
        ready = kept refl refl;
      })
      (record {
        other = λ rn. own_unpolled (F.own h.waking rn);
        own = own-entering (F.own x xn) unlock (in-phase F x xn wake p (fits_in unlock) refl)
            (woken_fits n x (phase_number unlock) h.op.send h.copied h.waking refl refl (woken_in_wake F x xn p).below);
        queues = F.queues;
        owners = F.owners;
        chains = F.chains;
        copies = F.copies;
      })
