-- The actions of a step by which an operation ends or its send part does: each keeps the threads well-formed.
use mathlib.Core.Path.{◌≡◌, refl, sym, ◌∙◌}
use mathlib.Core.Bool.{Bool, true, false, not, ◌&&◌}
use Prim.Native.Nat.{ℕ, ◌≤◌, ◌<◌}
use native.Mathlib.Omega.{arith}
use lib.IntN.{ℤ}
use borrow.Author.Tests.{not-true}
use Rattle.model.specs.declared.Thread.{Thread}
use Rattle.model.specs.Lists.{update, occurs}
use Rattle.model.specs.Codes.{done, nobody, codes, running, same_code}
use Rattle.model.specs.Operations.{has_receive, receive_time}
use Rattle.model.specs.Phases.{check, copy, look, phase_of, idle, release}
use Rattle.model.specs.Threads.{no_flags}
use Rattle.model.specs.Queues.{senders, departed, ready}
use Rattle.model.specs.Locks.{lock_held}
use Rattle.model.specs.WellFormed.{is_code, sends_to}
use Rattle.model.specs.Step.{abort_send, finish_call, finish_send, abort_receive, received, own_after, other_after}
use Rattle.model.proofs.Laws.{same?}
use Rattle.laws.proofs.Lists.{update_same, update_other}
use Rattle.laws.proofs.Phases.{lock-held_in}
use Rattle.laws.proofs.Times.{left-from-code}
use Rattle.laws.proofs.Ready.{ready_read, never-ready}
use Rattle.laws.proofs.Queues.{senders-departed, silent, sends-to}
use Rattle.laws.proofs.Decided.{other_of, after_action}
use Rattle.formed.proofs.Flags.{cases, fits_in}
use Rattle.formed.specs.Groups.{phase_fits, copies_to}
use Rattle.formed.proofs.Own.{Own}
use Rattle.formed.proofs.Facts.{Other, target-other, count_small, queue-small}
use Rattle.invariant.proofs.Alone.{operation-over, operation-left, release-fits, bare-fits, received-fits, own-departed, own-ended}
use Rattle.formed.proofs.Queues.{Queues, queues_leave}
use Rattle.formed.proofs.Copies.{Copies, copies-end, copies-elsewhere}
use Rattle.formed.proofs.Formed.{owner, readings, of, Formed}
use Rattle.formed.proofs.Neighbours.{quiet-in_look, below-nobody, copies-in, sends-in_check, sends-in_copy, queued-at-target, no-copier, in-phase, in_phase_if, copies-unowned}
use Rattle.formed.proofs.Receivers.{receiver-ready, copies-alone}
use Rattle.invariant.proofs.Changed.{kept, here, there, both, formed-changed}

module _ {n : ℕ} {T : ℕ → Thread} (F : Formed n T) (x : ℕ) (xn : x < n) where
  -- the thread that steps
  abbrev h : Thread
  h = T x

  -- its target
  abbrev target : ℕ
  target = (T x).op.send.target

  -- ---- x, which sends, leaves its target's queue
  module _ (sends : h.flags.send ≡ true) where
    -- it stands in that queue
    queued : 1 ≤ occurs x (senders (T target))
    queued = queued-at-target F x xn sends

    -- its target is another thread of the table
    to : Other n x target
    to = target-other (F.own x xn) sends

    -- the clause on queues, once it has left
    left-queues : (now : ℕ → Bool) → ((u : ℕ) → now u ≡ false) → Queues n (update (of sends_to T) x now) (update (of senders T) target (senders (departed x (T target))))
    left-queues now silent =
        let w : Own n target (T target) = F.own target to.below in
        queues_leave n (of sends_to T) (of senders T) x target now _ xn to.below (sends-to h sends) silent
        (senders-departed x (T target) w.items (queue-small w) queued) F.queues

  -- check: its send is aborted
  pub abort_send_keeps : (c : ℤ) → is_code codes c ≡ true → same_code running c ≡ false → phase_of h.phase ≡ check → Formed n (after_action (abort_send c) T x)
  unfolding own_after other_after departed readings cases
  abort_send_keeps c known over p =
      let w : Own n x h = F.own x xn in
      let sends : h.flags.send ≡ true = sends-in_check F x xn p in
      let busy : (h.flags.ipc && h.flags.receiving && not h.flags.send) ≡ false = not-true _ (in-phase F x xn check p (λ v r s. not (v.ipc && v.receiving && not v.send)) refl) in
      formed-changed F x target (own_after (abort_send c) h) (other_after (abort_send c) x h (T target))
      (record {
        owner = kept refl refl;
        held = kept refl (sym (lock-held_in h check p));
        sends = here refl;
        queue = there (to sends).apart refl;
        copies = kept refl (sym (copies-in F x xn check p));
        ready = kept refl (never-ready (own_after (abort_send c) h) refl ∙ sym (never-ready h busy));
      })
      (record {
        other = λ rn. own-departed (F.own target rn) x (queued sends);
        own = record {
          flags = in-phase F x xn check p (λ v r s. fits_in release no_flags false s) refl;
          outcome = bare-fits n c known over;
          operation = operation-over n x _ h.left;
          phase = release-fits n x h.op.send h.copied h.waking (to sends);
          queue = w.queue;
          items = w.items;
        };
        queues = left-queues sends _ (λ u. refl);
        owners = F.owners;
        chains = F.chains;
        copies = F.copies;
      })

  -- look: its receive is aborted
  pub abort_receive_keeps : (c : ℤ) → is_code codes c ≡ true → same_code running c ≡ false → phase_of h.phase ≡ look → h.owner ≡ nobody → Formed n (after_action (abort_receive c) T x)
  unfolding own_after other_after readings cases phase_fits
  abort_receive_keeps c known over p unowned =
      let w : Own n x h = F.own x xn in
      formed-changed F x (other_of (abort_receive c) h) (own_after (abort_receive c) h) (other_after (abort_receive c) x h (T (other_of (abort_receive c) h)))
      (record {
        owner = kept refl refl;
        held = kept refl (sym (lock-held_in h look p));
        sends = kept refl (sym (silent h (quiet-in_look F x xn p)));
        queue = kept refl refl;
        copies = kept refl (sym (copies-in F x xn look p));
        ready = here refl;
      })
      (record {
        other = F.own (other_of (abort_receive c) h);
        own = record {
          flags = in-phase F x xn look p (λ v. fits_in idle no_flags) refl;
          outcome = bare-fits n c known over;
          operation = operation-over n x h.op h.left;
          phase = refl;
          queue = w.queue;
          items = w.items;
        };
        queues = F.queues;
        owners = F.owners;
        chains = F.chains;
        copies = copies-unowned F x xn unowned _;
      })

  -- ---- copy: its message is delivered, with a receive part or without
  module _ (p : phase_of h.phase ≡ copy) (unowned : h.owner ≡ nobody) where
    -- it sends
    sends : h.flags.send ≡ true
    sends = sends-in_copy F x xn p

    -- x copies to nobody any more, and neither x nor its target is copied to
    copies-over : (a b : ℕ → Bool) → Copies n (update (of copies_to T) x nobody) (update (update (of ready T) target a) x b)
    copies-over a b =
        let l = below-nobody F in
        let below = (to sends).below in
        copies-elsewhere n (update (of copies_to T) x nobody) (update (of ready T) target a) x b
        (λ y yn. same? y x (λ e. rw (e, update_same) (omega arith)) (λ d. rw (update_other (of copies_to T) x nobody y d) (no-copier F x xn unowned y yn)))
        (copies-elsewhere n (update (of copies_to T) x nobody) (of ready T) target a
        (λ y yn. same? y x (λ e. rw (e, update_same) (omega arith)) (λ d. rw (update_other (of copies_to T) x nobody y d) (copies-alone F x xn p y yn d)))
        (copies-end n (of copies_to T) (of ready T) x l F.copies))

    -- the receiver's operation ends
    own-received : target < n → Own n target (received x h (T target))
    unfolding received departed
    own-received rn =
        own-ended (own-departed (F.own target rn) x (queued sends))
        (ready_read (T target) x (receiver-ready F x xn p)).not_sending _ (received-fits n x h.op.send.count xn (count_small (F.own x xn) sends))

    -- it sent to nobody and does not now
    receiver-silent : ◌≡◌ {A = ℕ → Bool} (λ u. false) (sends_to (T target))
    receiver-silent = sym (silent (T target) (ready_read (T target) x (receiver-ready F x xn p)).not_sending)

    -- x becomes f, which still holds its target's lock and neither sends nor copies
    delivered_keeps : (f : Thread) → Own n x f → f.owner ≡ h.owner → lock_held f ≡ target → ((u : ℕ) → sends_to f u ≡ false) → senders f ≡ senders h → copies_to f ≡ nobody
        → Formed n (update (update T target (received x h (T target))) x f)
    unfolding received departed readings
    delivered_keeps f own owner held quiet queue still =
        formed-changed F x target f (received x h (T target))
        (record {
          owner = kept refl owner;
          held = kept refl (held ∙ sym (lock-held_in h copy p));
          sends = here receiver-silent;
          queue = there (to sends).apart queue;
          copies = here refl;
          ready = both;
        })
        (record {
          other = own-received;
          own = own;
          queues = left-queues sends _ quiet;
          owners = F.owners;
          chains = F.chains;
          copies = rw still (copies-over _ _);
        })

    -- with a receive part
    pub finish_call_keeps : has_receive h.op.receive ≡ true → Formed n (after_action finish_call T x)
    unfolding own_after other_after readings cases
    finish_call_keeps receives = let w : Own n x h = F.own x xn in
        delivered_keeps (own_after finish_call h)
        (record {
          flags = in_phase_if F x xn copy p (λ v r s. r) (λ v r s. fits_in release (record { ipc = v.ipc; send = false; receiving = v.receiving; poll = false; mark = v.mark }) r s) refl receives;
          outcome = w.outcome;
          operation = operation-left n x h.flags.ipc h.op h.left _ (λ i e. left-from-code (receive_time h.op.receive)) w.operation;
          phase = release-fits n x h.op.send h.copied h.waking (to sends);
          queue = w.queue;
          items = w.items;
        })
        refl refl (λ u. refl) refl refl

    -- without one
    pub finish_send_keeps : Formed n (after_action finish_send T x)
    unfolding own_after other_after readings cases is_code
    finish_send_keeps = let w : Own n x h = F.own x xn in
        delivered_keeps (own_after finish_send h)
        (record {
          flags = in-phase F x xn copy p (λ v. fits_in release no_flags) refl;
          outcome = bare-fits n done refl refl;
          operation = operation-over n x h.op h.left;
          phase = release-fits n x h.op.send h.copied h.waking (to sends);
          queue = w.queue;
          items = w.items;
        })
        refl refl (λ u. refl) refl refl
