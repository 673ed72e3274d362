-- The actions of a step that take a lock or free one: each keeps the threads well-formed.
use mathlib.Core.Path.{◌≡◌, refl, sym, ◌∙◌, subst}
use mathlib.Core.Bool.{true≢false, true, false, not}
use Prim.Native.Nat.{ℕ, ◌≤◌, ◌<◌}
use Rattle.model.specs.declared.Thread.{Thread}
use Rattle.model.specs.Lists.{update, occurs}
use Rattle.model.specs.Codes.{nobody}
use Rattle.model.specs.Phases.{Phase, idle, lock, check, release, sleep, look, wake, unlock, phase_of, phase_number}
use Rattle.model.specs.Threads.{entering, with_owner}
use Rattle.model.specs.Queues.{senders}
use Rattle.model.specs.Locks.{lock_held}
use Rattle.model.specs.WellFormed.{nobody_or_below, sends_to}
use Rattle.model.specs.Step.{take_lock, free_target, take_sender, free_sender, own_after, other_after}
use Rattle.laws.proofs.Phases.{lock-held_in}
use Rattle.laws.proofs.Decided.{after_action}
use Rattle.laws.proofs.Queues.{sends-nowhere}
use Rattle.formed.proofs.Flags.{cases, FlagsFit, fits_in}
use Rattle.formed.specs.Groups.{phase_fits, copies_to}
use Rattle.formed.proofs.Own.{Own}
use Rattle.formed.proofs.Facts.{Other}
use Rattle.invariant.proofs.Alone.{owner-below, woken_fits, own-owner, own-entering}
use Rattle.formed.proofs.Locks.{Owners, Chains, owners-take, owners-free, chains-take, chains-free}
use Rattle.formed.proofs.Formed.{owner, readings, of, Formed}
use Rattle.formed.proofs.Neighbours.{target-in_lock, quiet-in_look, below-nobody, copies-in, target-in_release, woken_in_unlock, queued-sends, in-phase, in_phase_if}
use Rattle.invariant.proofs.Changed.{kept, here, there, formed-changed}

module _ {n : ℕ} {T : ℕ → Thread} (F : Formed n T) (x : ℕ) (xn : x < n) where
  -- the thread that steps
  abbrev h : Thread
  h = T x

  -- its target
  abbrev target : ℕ
  target = (T x).op.send.target

  -- ---- x takes a lock that nobody owns
  module _ (r : ℕ) (other : Other n x r) (unowned : h.owner ≡ nobody) (free : (T r).owner ≡ nobody) (empty : lock_held h ≡ nobody) where
    -- the clause on owners
    taken-owners : Owners n (update (of owner T) r x) (update (of lock_held T) x r)
    taken-owners = owners-take n (below-nobody F) (of owner T) (of lock_held T) x r xn other.below free empty F.owners

    -- the clause on chains
    taken-chains : Chains n (update (of owner T) r x)
    taken-chains = chains-take n (below-nobody F) (of owner T) x r xn other.below unowned (λ e. other.apart (sym e)) F.chains

    -- the other thread by itself
    taken-other : r < n → Own n r (with_owner x (T r))
    taken-other rn = own-owner (F.own r rn) x (owner-below n x xn)

  -- lock: of its target
  pub take-lock_keeps : phase_of h.phase ≡ lock → h.owner ≡ nobody → (T target).owner ≡ nobody → Formed n (after_action take_lock T x)
  unfolding own_after other_after readings cases phase_fits
  take-lock_keeps p unowned free =
      let w : Own n x h = F.own x xn in
      let r : Other n x target = target-in_lock F x xn p in
      let empty : lock_held h ≡ nobody = lock-held_in h lock p in
      formed-changed F x target (own_after take_lock h) (other_after take_lock x h (T target))
      (record {
        owner = there r.apart refl;
        held = here refl;
        sends = kept refl refl;
        queue = kept refl refl;
        copies = kept refl (sym (copies-in F x xn lock p));
        ready = kept refl refl;
      })
      (record {
        other = taken-other target r unowned free empty;
        own = record {
          flags = in-phase F x xn lock p (λ v r s. fits_in check (record { ipc = v.ipc; send = v.send; receiving = v.receiving; poll = true; mark = v.mark }) r s) refl;
          outcome = w.outcome;
          operation = w.operation;
          phase = refl;
          queue = w.queue;
          items = w.items;
        };
        queues = F.queues;
        owners = taken-owners target r unowned free empty;
        chains = taken-chains target r unowned free empty;
        copies = F.copies;
      })

  -- a sender that stands in x's queue is another thread, since x does not send in look
  pub queued-other : (s : ℕ) → phase_of h.phase ≡ look → 1 ≤ occurs s (senders h) → Other n x s
  queued-other s p queued =
      let (sn, sends) = queued-sends F x s xn queued in
      let quiet : sends_to h x ≡ false = sends-nowhere h (quiet-in_look F x xn p) x in
      record { below = sn; apart = λ e. let z : sends_to h x ≡ true = rw e at sends in true≢false (sym z ∙ quiet) }

  -- look: of a queued sender
  pub take-sender_keeps : (s : ℕ) → phase_of h.phase ≡ look → h.owner ≡ nobody → 1 ≤ occurs s (senders h) → (T s).owner ≡ nobody → Formed n (after_action (take_sender s) T x)
  unfolding own_after other_after readings cases
  take-sender_keeps s p unowned queued free =
      let w : Own n x h = F.own x xn in
      let r : Other n x s = queued-other s p queued in
      let empty : lock_held h ≡ nobody = lock-held_in h look p in
      formed-changed F x s (own_after (take_sender s) h) (other_after (take_sender s) x h (T s))
      (record {
        owner = there r.apart refl;
        held = here refl;
        sends = kept refl refl;
        queue = kept refl refl;
        copies = kept refl (sym (copies-in F x xn look p));
        ready = kept refl refl;
      })
      (record {
        other = taken-other s r unowned free empty;
        own = record {
          flags = in-phase F x xn look p (fits_in wake) refl;
          outcome = w.outcome;
          operation = w.operation;
          phase = woken_fits n x (phase_number wake) h.op.send h.copied s refl refl r.below;
          queue = w.queue;
          items = w.items;
        };
        queues = F.queues;
        owners = taken-owners s r unowned free empty;
        chains = taken-chains s r unowned free empty;
        copies = F.copies;
      })

  -- ---- x frees the lock of r, which it holds, and goes to a phase q in which it holds none
  freed_keeps : (r : ℕ) → Other n x r → lock_held h ≡ r → copies_to h ≡ nobody → (q : Phase) → FlagsFit (entering q h)
      → lock_held (entering q h) ≡ nobody → copies_to (entering q h) ≡ nobody → phase_fits n x (phase_number q) h.op.send h.copied h.waking ≡ true
      → Formed n (update (update T r (with_owner nobody (T r))) x (entering q h))
  unfolding readings nobody_or_below
  freed_keeps r other has calm q flags empty still fits =
      formed-changed F x r (entering q h) (with_owner nobody (T r))
      (record {
        owner = there other.apart refl;
        held = here refl;
        sends = kept refl refl;
        queue = kept refl refl;
        copies = kept refl (still ∙ sym calm);
        ready = kept refl refl;
      })
      (record {
        other = λ rn. own-owner (F.own r rn) nobody refl;
        own = own-entering (F.own x xn) q flags fits;
        queues = F.queues;
        owners = subst (λ (held : ℕ). Owners n (update (of owner T) r nobody) (update (of lock_held T) x held)) (sym empty)
            (owners-free n (below-nobody F) (of owner T) (of lock_held T) x r xn other.below has F.owners);
        chains = chains-free n (below-nobody F) (of owner T) r other.below F.chains;
        copies = F.copies;
      })

  -- release: of its target, and it goes on by its flags
  module _ (p : phase_of h.phase ≡ release) where
    -- it frees its target and goes to phase q
    released : (q : Phase) → FlagsFit (entering q h) → lock_held (entering q h) ≡ nobody → copies_to (entering q h) ≡ nobody
        → phase_fits n x (phase_number q) h.op.send h.copied h.waking ≡ true → Formed n (after_action (free_target q) T x)
    unfolding own_after other_after cases
    released q = freed_keeps target (target-in_release F x xn p) (lock-held_in h release p) (copies-in F x xn release p) q

    -- to sleep
    pub release-to-sleep_keeps : h.flags.send ≡ true → Formed n (after_action (free_target sleep) T x)
    unfolding readings cases phase_fits
    release-to-sleep_keeps e = released sleep (in_phase_if F x xn release p (λ v r s. v.send) (fits_in sleep) refl e) refl refl refl

    -- to look
    pub release-to-look_keeps : h.flags.send ≡ false → Formed n (after_action (free_target look) T x)
    unfolding readings cases phase_fits
    release-to-look_keeps e = released look (in_phase_if F x xn release p (λ v r s. not v.send) (fits_in look) refl (rw e refl)) refl refl refl

    -- to idle
    pub release-to-idle_keeps : h.flags.ipc ≡ false → Formed n (after_action (free_target idle) T x)
    unfolding readings cases phase_fits
    release-to-idle_keeps e = released idle (in_phase_if F x xn release p (λ v r s. not v.ipc) (fits_in idle) refl (rw e refl)) refl refl refl

  -- unlock: of the sender that it has woken
  pub free-sender_keeps : phase_of h.phase ≡ unlock → Formed n (after_action free_sender T x)
  unfolding own_after other_after readings cases phase_fits
  free-sender_keeps p = freed_keeps h.waking (woken_in_unlock F x xn p) (lock-held_in h unlock p) (copies-in F x xn unlock p) look
      (in-phase F x xn unlock p (fits_in look) refl) refl refl refl
