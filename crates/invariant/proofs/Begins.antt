-- Begin, cancel and tick, where they are accepted, keep the threads well-formed.
use mathlib.Core.Path.{◌≡◌, refl, sym, ◌∙◌, subst, fun_ext}
use mathlib.Core.Logic.{◌≢◌}
use mathlib.Core.Bool.{Bool, true, false, not, ◌&&◌}
use Prim.Native.Nat.{ℕ, zero, suc, ◌≤◌, ◌<◌}
use native.Mathlib.Omega.{arith}
use lib.ListN.{length}
use lib.Dec.{eqb}
use borrow.Author.Tests.{ne_eqb, not-true}
use Rattle.model.specs.declared.Operation.{Operation}
use Rattle.model.specs.declared.Thread.{Thread}
use Rattle.model.specs.declared.Table.{Table}
use Rattle.model.specs.Lists.{all_of, update}
use Rattle.model.specs.Codes.{no_receiver, nobody, code_only}
use Rattle.model.specs.Operations.{closed_on, has_receive, first_time}
use Rattle.model.specs.Times.{tick_count}
use Rattle.model.specs.Phases.{Phase, idle, lock, look, phase_of, phase_number}
use Rattle.model.specs.Threads.{at, edit_below, marked, ended}
use Rattle.model.specs.Queues.{joined, senders, ready}
use Rattle.model.specs.WellFormed.{is_code, nobody_or_below, send_in_range, receive_in_range, sends_to}
use Rattle.model.specs.Calls.{begun_flags, begun, ticked}
use Rattle.model.proofs.Laws.{implies-made, ◌and◌, all_of-made}
use Rattle.laws.proofs.Tables.{edit-at, below_length}
use Rattle.laws.proofs.Phases.{lock-held_in}
use Rattle.laws.proofs.Times.{left-from-code, left-falls}
use Rattle.laws.proofs.Ready.{never-ready}
use Rattle.laws.proofs.Queues.{senders-joined, silent, sends-nowhere}
use Rattle.formed.specs.Groups.{flags_fit, outcome_fits, operation_fits, phase_fits}
use Rattle.formed.proofs.Flags.{cases, told_any_if, fits_in}
use Rattle.formed.proofs.Own.{Own}
use Rattle.invariant.proofs.Alone.{operation-left, bare-fits, own-joined, own-ended}
use Rattle.formed.proofs.Queues.{queues-join}
use Rattle.formed.proofs.Formed.{readings, of, Formed}
use Rattle.formed.proofs.Neighbours.{quiet-in_idle, copies-in, queue-room, in-phase, copies-unowned}
use Rattle.invariant.proofs.Changed.{kept, here, there, formed-changed, formed-one}

-- what is asked of an operation that thread x begins in a table of n threads
pub record CanBegin (n x : ℕ) (o : Operation) : Type 0 where
  pub sends : send_in_range n o.send ≡ true
  pub receives : receive_in_range n o.receive ≡ true
  pub target : o.send.present ≡ true → o.send.target ≢ x
  pub partner : closed_on o.receive x ≡ false

-- the numbers of its operation fit
begun-operation : (n x : ℕ) (o : Operation) → CanBegin n x o → operation_fits n x true o (tick_count (first_time o)) ≡ true
unfolding operation_fits
begun-operation n x o l = all_of-made _ (
    implies-made true _ (λ i. l.sends)
    and implies-made true _ (λ i. l.receives)
    and implies-made true _ (λ i. left-from-code (first_time o))
    and implies-made o.send.present (not (eqb o.send.target x)) (λ e. rw (ne_eqb o.send.target x (l.target e)) refl)
    and implies-made true (not (closed_on o.receive x)) (λ i. rw l.partner refl)
    and tt)

-- a thread that begins it is well-formed by itself where its flags and numbers fit
begun-own : (n x : ℕ) (h : Thread) (o : Operation) (p : Phase) → Own n x h → CanBegin n x o → flags_fit (phase_number p) (begun_flags o) (has_receive o.receive) o.send.present ≡ true
    → phase_fits n x (phase_number p) o.send h.copied h.waking ≡ true → Own n x (begun o p h)
unfolding begun begun_flags outcome_fits all_of is_code nobody_or_below
begun-own n x h o p w l flags phase = record {
  flags = flags;
  outcome = refl;
  operation = begun-operation n x o l;
  phase = phase;
  queue = w.queue;
  items = w.items;
}

-- the flags of a thread that begins to send, with a receive part or without
lock-flags : (r : Bool) → fits_in lock (record { ipc = true; send = true; receiving = r; poll = false; mark = false }) r true ≡ true
unfolding cases
lock-flags true = refl
lock-flags false = refl

-- a thread that sends is not ready
sending-busy : (r : Bool) → (true && r && not true) ≡ false
sending-busy true = refl
sending-busy false = refl

module _ {n : ℕ} {T : ℕ → Thread} (F : Formed n T) (x : ℕ) (xn : x < n) (unowned : (T x).owner ≡ nobody) where
  -- the thread that begins or is cancelled
  abbrev h : Thread
  h = T x

  -- ---- begin, by an idle thread
  module _ (rest : phase_of h.phase ≡ idle) where
    -- it does not send
    quiet : h.flags.send ≡ false
    quiet = quiet-in_idle F x xn rest

    -- it is ready for nobody
    not-waiting : ◌≡◌ {A = ℕ → Bool} (ready h) (λ s. false)
    unfolding cases
    not-waiting = never-ready h (not-true _ (in-phase F x xn idle rest (λ v r s. not (v.ipc && v.receiving && not v.send)) refl))

    -- to send
    pub begin-send_keeps : (o : Operation) → CanBegin n x o → o.send.present ≡ true → o.send.target < n
        → Formed n (update (update T o.send.target (joined x (T o.send.target))) x (begun o lock h))
    unfolding begun begun_flags joined readings cases phase_fits
    begin-send_keeps o l sends rn =
        let r : ℕ = o.send.target in
        let f : Thread = begun o lock h in
        let room = queue-room F x r xn rn quiet in
        formed-changed F x r f (joined x (T r))
        (record {
          owner = kept refl refl;
          held = kept refl (sym (lock-held_in h idle rest));
          sends = here refl;
          queue = there (l.target sends) refl;
          copies = kept refl (sym (copies-in F x xn idle rest));
          ready = kept refl (never-ready f (rw sends (sending-busy (has_receive o.receive))) ∙ sym not-waiting);
        })
        (record {
          other = λ rn. own-joined (F.own r rn) x room;
          own = begun-own n x h o lock (F.own x xn) l (rw sends (lock-flags (has_receive o.receive))) refl;
          queues = queues-join n (of sends_to T) (of senders T) x r _ _ xn rn (sends-nowhere h quiet) (λ u. rw sends refl)
              (senders-joined x (T r) (F.own r rn).items room) F.queues;
          owners = F.owners;
          chains = F.chains;
          copies = F.copies;
        })

    -- to receive
    pub begin-receive_keeps : (o : Operation) → CanBegin n x o → o.send.present ≡ false → has_receive o.receive ≡ true → Formed n (update T x (begun o look h))
    unfolding begun begun_flags readings cases phase_fits
    begin-receive_keeps o l none receives =
        formed-one F x (begun o look h)
        (record {
          owner = kept refl refl;
          held = kept refl (sym (lock-held_in h idle rest));
          sends = kept refl (fun_ext (λ u. rw none refl) ∙ sym (silent h quiet));
          queue = kept refl refl;
          copies = kept refl (sym (copies-in F x xn idle rest));
          ready = here refl;
        })
        (record {
          other = F.own x;
          own = begun-own n x h o look (F.own x xn) l (rw (none, receives) refl) refl;
          queues = F.queues;
          owners = F.owners;
          chains = F.chains;
          copies = copies-unowned F x xn unowned _;
        })

    -- to a target that does not exist
    pub begin-beyond_keeps : Formed n (update T x (ended (code_only no_receiver) h))
    unfolding readings is_code
    begin-beyond_keeps =
        formed-one F x (ended (code_only no_receiver) h)
        (record { owner = kept refl refl; held = kept refl refl; sends = kept refl (sym (silent h quiet)); queue = kept refl refl; copies = kept refl refl; ready = here refl })
        (record {
          other = F.own x;
          own = own-ended (F.own x xn) quiet _ (bare-fits n no_receiver refl refl);
          queues = F.queues;
          owners = F.owners;
          chains = F.chains;
          copies = copies-unowned F x xn unowned _;
        })

  -- ---- cancel of a running operation
  pub cancel_keeps : h.flags.ipc ≡ true → Formed n (update T x (marked h))
  unfolding readings cases
  cancel_keeps runs =
      let w : Own n x h = F.own x xn in
      formed-one F x (marked h)
      (record { owner = kept refl refl; held = kept refl refl; sends = kept refl refl; queue = kept refl refl; copies = kept refl refl; ready = here refl })
      (record {
        other = F.own x;
        own = record {
          flags = told_any_if h w.flags (λ k v r s. v.ipc)
              (λ k v r s. flags_fit k (record { ipc = v.ipc; send = v.send; receiving = v.receiving; poll = v.poll; mark = true }) r s) refl runs;
          outcome = w.outcome;
          operation = w.operation;
          phase = w.phase;
          queue = w.queue;
          items = w.items;
        };
        queues = F.queues;
        owners = F.owners;
        chains = F.chains;
        copies = copies-unowned F x xn unowned _;
      })

-- ---- tick
-- of one thread
tick-one_keeps : (n : ℕ) (T : ℕ → Thread) (F : Formed n T) (x : ℕ) → x < n → Formed n (update T x (ticked (T x)))
unfolding ticked readings
tick-one_keeps n T F x xn =
    let w : Own n x (T x) = F.own x xn in
    formed-one F x (ticked (T x))
    (record { owner = kept refl refl; held = kept refl refl; sends = kept refl refl; queue = kept refl refl; copies = kept refl refl; ready = kept refl refl })
    (record {
      other = F.own x;
      own = record {
        flags = w.flags;
        outcome = w.outcome;
        operation = operation-left n x (T x).flags.ipc (T x).op (T x).left _ (λ i e. rw i (left-falls (T x).left e)) w.operation;
        phase = w.phase;
        queue = w.queue;
        items = w.items;
      };
      queues = F.queues;
      owners = F.owners;
      chains = F.chains;
      copies = F.copies;
    })

-- of all threads below k
pub tick_keeps : (t : Table) → length t.threads ≡ 32 → Formed t.n (at t) → (k : ℕ) → k ≤ t.n → Formed t.n (at (edit_below k ticked t))
unfolding edit_below
tick_keeps t whole F zero l = F
tick_keeps t whole F (suc k) l =
    let few = F.few in
    let before : Formed t.n (at (edit_below k ticked t)) = tick_keeps t whole F k (omega arith) in
    subst (Formed t.n) (sym (edit-at k ticked (edit_below k ticked t) (omega (arith, below_length ticked t k)))) (tick-one_keeps t.n (at (edit_below k ticked t)) before k (omega arith))
