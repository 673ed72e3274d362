-- The conditions of an atomic event and the test for them are the same.
use mathlib.Core.Path.{◌≡◌, refl, sym, subst}
use mathlib.Core.Logic.{◌↔◌}
use mathlib.Core.Bool.{true≢false, true, false, not, ◌&&◌}
use mathlib.Core.Option.{none, some}
use Prim.Native.Nat.{ℕ}
use lib.Dec.{eqb}
use lib.IntN.{ℤ}
use borrow.Author.Tests.{eqb-true, eq-eqb, lt-ltb, ltb-true, not-true}
use Rattle.model.specs.Codes.{same_code, send_cancelled, send_time_over, receive_cancelled, receive_time_over}
use Rattle.model.specs.Atomic.{Run, nothing, sending, receiving, Machine, Event, begins, cancels, ticks, rendezvous, aborts, runs, QueuedAt, accepts_in, NoneAcceptable, CanAbort, Can, ready_for}
use Rattle.model.specs.Linearization.{Entry, Allowed}
use Rattle.model.specs.Lists.{implies}
use Rattle.model.specs.Operations.{receive_time}
use Rattle.model.proofs.Replay.{sends_now_to, none_acceptable, abort_test, can_test, allowed_test}
use Rattle.laws.proofs.Codes.{code_is}
use Rattle.model.proofs.Laws.{implies-made, ◌and◌, all_of-made, all-below-made, by, and_left, and_right, implies-read, all_of-read, all-below-read}

-- what runs is a send to r, by the test
queued-read : (p : Machine) (s r : ℕ) (run : Run) → (p s).run ≡ run → sends_now_to run r ≡ true → QueuedAt p s r
queued-read p s r nothing i e = absurd (true≢false (sym e))
queued-read p s r (sending o) i e = record { operation = o; runs = i; target = eqb-true o.send.target r e }
queued-read p s r (receiving w) i e = absurd (true≢false (sym e))

-- what does not run is nothing
runs-nothing : (run : Run) → runs run ≡ false → run ≡ nothing
runs-nothing nothing e = refl
runs-nothing (sending o) e = absurd (true≢false e)
runs-nothing (receiving w) e = absurd (true≢false e)

module _ (n : ℕ) (p : Machine) where
  -- a queued sender sends now
  queued-tested : (s r : ℕ) → QueuedAt p s r → sends_now_to (p s).run r ≡ true
  queued-tested s r q = rw q.runs (eq-eqb q.operation.send.target r q.target)

  -- where no acceptable sender is queued, the test holds
  none-tested : (r : ℕ) → NoneAcceptable n p r → none_acceptable n p r ≡ true
  unfolding none_acceptable
  none-tested r h = all-below-made n _ (λ s sn. implies-made (sends_now_to (p s).run r) (not (accepts_in (p r).run s)) (λ e. rw (h s sn (queued-read p s r (p s).run refl e)) refl))

  -- where the test holds, no acceptable sender is queued
  none_read : (r : ℕ) → none_acceptable n p r ≡ true → NoneAcceptable n p r
  unfolding none_acceptable
  none_read r e s sn q = not-true (accepts_in (p r).run s) (implies-read _ _ (all-below-read n _ e s sn) (queued-tested s r q))

  -- an abort that is allowed passes its test
  abort_tested : (x : ℕ) (c : ℤ) → CanAbort n p x c → abort_test n p x c (p x).run ≡ true
  unfolding abort_test
  abort_tested x c (CanAbort.cancelled_sending o r m) = rw (r, m) refl
  abort_tested x c (CanAbort.late_sending o r l k) = rw (r, l, k) refl
  abort_tested x c (CanAbort.cancelled_receiving w r m) = rw (r, m) refl
  abort_tested x c (CanAbort.late_receiving w r l k) = rw (r, l) (implies-made (eqb (receive_time w) 0) _ (λ e. none-tested x (k (eqb-true (receive_time w) 0 e))))

  -- an event that is allowed passes its test
  can_tested : (e : Event) → Can n e p → can_test n e p ≡ true
  unfolding can_test
  can_tested (begins x o) h = all_of-made _ (lt-ltb x n h.0 and rw h.1 refl and tt)
  can_tested (cancels x) h = lt-ltb x n h
  can_tested ticks h = refl
  can_tested (rendezvous s r) h = all_of-made _ (lt-ltb s n h.0 and lt-ltb r n h.1 and queued-tested s r h.2 and h.3 and tt)
  can_tested (aborts x c) h = all_of-made _ (lt-ltb x n h.0 and abort_tested x c h.1 and tt)

  -- where the test for an abort holds, it is allowed
  abort_read : (x : ℕ) (c : ℤ) (run : Run) → (p x).run ≡ run → abort_test n p x c run ≡ true → CanAbort n p x c
  unfolding abort_test
  abort_read x c nothing i e = absurd (true≢false (sym e))
  abort_read x c (sending o) i e =
      let ready = ready_for p o.send.target x in
      by (same_code c send_cancelled && (p x).mark)
      (λ f. subst (CanAbort n p x) (sym (code_is c send_cancelled (and_left _ _ f))) (CanAbort.cancelled_sending o i (and_right (same_code c send_cancelled) (p x).mark f)))
      (λ f. let g : (same_code c send_time_over && (eqb (p x).left 0 && not ready)) ≡ true = rw f at e in
      let late : (eqb (p x).left 0 && not ready) ≡ true = and_right (same_code c send_time_over) _ g in
      subst (CanAbort n p x) (sym (code_is c send_time_over (and_left (same_code c send_time_over) _ g)))
      (CanAbort.late_sending o i (eqb-true (p x).left 0 (and_left _ (not ready) late)) (not-true ready (and_right (eqb (p x).left 0) _ late))))
  abort_read x c (receiving w) i e =
      by (same_code c receive_cancelled && (p x).mark)
      (λ f. subst (CanAbort n p x) (sym (code_is c receive_cancelled (and_left _ _ f))) (CanAbort.cancelled_receiving w i (and_right (same_code c receive_cancelled) (p x).mark f)))
      (λ f. let unless-0 = implies (eqb (receive_time w) 0) (none_acceptable n p x) in
      let g : (same_code c receive_time_over && (eqb (p x).left 0 && unless-0)) ≡ true = rw f at e in
      let late : (eqb (p x).left 0 && unless-0) ≡ true = and_right (same_code c receive_time_over) _ g in
      subst (CanAbort n p x) (sym (code_is c receive_time_over (and_left (same_code c receive_time_over) _ g)))
      (CanAbort.late_receiving w i (eqb-true (p x).left 0 (and_left _ unless-0 late)) (λ z. none_read x (implies-read _ _ (and_right (eqb (p x).left 0) _ late) (eq-eqb _ _ z)))))

  -- where the test for an event holds, its conditions do
  can-read : (e : Event) → can_test n e p ≡ true → Can n e p
  unfolding can_test
  can-read (begins x o) t = let (below, (rests, end)) = all_of-read _ t in (ltb-true x n below, runs-nothing (p x).run (not-true (runs (p x).run) rests))
  can-read (cancels x) t = ltb-true x n t
  can-read ticks t = tt
  can-read (rendezvous s r) t = let (sn, (rn, (sends, (ready, end)))) = all_of-read _ t in (ltb-true s n sn, ltb-true r n rn, queued-read p s r (p s).run refl sends, ready)
  can-read (aborts x c) t = let (below, (abort, end)) = all_of-read _ t in (ltb-true x n below, abort_read x c (p x).run refl abort)

  -- the conditions of an event and their test are the same
  pub can_same : (e : Event) → (Can n e p) ↔ (can_test n e p ≡ true)
  can_same e = (can_tested e, can-read e)

  -- an entry that is allowed passes its test
  pub allowed-tested : (e : Entry) → Allowed n e p → allowed_test n e p ≡ true
  allowed-tested none h = refl
  allowed-tested (some e) h = can_tested e h
