-- A thread in copy and its receiver: what is known of both.
use mathlib.Core.Path.{◌≡◌, sym, ◌∙◌, subst}
use mathlib.Core.Logic.{◌≢◌}
use mathlib.Core.Bool.{true}
use Prim.Native.Nat.{ℕ, ◌≤◌, ◌<◌}
use lib.Dec.{eqb}
use borrow.Author.Tests.{eqb-true}
use Rattle.model.specs.declared.Outcome.{Outcome}
use Rattle.model.specs.declared.Thread.{Thread}
use Rattle.model.specs.Codes.{running, same_code, nobody}
use Rattle.model.specs.Operations.{word_limit}
use Rattle.model.specs.Phases.{copy, phase_of, is_one_of}
use Rattle.model.specs.Queues.{ready}
use Rattle.model.proofs.Laws.{and_right, alike_read, all_of-read}
use Rattle.laws.proofs.Ready.{ready_read}
use Rattle.laws.proofs.Codes.{code_is}
use Rattle.formed.specs.Groups.{outcome_fits, copies_to}
use Rattle.formed.proofs.Facts.{count_small}
use Rattle.formed.proofs.Formed.{Formed}
use Rattle.formed.proofs.Neighbours.{target-in_copy, copies-in, copier, sends-in_copy}

-- the count of a thread that runs is 0
running-count : (n : ℕ) (u : Outcome) → outcome_fits n true u ≡ true → u.count ≡ 0
unfolding outcome_fits
running-count n u e =
    let (code, (source, (count, (runs, (bare, end))))) = all_of-read _ e in
    let is : running ≡ u.code = code_is running u.code (sym (alike_read true (same_code running u.code) runs)) in
    eqb-true u.count 0 (and_right (eqb u.source nobody) (eqb u.count 0) (rw (sym is) at bare))

module _ {n : ℕ} {T : ℕ → Thread} (F : Formed n T) (x : ℕ) (xn : x < n) (c : phase_of (T x).phase ≡ copy) where
  -- the thread
  abbrev h : Thread
  h = T x

  -- its target
  abbrev target : ℕ
  target = (T x).op.send.target

  -- it copies to its target
  pub copies-to-target : copies_to h ≡ target
  unfolding is_one_of
  copies-to-target = copies-in F x xn copy c

  -- its receiver is ready for it
  pub receiver-ready : ready (T target) x ≡ true
  receiver-ready = subst (λ (r : ℕ). ready (T r) x ≡ true) copies-to-target (F.copies x xn (rw copies-to-target (target-in_copy F x xn c).below))

  -- so its receiver runs and shows no words
  pub receiver-count : (T target).outcome.count ≡ 0
  receiver-count = running-count n (T target).outcome (rw (ready_read (T target) x receiver-ready).running at (F.own target (target-in_copy F x xn c).below).outcome)

  -- its message is short enough
  pub message-short : h.op.send.count ≤ word_limit
  message-short = count_small (F.own x xn) (sends-in_copy F x xn c)

  -- nobody else copies to its receiver, whose lock has one owner
  pub copies-alone : (y : ℕ) → y < n → y ≢ x → copies_to (T y) ≢ target
  copies-alone y yn d e = d (sym (copier F target y (target-in_copy F x xn c).below yn e) ∙ copier F target x (target-in_copy F x xn c).below xn copies-to-target)
