-- The clauses on a thread's phase and flags as one test. There are few flags and phases, so what follows from it is computed.
use mathlib.Core.Path.{◌≡◌, refl}
use mathlib.Core.Bool.{Bool, true, false, ◌&&◌}
use Prim.Native.Nat.{ℕ, ◌≤◌}
use native.Mathlib.Omega.{arith}
use lib.ListN.{length}
use borrow.Author.Tests.{leb-true}
use Rattle.model.specs.declared.Flags.{Flags}
use Rattle.model.specs.declared.Thread.{Thread}
use Rattle.model.specs.Lists.{implies, all_of, all_below}
use Rattle.model.specs.Operations.{has_receive}
use Rattle.model.specs.Phases.{phases, Phase, phase_number, is_one_of}
use Rattle.model.proofs.Laws.{and_left, and_right, implies-read, all_of-read, all-below-read}
use Rattle.formed.specs.Groups.{flags_fit}

-- a thread's flags fit its phase
abbrev pub FlagsFit : Thread → Type 0
FlagsFit h = flags_fit h.phase h.flags (has_receive h.op.receive) h.op.send.present ≡ true

-- ---- every case
-- f holds of true and of false
unfoldable pub for_both : (Bool → Bool) → Bool
for_both f = f true && f false

-- what holds of both holds of each
for_both-read : (f : Bool → Bool) → for_both f ≡ true → (b : Bool) → f b ≡ true
unfolding for_both
for_both-read f e true = and_left (f true) (f false) e
for_both-read f e false = and_right (f true) (f false) e

-- a test of flags, with a receive part and a send part or without
abbrev pub FlagTest : Type 0
FlagTest = Flags → Bool → Bool → Bool

-- flags that fit phase p
abbrev pub fits_in : Phase → FlagTest
fits_in p = flags_fit (phase_number p)

-- f holds of all flags
unfoldable pub always : FlagTest → Bool
always f = for_both (λ a. for_both (λ b. for_both (λ c. for_both (λ d. for_both (λ e. for_both (λ r. for_both (λ s.
    f (record { ipc = a; send = b; receiving = c; poll = d; mark = e }) r s)))))))

-- what holds of all flags holds of each
always-read : (f : FlagTest) → always f ≡ true → (v : Flags) (r s : Bool) → f v r s ≡ true
unfolding always
always-read f t v r s =
    for_both-read _ (for_both-read _ (for_both-read _ (for_both-read _ (for_both-read _ (for_both-read _ (for_both-read _ t v.ipc) v.send) v.receiving) v.poll) v.mark) r) s

-- opens what a proof needs to compute every case
unfoldable pub cases : ℕ
unfolding implies all_of all_below is_one_of flags_fit for_both always
cases = 0

-- ---- what follows from fitting flags
-- f holds of all flags that fit phase k
abbrev pub Implied : ℕ → FlagTest → Type 0
Implied k f = always (λ v r s. implies (flags_fit k v r s) (f v r s)) ≡ true

module _ (h : Thread) (fits : FlagsFit h) where
  -- of a thread in phase k
  pub told : (k : ℕ) → h.phase ≡ k → (f : FlagTest) → Implied k f → f h.flags (has_receive h.op.receive) h.op.send.present ≡ true
  told k p f t = implies-read (flags_fit k h.flags (has_receive h.op.receive) h.op.send.present) _
      (always-read (λ v r s. implies (flags_fit k v r s) (f v r s)) t h.flags (has_receive h.op.receive) h.op.send.present)
      (rw p at fits)

  -- where g holds of its flags too
  pub told_if : (k : ℕ) → h.phase ≡ k → (g f : FlagTest) → Implied k (λ v r s. implies (g v r s) (f v r s))
      → g h.flags (has_receive h.op.receive) h.op.send.present ≡ true → f h.flags (has_receive h.op.receive) h.op.send.present ≡ true
  told_if k p g f t e = implies-read _ _ (told k p (λ v r s. implies (g v r s) (f v r s)) t) e

  -- no phase has a number above 8
  pub phase-small : h.phase ≤ 8
  unfolding flags_fit
  phase-small = leb-true h.phase 8 (all_of-read _ fits).0

  -- of a thread in any phase
  pub told_any : (f : ℕ → FlagTest) → all_below (length phases) (λ k. always (λ v r s. implies (flags_fit k v r s) (f k v r s))) ≡ true
      → f h.phase h.flags (has_receive h.op.receive) h.op.send.present ≡ true
  told_any f t = let small = phase-small in
      told h.phase refl (f h.phase) (all-below-read 9 (λ k. always (λ v r s. implies (flags_fit k v r s) (f k v r s))) t h.phase (omega arith))

  -- where g holds of its flags too
  pub told_any_if : (g f : ℕ → FlagTest) → all_below (length phases) (λ k. always (λ v r s. implies (flags_fit k v r s) (implies (g k v r s) (f k v r s)))) ≡ true
      → g h.phase h.flags (has_receive h.op.receive) h.op.send.present ≡ true → f h.phase h.flags (has_receive h.op.receive) h.op.send.present ≡ true
  told_any_if g f t e = implies-read _ _ (told_any (λ k v r s. implies (g k v r s) (f k v r s)) t) e
