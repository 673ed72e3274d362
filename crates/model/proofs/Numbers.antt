-- Facts of the numbers that document 01 fixes: phases, codes, and how many threads a table has.
use mathlib.Core.Path.{◌≡◌, refl}
use mathlib.Core.Bool.{true, false}
use mathlib.Core.List.{[], ◌∷◌, map}
use Prim.Native.Nat.{ℕ, ◌≤◌}
use lib.Dec.{leb}
use borrow.Author.Tests.{leb-true, le-leb}
use Rattle.model.specs.Codes.{codes, is_failure}
use Rattle.model.specs.Phases.{Phase, idle, lock, check, copy, release, sleep, look, wake, unlock, unknown, phase_of, phase_number}
use Rattle.model.specs.WellFormed.{size_in_range}
use Rattle.model.proofs.Laws.{and_left, and_right, and-made}

-- each phase is read back from its number
pub phase-read : (p : Phase) → phase_of (phase_number p) ≡ p
unfolding phase_of
phase-read idle = refl
phase-read lock = refl
phase-read check = refl
phase-read copy = refl
phase-read release = refl
phase-read sleep = refl
phase-read look = refl
phase-read wake = refl
phase-read unlock = refl
phase-read unknown = refl

-- of the eight codes the five failures, and they alone, are below zero
pub failures : map is_failure codes ≡ false ∷ false ∷ false ∷ true ∷ true ∷ true ∷ true ∷ true ∷ []
unfolding is_failure
failures = refl

-- a number of threads that passes the test is 1 to 32
pub size-read : (n : ℕ) → size_in_range n ≡ true → (1 ≤ n) × (n ≤ 32)
unfolding size_in_range
size-read n e = (leb-true 1 n (and_left (leb 1 n) (leb n 32) e), leb-true n 32 (and_right (leb 1 n) (leb n 32) e))

-- and one that is 1 to 32 passes it
pub size-made : (n : ℕ) → 1 ≤ n → n ≤ 32 → size_in_range n ≡ true
unfolding size_in_range
size-made n some few = and-made (leb 1 n) (leb n 32) (le-leb 1 n some) (le-leb n 32 few)
