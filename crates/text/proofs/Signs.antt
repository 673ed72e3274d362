-- A code's text by its sign and magnitude, and how long it is at most.
use Rattle.std.proofs.Common.{◌≡◌, refl, ℕ, suc, ◌^◌, ◌≤◌, ◌<◌, true, false, [], ◌∷◌, ◌++◌, length, ℤ, pos, negsuc, nat_abs, arith}
use lib.Signed.{lt_z}
use borrow.Author.Tests.{ltb-true}
use Rattle.model.specs.Lists.{up_to}
use Rattle.model.specs.Bondtrace.{ascii, decimal, signed}
use Rattle.laws.proofs.Digits.{decimal-short}

-- the text of a code below zero
pub signed_below : (z : ℤ) → lt_z z (pos 0) ≡ true → signed z ≡ (45 ∷ []) ++ decimal (nat_abs z)
unfolding signed ascii up_to
signed_below (pos n) e = let h = ltb-true n 0 e in absurd (omega arith)
signed_below (negsuc n) e = refl

-- the text of another
pub signed_from_zero : (z : ℤ) → lt_z z (pos 0) ≡ false → signed z ≡ decimal (nat_abs z)
unfolding signed
signed_from_zero (pos n) e = refl
signed_from_zero (negsuc n) e = cc

-- a code of at most k + 1 digits has one byte more, for its sign
pub signed-short : (k : ℕ) (code : ℤ) → nat_abs code < 10 ^ suc k → length (signed code) ≤ suc (suc k)
unfolding signed ascii up_to
signed-short k (pos n) small = omega (arith, decimal-short k n small)
signed-short k (negsuc n) small = omega (arith, decimal-short k (suc n) small)
