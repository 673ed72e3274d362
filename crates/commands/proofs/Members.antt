-- A set with one member more.
use mathlib.Core.Path.{◌≡◌, ◌∙◌}
use mathlib.Core.Bool.{true, false}
use Prim.Native.Nat.{ℕ, ◌+◌, ◌*◌, ◌%◌, ◌^◌, ◌<◌}
use native.Mathlib.Nat.{one-mul}
use native.Mathlib.Omega.{arith}
use lib.Pow.{shl_exact}
use Rattle.model.specs.Operations.{member}
use Rattle.language.specs.Commands.{with_member}

module _ (set s : ℕ) where
  -- a member that it has
  pub member-kept : member set s ≡ true → set ≡ with_member set s
  unfolding with_member
  member-kept e = rw e

  -- one that it gets
  pub member_added : member set s ≡ false → set + 2 ^ s ≡ with_member set s
  unfolding with_member
  member_added e = rw e

-- the bit of one
pub member-bit : (s : ℕ) → s < 32 → 1 * 2 ^ s % 4294967296 ≡ 2 ^ s
member-bit s l = shl_exact 1 s 32 (omega arith) (omega arith) ∙ one-mul (2 ^ s)
