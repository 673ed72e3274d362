use Rattle.std.proofs.Common.{◌≡◌, refl, ◌∙◌, ℕ, ℤ, pos, nat_abs, true, false, [], ◌∷◌}
use lib.Signed.{lt_z}
use mir.Facts.{to_z-of_z}
use Rattle.model.specs.Bondtrace.{decimal, signed}
use Rattle.text.specs.declared.Text.{Text}
use Rattle.text.specs.Writing.{written}
use Rattle.text.proofs.Signs.{signed_below, signed_from_zero}
use Rattle.text.proofs.Writing.{written_joined}
use Rattle.text.proofs.Text.signed.Goals as goal
use Rattle.text.proofs.Text.signed.Goals.{then-code-lt0, else-code-lt0}

-- the sign and then the digits
below : (before : Text) {code read : ℤ} {size : ℕ} {middle after : Text} → read ≡ code → size ≡ nat_abs read → after ≡ written (decimal size) middle
    → lt_z read (pos 0) ≡ true → middle ≡ written (45 ∷ []) before → after ≡ written (signed code) before
below before {code} back sized digits negative minus = rw (digits, minus, sized, back, written_joined, signed_below code (rw back at negative)) refl

-- the digits alone
from_zero : (before : Text) {code read : ℤ} {size : ℕ} {middle after : Text} → read ≡ code → size ≡ nat_abs read → after ≡ written (decimal size) middle
    → lt_z read (pos 0) ≡ false → middle ≡ before → after ≡ written (signed code) before
from_zero before {code} back sized digits positive same = rw (digits, same, sized, back, signed_from_zero code (rw back at positive)) refl

-- a code reads back from 32 bits
pub returns : goal.returns
returns c =
    let back = to_z-of_z c.ranges.code in
    let size = c.from.ensures ∙ c.unsigned_abs.ensures.value in
    elim c.if-code-lt0.branch [
      | then-code-lt0 w ↦ below _ back size c.number.ensures w.if-code-lt0.true (w.self-is ∙ w.byte.ensures)
      | else-code-lt0 w ↦ from_zero _ back size c.number.ensures w.if-code-lt0.false w.self-is
    ]
