use Rattle.std.proofs.Common.{◌-◌, ◌≤◌}
use Rattle.vectors.proofs.texts.respell.Given as goal

-- there are no more records than bytes, which a number of the machine counts
abbrev pub invariant-loop-byte : goal.invariant-loop-byte
invariant-loop-byte g l = (l.same ≤ l.byte) × (l.byte ≤ 18446744073709551615)

-- how many bytes can still be counted
abbrev pub decreases-loop-byte : goal.decreases-loop-byte
decreases-loop-byte g l = 18446744073709551615 - l.byte
