use Rattle.std.proofs.Common.{◌≡◌, ◌-◌, ◌≤◌, length}
use Rattle.step_printing.proofs.records.follow_rest.Given as goal

-- the store's length has not changed, and there are no more records than bytes, which a number of the machine counts
abbrev pub invariant-loop-byte : goal.invariant-loop-byte
invariant-loop-byte g l = (length l.store ≡ length l.initial.store) × (l.place ≤ l.byte) × (l.byte ≤ 18446744073709551615)

-- how many bytes can still be counted
abbrev pub decreases-loop-byte : goal.decreases-loop-byte
decreases-loop-byte g l = 18446744073709551615 - l.byte
