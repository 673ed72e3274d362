use Rattle.std.proofs.Common.{◌-◌, ◌≤◌}
use Rattle.schedule_text.proofs.texts.print_text.Given as goal

-- a number of the machine counts the bytes
abbrev pub invariant-loop-byte : goal.invariant-loop-byte
invariant-loop-byte g l = l.byte ≤ 18446744073709551615

-- how many bytes can still be counted
abbrev pub decreases-loop-byte : goal.decreases-loop-byte
decreases-loop-byte g l = 18446744073709551615 - l.byte
