use Rattle.std.proofs.Common.{◌≡◌, length}
use Rattle.schedule_text.proofs.bytes.write_lines.Given as goal

-- the lengths of the buffers for numbers and for bytes are as they were
abbrev pub invariant-loop-before : goal.invariant-loop-before
invariant-loop-before g l = (length l.numbers ≡ length l.initial.numbers) × (length l.out ≡ length l.initial.out)
