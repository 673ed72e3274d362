use Rattle.std.proofs.Common.{length, ◌≡◌}
use Rattle.line_input.proofs.Lines.fetch_line.Given as goal

-- the buffer is the one that was lent, and its length is as it was
abbrev pub invariant-loop : goal.invariant-loop
invariant-loop g l = (l.self.buffer.ghost_name ≡ l.initial.self.buffer.ghost_name) × (length l.self.buffer.now ≡ length l.initial.self.buffer.now)
