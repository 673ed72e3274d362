-- A line of a buffer.
use Rattle.std.specs.Prelude.{ℕ, ◌≤◌}
use Rattle.line_input.specs.declared.Line.{Line}

-- it lies within a buffer of this length
pub record LiesIn (long : ℕ) (line : Line) : Type 0 where
  pub ordered : line.start ≤ line.stop
  pub within : line.stop ≤ long
