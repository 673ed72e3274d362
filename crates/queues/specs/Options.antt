-- What a search finds, as the code tells it.
use Rattle.std.specs.Prelude.{ℕ, Option, Some, None}
use Rattle.std.proofs.Math.Option as maybe

-- the code's `Option` for the model's
abbrev pub as_option : maybe.Option ℕ → Option ℕ
as_option maybe.none = None
as_option (maybe.some s) = Some s
