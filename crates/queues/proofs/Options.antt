-- What a search finds, as the code tells it and as the model does.
use Rattle.std.proofs.Common.{◌≡◌, ℕ, refl}
use Rattle.std.specs.Prelude.{Some, None, unwrap_or}
use Rattle.std.proofs.Math.Option as maybe
use Rattle.queues.specs.Options.{as_option}

-- a sender or a number for nobody
pub option-number : (o : maybe.Option ℕ) (d : ℕ) → unwrap_or (as_option o) d ≡ maybe.get_or o d
option-number maybe.none d = refl
option-number (maybe.some s) d = refl

-- where the code has none, or s, so has the model
pub found-none : (o : maybe.Option ℕ) → None ≡ as_option o → o ≡ maybe.none
found-none maybe.none e = refl
found-none (maybe.some s) e = cc

pub found-some : (o : maybe.Option ℕ) (s : ℕ) → Some s ≡ as_option o → o ≡ maybe.some s
found-some maybe.none s e = cc
found-some (maybe.some k) s e = cc
