-- Laws of the line's parts: one dash or one sender behind the others.
use Rattle.std.proofs.Common.{◌≡◌, refl, ℕ, ◌+◌, [], ◌∷◌, ◌++◌, add-one}
use Rattle.model.specs.Lists.{up_to}
use Rattle.model.specs.Bondtrace.{ascii}
use Rattle.showing.specs.Shown.{dashes}

-- no dash is no text
pub dashes_none : dashes 0 ≡ []
unfolding dashes
dashes_none = refl

-- one more
pub dashes_more : (k : ℕ) → dashes (k + 1) ≡ dashes k ++ (32 ∷ 45 ∷ [])
unfolding dashes ascii up_to
dashes_more k = rw add-one refl
