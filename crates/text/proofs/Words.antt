-- Laws of numbers and words as text: one digit or one word behind the others.
use Rattle.std.proofs.Common.{◌≡◌, refl, ℕ, ◌+◌, ◌<◌, List, [], ◌∷◌, ◌++◌, length, take, get_or}
use Rattle.std.proofs.lemmas.List.{take_more, map-append}
use Rattle.model.specs.Lists.{up_to, concat}
use Rattle.model.specs.Bondtrace.{ascii, decimal, spaced}
use Rattle.laws.proofs.Digits.{decimal-one, decimal-more}
use Rattle.laws.proofs.Joined.{concat_snoc}

-- no word is no text
pub spaced_none : spaced [] ≡ []
unfolding spaced concat
spaced_none = refl

-- the first words, a space and the next are one word more
pub spaced_more : (words : List ℕ) (i : ℕ) → i < length words → spaced (take (i + 1) words) ≡ spaced (take i words) ++ ((32 ∷ []) ++ decimal (get_or words i 0))
unfolding spaced ascii up_to
spaced_more words i inside = rw (take_more words i 0 inside, map-append, concat_snoc) refl

-- what a function that writes numbers or words one by one needs
pub ruleset numerals = (decimal-one, decimal-more, spaced_none, spaced_more)
