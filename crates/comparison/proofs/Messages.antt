-- The counts and words of two entries.
use Rattle.std.proofs.Common.{◌≡◌, ◌≢◌, refl, sym, ap, ◌∙◌, Bool, false, ◌&&◌, List, [], ◌∷◌, ℕ, take, eqb}
use Rattle.std.specs.Cmp.Lexicographic.{pointwise}
use borrow.Author.Tests.{eq-eqb, ne_eqb}
use Rattle.model.specs.Lists.{same_numbers}
use Rattle.logs.specs.declared.LogEntry.{LogEntry}
use Rattle.logs.specs.Comparison.{logged, same_message}

-- entries of other counts
pub counts_differ : (a b : LogEntry) → a.count ≢ b.count → false ≡ same_message (logged a) (logged b)
unfolding logged same_message
counts_differ a b d = rw (ne_eqb _ _ d) refl

-- words are the same where `==` says so
same_words : (q r : List ℕ) → pointwise eqb q r ≡ same_numbers q r
unfolding same_numbers
same_words [] [] = refl
same_words [] (b ∷ r) = refl
same_words (a ∷ q) [] = refl
same_words (a ∷ q) (b ∷ r) = ap (λ (e : Bool). eqb a b && e) (same_words q r)

-- entries of one count, by their words up to it
pub words_decide : (a b : LogEntry) → a.count ≡ b.count → pointwise eqb (take a.count a.words) (take a.count b.words) ≡ same_message (logged a) (logged b)
unfolding logged same_message
words_decide a b e = ap (λ (n : ℕ). pointwise eqb (take a.count a.words) (take n b.words)) e ∙ same_words (take a.count a.words) (take b.count b.words)
    ∙ sym (ap (λ (t : Bool). t && same_numbers (take a.count a.words) (take b.count b.words)) (eq-eqb _ _ e))
