-- Laws of reasons as text, and of words that are said.
use Rattle.std.proofs.Common.{◌≢◌, ◌≡◌, refl, sym, ◌∙◌, ap, true, false, not, List, [], ◌∷◌, ◌++◌, append_assoc, append-nil, ℕ, zero, suc, ◌≤◌, eqb, length, drop, arith}
use Rattle.std.proofs.Math.ListN.{get_or-eq_default}
use Rattle.std.proofs.Math.Seq.{drop-nil}
use Rattle.std.proofs.lemmas.Bool.{eqb-false}
use borrow.Author.Tests.{eq-eqb, ne_eqb}
use Rattle.model.specs.Lists.{up_to}
use Rattle.model.specs.Schedule.{is_empty}
use Rattle.model.specs.Bondtrace.{ascii}
use Rattle.language.specs.Words.{words}
use Rattle.language.specs.Commands.{not_number, reasons, reason_text}
use Rattle.letters.specs.declared.Reason.{Reason}
use Rattle.letters.specs.declared.Reason.TheVariants.{NotNumber}
use Rattle.letters.specs.Measured.{number_of}
use Rattle.scanning.specs.Scanned.{Found, between}
use Rattle.text.specs.declared.Text.{Text}
use Rattle.text.specs.Writing.{written}
use Rattle.text.proofs.Writing.{written_none, written_joined}
use Rattle.replies.specs.Replied.{names_word, named_word, behind_spaces}

-- ---- reasons
-- past the last reason there is no text
pub no-text : (k : ℕ) → 15 ≤ k → reason_text k ≡ []
unfolding reason_text reasons
no-text k past = get_or-eq_default reasons [] past

-- so there is none for a number that no reason has
pub no-reason : (k : ℕ) → k ≢ 0 → k ≢ 1 → k ≢ 2 → k ≢ 3 → k ≢ 4 → k ≢ 5 → k ≢ 6 → k ≢ 7 → k ≢ 8 → k ≢ 9 → k ≢ 10 → k ≢ 11 → k ≢ 12 → k ≢ 13 → k ≢ 14 → reason_text k ≡ []
no-reason k n0 n1 n2 n3 n4 n5 n6 n7 n8 n9 n10 n11 n12 n13 n14 = no-text k (last k (past k (half k n0 n1 n2 n3 n4 n5) n6 n7 n8 n9 n10 n11) n12 n13 n14)
  where
    half : (k : ℕ) → k ≢ 0 → k ≢ 1 → k ≢ 2 → k ≢ 3 → k ≢ 4 → k ≢ 5 → 6 ≤ k
    half k n0 n1 n2 n3 n4 n5 = omega arith

    past : (k : ℕ) → 6 ≤ k → k ≢ 6 → k ≢ 7 → k ≢ 8 → k ≢ 9 → k ≢ 10 → k ≢ 11 → 12 ≤ k
    past k h n6 n7 n8 n9 n10 n11 = omega arith

    last : (k : ℕ) → 12 ≤ k → k ≢ 12 → k ≢ 13 → k ≢ 14 → 15 ≤ k
    last k h n12 n13 n14 = omega arith

-- ---- the word that is wrong
-- a word is empty where it has no byte
no_byte : (word : List ℕ) → eqb (length word) 0 ≡ is_empty word
no_byte [] = refl
no_byte (byte ∷ word) = ne_eqb (suc (length word)) 0 (λ e. omega arith)

module _ (reason : ℕ) (word : List ℕ) where
  -- what is no number is named
  pub names_none : reason ≡ not_number → true ≡ names_word reason word
  unfolding names_word
  names_none e = rw (eq-eqb reason not_number e)

  -- of another number a word is
  pub names_other : reason ≢ not_number → not (eqb (length word) 0) ≡ names_word reason word
  unfolding names_word
  names_other n = rw (ne_eqb reason not_number n, no_byte)

  -- it is named
  pub named : names_word reason word ≡ true → named_word reason word ≡ ascii ": " ++ word
  unfolding named_word
  named e = rw e

  -- it is not
  pub not_named : names_word reason word ≡ false → named_word reason word ≡ []
  unfolding named_word
  not_named e = rw e

-- only one reason has the number of `not a number`
other-reason : (reason : Reason) → reason ≢ NotNumber → eqb (number_of reason) not_number ≡ false
other-reason NotNumber d = absurd (d refl)
other-reason _ d = refl

-- so of another reason a word is named
pub names_some : (reason : Reason) (word : List ℕ) → reason ≢ NotNumber → not (eqb (length word) 0) ≡ names_word (number_of reason) word
names_some reason word d = names_other (number_of reason) word (eqb-false (number_of reason) not_number (other-reason reason d))

-- ---- the words of a line from a place on, by the first that is found
module _ {line : List ℕ} {from start end : ℕ} (f : Found line from start end) where
  -- there is none
  pub none_left : start ≡ end → words (drop from line) ≡ []
  none_left e = f.found ∙ rw (eq-eqb start end e) refl

  -- there is one
  pub one_left : start ≢ end → words (drop from line) ≡ between start end line ∷ words (drop end line)
  one_left n = f.found ∙ rw (ne_eqb start end n) refl

-- past the end of a line there is none
pub past_end : (line : List ℕ) (at : ℕ) → length line ≤ at → words (drop at line) ≡ []
unfolding words
past_end [] at past = rw drop-nil refl
past_end (byte ∷ line) zero past = absurd (omega arith)
past_end (byte ∷ line) (suc at) past = past_end line at (omega arith)

-- ---- words written behind spaces
-- what is written of them up to a place, and what is left
pub record Saying (line : List ℕ) (from at : ℕ) (before after : Text) : Type 0 where
  pub text : List ℕ
  pub told : after ≡ written text before
  pub rest : behind_spaces (words (drop from line)) ≡ text ++ behind_spaces (words (drop at line))

-- nothing yet
pub nothing_said : (line : List ℕ) (from : ℕ) (before : Text) → Saying line from from before before
nothing_said line from before = record { text = []; told = sym (written_none before); rest = refl }

module _ {line : List ℕ} {from at : ℕ} {before middle : Text} (s : Saying line from at before middle) where
  -- one word more
  pub word-said : {first end : ℕ} {spaced after : Text} → Found line at first end → first ≢ end → spaced ≡ written (32 ∷ []) middle → after ≡ written (between first end line) spaced
      → Saying line from end before after
  unfolding behind_spaces ascii up_to
  word-said {first} {end} f n gap word = record {
    text = s.text ++ (32 ∷ between first end line);
    told = rw (word, gap, s.told, written_joined, written_joined) refl;
    rest = s.rest ∙ ap (λ (l : List (List ℕ)). s.text ++ behind_spaces l) (one_left f n) ∙ again;
  }
    where
      again : s.text ++ (32 ∷ between first end line ++ behind_spaces (words (drop end line))) ≡ s.text ++ (32 ∷ between first end line) ++ behind_spaces (words (drop end line))
      again = sym (append_assoc s.text (32 ∷ between first end line) (behind_spaces (words (drop end line))))

  -- nothing is left
  pub all_said : words (drop at line) ≡ [] → middle ≡ written (behind_spaces (words (drop from line))) before
  unfolding behind_spaces
  all_said e = rw (s.rest, e, append-nil) s.told
