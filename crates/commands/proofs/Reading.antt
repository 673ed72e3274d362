-- Numbers read one after the other: what a cursor stands for after each.
use mathlib.Core.Path.{◌≡◌, refl, sym, ap, subst, ◌∙◌}
use mathlib.Core.Bool.{Bool, cond}
use mathlib.Core.List.{List, [], ◌∷◌, ◌++◌}
use Prim.Native.Nat.{ℕ, zero, suc, ◌+◌, ◌-◌, ◌*◌, ◌≤◌, ◌<◌}
use native.Mathlib.Numerals.{add-one}
use native.Mathlib.Omega.{arith}
use lib.ListN.{length, take, drop, get_or, drop_of_length-le}
use lib.Seq.{take-take, drop-cons}
use Rattle.std.specs.Prelude.{Result, Ok, Err}
use Rattle.model.specs.Lists.{bit}
use Rattle.model.specs.Refusals.{unless}
use Rattle.laws.proofs.Joined.{drop_of_take}
use Rattle.language.specs.Words.{words}
use Rattle.language.specs.Grammar.{takes_sign}
use Rattle.language.specs.Commands.{missing, is_negative, digits_of, reason_for, wrong_number, kept, Progress, stopped, reached, read_number, read_numbers, read_more}
use Rattle.scanning.specs.declared.Span.{Span}
use Rattle.scanning.specs.Scanned.{between, Found}
use Rattle.scanning.proofs.Runs.{found_none, found_word}
use Rattle.letters.specs.declared.Reason.{Reason}
use Rattle.letters.specs.declared.Reason.TheVariants.{NoCommand, NoField, NoPart, Missing, NotNumber, TooLarge, TooSmall, TooMuch, TooLong, NotRecord, TableFirst, NoChoice, RowsFull, LogFull}
use Rattle.letters.specs.Measured.{Measured, number_of}
use Rattle.commands.specs.declared.Misread.{Misread}
use Rattle.commands.specs.declared.cursors.Cursor.{Cursor}
use Rattle.commands.specs.Standing.{progress, Placed, Valued, Refuses, Reaches, Advanced, one_more, read_on}

-- ---- a refusal or a value
module _ {ℓ} {A : Type ℓ} (refused : ℕ → A) (accepted : A) where
  -- where there is no reason it is the value
  pub unless-none : (g : ℕ) → g ≡ 0 → unless g refused accepted ≡ accepted
  unfolding unless
  unless-none zero e = refl
  unless-none (suc g) e = absurd (omega arith)

  -- where there is one it is refused
  pub unless-some : (g : ℕ) → (g ≡ 0 → ⊥) → unless g refused accepted ≡ refused g
  unfolding unless
  unless-some zero d = absurd (d refl)
  unless-some (suc g) d = refl

  -- so it is by a reason
  pub unless-told : (reason : Reason) → unless (number_of reason) refused accepted ≡ refused (number_of reason)
  unfolding unless
  unless-told NoCommand = refl
  unless-told NoField = refl
  unless-told NoPart = refl
  unless-told Missing = refl
  unless-told NotNumber = refl
  unless-told TooLarge = refl
  unless-told TooSmall = refl
  unless-told TooMuch = refl
  unless-told TooLong = refl
  unless-told NotRecord = refl
  unless-told TableFirst = refl
  unless-told NoChoice = refl
  unless-told RowsFull = refl
  unless-told LogFull = refl

-- a refusal that is handed on
pub refuses_through : {A B : Type 0} {line : List ℕ} {refusal : ℕ → List ℕ → A} {a : A} {m : Misread} (told : ℕ → List ℕ → B) (f : A → B) → ((reason : ℕ) (word : List ℕ) → told reason word ≡ f (refusal reason word))
    → Refuses line refusal a m → Refuses line told (f a) m
refuses_through told f e r = record { word = r.word; means = e _ _ ∙ ap f r.means }

-- what reading comes to is what that is equal to
pub advanced_as : (line numbers : List ℕ) {p q : Progress} (most : ℕ) (r : Result Cursor Misread) → p ≡ q → Advanced line numbers p most r → Advanced line numbers q most r
advanced_as line numbers most r e a = let P : Progress → Type 0 = λ x. Advanced line numbers x most r in subst P e a

-- nothing stands between a place and itself
pub between_none : (line : List ℕ) (start end : ℕ) → start ≡ end → between start end line ≡ []
between_none line start end e = let none : end - start ≡ 0 = omega arith in rw none

-- what stands between two places of a line's front stands there in the line
pub between-front : (line : List ℕ) (front start end : ℕ) → end ≤ front → between start end (take front line) ≡ between start end line
between-front line front start end le = rw (drop_of_take start front line) (take-take (end - start) (front - start) (drop start line) (omega arith))

-- a word that is found lies within the line
pub placed_word : {line : List ℕ} {at start end : ℕ} → Found line at start end → Placed line start end
placed_word f = record { ordered = f.ordered; within = f.within }

-- ---- one word
module _ (line : List ℕ) (letter : ℕ) (word : Span) (place : Placed line word.start word.end) where
  -- it is no such number
  pub word-wrong : (numbers : List ℕ) (m : Misread) → Valued letter line word (Err m)
      → Refuses line stopped (one_more letter numbers (between word.start word.end line) (words (drop word.end line))) m
  unfolding one_more wrong_number
  word-wrong numbers m v = record { word = rw v.0 place; means = rw (v.0, v.1) (sym (unless-told _ _ m.reason)) }

  -- it is one
  pub word_read : (before after : List ℕ) (count more value : ℕ) (negative : Bool) → Measured letter (digits_of letter (between word.start word.end line)) (Ok value)
      → negative ≡ is_negative letter (between word.start word.end line)
      → take more after ≡ take count before ++ cond (takes_sign letter) (bit negative ∷ value ∷ []) (value ∷ []) → more ≤ count + 2
      → Reaches line after (one_more letter (take count before) (between word.start word.end line) (words (drop word.end line))) (count + 2) (record { at = word.end; count = more })
  unfolding one_more wrong_number kept
  word_read before after count more value negative m n t few = record {
    behind = place.within;
    few = few;
    means = rw (t, n, m.1) (sym (unless-none _ _ _ m.0));
  }

-- ---- the next word
module _ (line : List ℕ) (cursor : Cursor) (word : Span) (f : Found line cursor.at word.start word.end) where
  -- what the cursor stands for where no word is left
  pub reached-end : (numbers : List ℕ) → word.start ≡ word.end → progress line numbers cursor ≡ reached (take cursor.count numbers) []
  reached-end numbers s = ap (reached (take cursor.count numbers)) (found_none line cursor.at _ _ f s)

  -- what it stands for where one is
  pub reached-word : (numbers : List ℕ) → (word.start ≡ word.end → ⊥) → progress line numbers cursor ≡ reached (take cursor.count numbers) (between word.start word.end line ∷ words (drop word.end line))
  reached-word numbers d = ap (reached (take cursor.count numbers)) (found_word line cursor.at _ _ f d)

  module _ (letter : ℕ) where
    -- the next number is missing
    pub number-missing : (numbers : List ℕ) → word.start ≡ word.end → (reason : Reason) → number_of reason ≡ reason_for letter missing
        → Refuses line stopped (read_number letter (progress line numbers cursor)) (record { reason = reason; word = word })
    unfolding read_number
    number-missing numbers s reason is = record {
      word = placed_word f;
      means = rw (reached-end numbers s, is, between_none line word.start word.end s);
    }

    -- the next number is read
    pub number_read : (numbers : List ℕ) → (word.start ≡ word.end → ⊥)
        → one_more letter (take cursor.count numbers) (between word.start word.end line) (words (drop word.end line)) ≡ read_number letter (progress line numbers cursor)
    unfolding read_number one_more
    number_read numbers d = rw (reached-word numbers d)

-- ---- a number for each letter
-- reading that stopped stays so
numbers-stopped : (letters : List ℕ) (reason : ℕ) (word : List ℕ) → read_numbers letters (stopped reason word) ≡ stopped reason word
unfolding read_numbers read_number
numbers-stopped [] reason word = refl
numbers-stopped (letter ∷ letters) reason word = numbers-stopped letters reason word

-- the first i letters are read, from a cursor that counted so many numbers
pub record Lettered (line letters : List ℕ) (p : Progress) (count i : ℕ) (numbers : List ℕ) (last : Cursor) : Type 0 where
  pub behind : last.at ≤ length line
  pub few : last.count ≤ count + 2 * i
  pub means : read_numbers (drop i letters) (progress line numbers last) ≡ read_numbers letters p

module _ {line letters : List ℕ} {p : Progress} {count i : ℕ} {numbers : List ℕ} {last : Cursor} (l : Lettered line letters p count i numbers last) where
  -- what is left is read from the next letter on
  left-means : i < length letters → read_numbers (drop (i + 1) letters) (read_number (get_or letters i 0) (progress line numbers last)) ≡ read_numbers letters p
  unfolding read_numbers
  left-means lt = rw add-one (sym (ap (λ (left : List ℕ). read_numbers left (progress line numbers last)) (drop-cons letters i 0 lt)) ∙ l.means)

  -- one letter more
  pub lettered_more : {after : List ℕ} {next : Cursor} → i < length letters
      → Reaches line after (read_number (get_or letters i 0) (progress line numbers last)) (last.count + 2) next
      → Lettered line letters p count (i + 1) after next
  lettered_more lt a = record {
    behind = a.behind;
    few = omega (arith, l.few, a.few);
    means = ap (read_numbers (drop (i + 1) letters)) a.means ∙ left-means lt;
  }

  -- reading stops
  pub lettered_stop : {m : Misread} → i < length letters → Refuses line stopped (read_number (get_or letters i 0) (progress line numbers last)) m → Refuses line stopped (read_numbers letters p) m
  lettered_stop lt r = record {
    word = r.word;
    means = sym (numbers-stopped (drop (i + 1) letters) _ _) ∙ ap (read_numbers (drop (i + 1) letters)) r.means ∙ left-means lt;
  }

  -- every letter
  pub lettered_end : i ≡ length letters → Reaches line numbers (read_numbers letters p) (count + 2 * length letters) last
  unfolding read_numbers
  lettered_end e = record {
    behind = l.behind;
    few = omega (arith, l.few);
    means = sym (ap (λ (left : List ℕ). read_numbers left (progress line numbers last)) (drop_of_length-le letters {i = i} (omega arith))) ∙ l.means;
  }

-- ---- more numbers
-- so many more may follow, from a cursor that counted so many numbers
pub record More (line : List ℕ) (letter most : ℕ) (p : Progress) (count left : ℕ) (numbers : List ℕ) (last : Cursor) : Type 0 where
  pub behind : last.at ≤ length line
  pub few : last.count + 2 * left ≤ count + 2 * most
  pub means : read_on letter left (progress line numbers last) ≡ read_on letter most p

-- a word more is read, or reading stops
on_word : (letter left : ℕ) (numbers word : List ℕ) (later : List (List ℕ)) → read_on letter left (one_more letter numbers word later) ≡ read_on letter (suc left) (reached numbers (word ∷ later))
unfolding read_on one_more read_more unless
on_word letter left numbers word later = go (wrong_number letter word) where
  go : (g : ℕ) → read_on letter left (unless g (λ reason. stopped reason word) (reached (numbers ++ kept letter word) later))
      ≡ unless g (λ reason. stopped reason word) (read_more letter left (numbers ++ kept letter word) later)
  go zero = refl
  go (suc g) = refl

module _ {line : List ℕ} {letter most : ℕ} {p : Progress} {count left : ℕ} {numbers : List ℕ} {last : Cursor} (m : More line letter most p count left numbers last) (word : Span) (f : Found line last.at word.start word.end) where
  -- no word is left
  pub more-end : word.start ≡ word.end → Reaches line numbers (read_on letter most p) (count + 2 * most) last
  unfolding read_on read_more
  more-end s = record {
    behind = m.behind;
    few = omega (arith, m.few);
    means = reached-end line last word f numbers s ∙ sym (ap (read_on letter left) (reached-end line last word f numbers s)) ∙ m.means;
  }

  module _ (d : word.start ≡ word.end → ⊥) where
    -- no more may follow
    pub more-full : left ≡ 0 → Refuses line stopped (read_on letter most p) (record { reason = TooMuch; word = word })
    unfolding read_on read_more
    more-full z = record {
      word = placed_word f;
      means = sym (ap (read_on letter 0) (reached-word line last word f numbers d)) ∙ (rw z at m.means);
    }

    module _ {fewer : ℕ} (one : suc fewer ≡ left) where
      -- one more is read from here
      next-means : read_on letter fewer (one_more letter (take last.count numbers) (between word.start word.end line) (words (drop word.end line))) ≡ read_on letter most p
      next-means = on_word letter fewer _ _ _ ∙ rw one (sym (ap (read_on letter left) (reached-word line last word f numbers d)) ∙ m.means)

      -- it is no such number
      pub more-stop : {misread : Misread} → Refuses line stopped (one_more letter (take last.count numbers) (between word.start word.end line) (words (drop word.end line))) misread
          → Refuses line stopped (read_on letter most p) misread
      unfolding read_on
      more-stop r = record { word = r.word; means = ap (read_on letter fewer) r.means ∙ next-means }

      -- it is one
      pub more-word : {after : List ℕ} {next : Cursor} → Reaches line after (one_more letter (take last.count numbers) (between word.start word.end line) (words (drop word.end line))) (last.count + 2) next
          → More line letter most p count fewer after next
      more-word a = record {
        behind = a.behind;
        few = omega (arith, m.few, a.few);
        means = ap (read_on letter fewer) a.means ∙ next-means;
      }
