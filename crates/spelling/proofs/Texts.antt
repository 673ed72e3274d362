-- Lines that are words with a space before each: their bytes, their ends and their words.
use mathlib.Core.Path.{◌≡◌, refl, sym, ap, ◌∙◌}
use mathlib.Core.Bool.{Bool, true, false, not, ◌&&◌}
use mathlib.Core.List.{List, [], ◌∷◌, ◌++◌, append_assoc}
use Prim.Native.Nat.{ℕ, ◌≤◌}
use native.Mathlib.Omega.{arith}
use lib.Dec.{leb}
use borrow.Author.Tests.{leb-true, le-leb, ne_eqb, not-true}
use Rattle.model.specs.Schedule.{is_empty}
use Rattle.model.proofs.Laws.{and_left, and_right, and-made}
use Rattle.language.specs.Words.{newline, without_return, is_blank, starts_word, words}
use Rattle.language.specs.Runs.{each, unbroken, solid}
use Rattle.language.proofs.Words.{each_first, each-rest, words-none, words-blank, words-word}

-- ---- a test of every byte
-- it holds of the bytes of two runs, one after the other
pub each_append : (test : ℕ → Bool) (l m : List ℕ) → each test l ≡ true → each test m ≡ true → each test (l ++ m) ≡ true
unfolding each
each_append test [] m e f = f
each_append test (byte ∷ l) m e f = and-made (test byte) (each test (l ++ m)) (each_first test byte l e) (each_append test l m (each-rest test byte l e) f)

-- where it holds another does that follows from it
pub each-follows : (test other : ℕ → Bool) → ((byte : ℕ) → test byte ≡ true → other byte ≡ true) → (l : List ℕ) → each test l ≡ true → each other l ≡ true
unfolding each
each-follows test other follows [] e = refl
each-follows test other follows (byte ∷ l) e =
    and-made (other byte) (each other l) (follows byte (each_first test byte l e)) (each-follows test other follows l (each-rest test byte l e))

-- ---- lines
-- the bytes of a line that is printed: from the space on
abbrev pub printed : List ℕ → Bool
printed line = each (leb 32) line

-- none of them ends it
pub printed-unbroken : (line : List ℕ) → printed line ≡ true → unbroken line ≡ true
printed-unbroken line e =
    each-follows (leb 32) _ (λ byte h. let large : 32 ≤ byte = leb-true 32 byte h in rw (ne_eqb byte newline (λ same. omega arith)) refl) line e

-- and there is no CR at its end
pub no_return : (line : List ℕ) → printed line ≡ true → without_return line ≡ line
unfolding without_return
no_return [] e = refl
no_return (byte ∷ line) e =
    let large : 32 ≤ byte = leb-true 32 byte (each_first (leb 32) byte line e) in
    rw (ne_eqb byte 13 (λ same. omega arith)) (ap (λ (l : List ℕ). byte ∷ l) (no_return line (each-rest (leb 32) byte line e)))

-- ---- words
-- a word: some bytes, all of them past the blanks
unfoldable pub is_word : List ℕ → Bool
is_word word = not (is_empty word) && each (leb 33) word

-- each is a word
unfoldable pub are_words : List (List ℕ) → Bool
are_words [] = true
are_words (word ∷ more) = is_word word && are_words more

-- the words of two lists, one after the other
pub are-words-append : (v w : List (List ℕ)) → are_words v ≡ true → are_words w ≡ true → are_words (v ++ w) ≡ true
unfolding are_words
are-words-append [] w e f = f
are-words-append (word ∷ v) w e f = and-made (is_word word) (are_words (v ++ w)) (and_left _ (are_words v) e) (are-words-append v w (and_right (is_word word) (are_words v) e) f)

-- each with a space before it
unfoldable pub apart : List (List ℕ) → List ℕ
apart [] = []
apart (word ∷ more) = 32 ∷ word ++ apart more

-- those of two lists, one after the other
pub apart-append : (v w : List (List ℕ)) → apart (v ++ w) ≡ apart v ++ apart w
unfolding apart
apart-append [] w = refl
apart-append (word ∷ v) w = ap (λ (l : List ℕ). 32 ∷ word ++ l) (apart-append v w) ∙ ap (λ (l : List ℕ). 32 ∷ l) (sym (append_assoc word (apart v) (apart w)))

-- no byte of a word is a blank
all-solid : (word : List ℕ) → each (leb 33) word ≡ true → solid word ≡ true
all-solid word e = each-follows (leb 33) _ (λ byte h. no-blank byte (leb-true 33 byte h)) word e
  where
    no-blank : (byte : ℕ) → 33 ≤ byte → not (is_blank byte) ≡ true
    no-blank byte large = unfold is_blank in rw (ne_eqb byte 32 (λ same. omega arith), ne_eqb byte 9 (λ same. omega arith)) refl

-- behind a word stands a blank, or nothing
starts_apart : (more : List (List ℕ)) → starts_word (apart more) ≡ false
unfolding apart starts_word is_blank
starts_apart [] = refl
starts_apart (word ∷ more) = refl

module _ (word : List ℕ) (e : is_word word ≡ true) where
  -- a word has bytes
  word-there : is_empty word ≡ false
  unfolding is_word
  word-there = not-true (is_empty word) (and_left _ (each (leb 33) word) e)

  -- past the blanks
  word-large : each (leb 33) word ≡ true
  unfolding is_word
  word-large = and_right (not (is_empty word)) (each (leb 33) word) e

-- the words of such a line
pub words-apart : (more : List (List ℕ)) → are_words more ≡ true → words (apart more) ≡ more
unfolding are_words apart is_blank
words-apart [] e = words-none
words-apart (word ∷ more) e =
    let here : is_word word ≡ true = and_left (is_word word) (are_words more) e in
    words-blank 32 (word ++ apart more) refl
    ∙ words-word word (apart more) (word-there word here) (all-solid word (word-large word here)) (starts_apart more)
    ∙ ap (λ (w : List (List ℕ)). word ∷ w) (words-apart more (and_right (is_word word) (are_words more) e))

-- its bytes are printed
pub printed-apart : (more : List (List ℕ)) → are_words more ≡ true → printed (apart more) ≡ true
unfolding are_words apart each
printed-apart [] e = refl
printed-apart (word ∷ more) e =
    let large : each (leb 33) word ≡ true = word-large word (and_left (is_word word) (are_words more) e) in
    each_append (leb 32) word (apart more) (each-follows (leb 33) (leb 32) (λ byte h. le-leb 32 byte (omega (arith, leb-true 33 byte h))) word large)
    (printed-apart more (and_right (is_word word) (are_words more) e))

module _ (name : List ℕ) (more : List (List ℕ)) (e : are_words (name ∷ more) ≡ true) where
  -- a line that starts with its first word has the same words
  pub words-named : words (name ++ apart more) ≡ name ∷ more
  unfolding apart is_blank
  words-named = sym (words-blank 32 (name ++ apart more) refl) ∙ words-apart (name ∷ more) e

  -- and its bytes are printed
  pub printed-named : printed (name ++ apart more) ≡ true
  unfolding apart
  printed-named = each-rest (leb 32) 32 (name ++ apart more) (printed-apart (name ∷ more) e)
