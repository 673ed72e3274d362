-- Laws of lines, words and numbers: what a run of blanks, a word, a line and a digit make of the bytes behind them.
use mathlib.Core.Path.{◌≡◌, refl, ap, ◌∙◌}
use mathlib.Core.Logic.{◌≢◌}
use mathlib.Core.Bool.{Bool, true, false, not}
use mathlib.Core.List.{List, [], ◌∷◌, ◌++◌}
use Prim.Native.Nat.{ℕ, ◌+◌, ◌-◌, ◌*◌, ◌≤◌, min}
use native.Mathlib.Omega.{arith}
use native.Mathlib.Nat.{min-eq_left}
use lib.Dec.{eqb, leb}
use borrow.Author.Tests.{ne_eqb, not-true, leb-true, leb-false}
use Rattle.model.specs.Schedule.{is_empty}
use Rattle.model.proofs.Laws.{by, and_left, and_right, and-made}
use Rattle.language.specs.Runs.{each, solid, unbroken, last_line}
use Rattle.language.specs.Words.{joined, newline, lines, without_return, is_blank, starts_word, words, grown}

-- ---- a test of every byte
module _ (test : ℕ → Bool) where
  -- it holds of every byte of nothing
  pub each_none : each test [] ≡ true
  unfolding each
  each_none = refl

  -- where it holds of every byte it holds of the first
  pub each_first : (byte : ℕ) (line : List ℕ) → each test (byte ∷ line) ≡ true → test byte ≡ true
  unfolding each
  each_first byte line e = and_left _ _ e

  -- and of every other
  pub each-rest : (byte : ℕ) (line : List ℕ) → each test (byte ∷ line) ≡ true → each test line ≡ true
  unfolding each
  each-rest byte line e = and_right (test byte) _ e

  -- one byte more
  pub each_more : (line : List ℕ) (byte : ℕ) → each test line ≡ true → test byte ≡ true → each test (line ++ (byte ∷ [])) ≡ true
  unfolding each
  each_more [] byte e t = rw t
  each_more (first ∷ line) byte e t = and-made (test first) _ (and_left _ _ e) (each_more line byte (and_right (test first) _ e) t)

-- ---- words
-- there are no words where there is nothing
pub words-none : words [] ≡ []
unfolding words
words-none = refl

-- a blank in front makes no difference
pub words-blank : (byte : ℕ) (line : List ℕ) → is_blank byte ≡ true → words (byte ∷ line) ≡ words line
unfolding words
words-blank byte line e = rw e

-- nor do many
pub words-blanks : (blanks line : List ℕ) → each is_blank blanks ≡ true → words (blanks ++ line) ≡ words line
words-blanks [] line e = refl
words-blanks (byte ∷ blanks) line e = rw (words-blank byte (blanks ++ line) (each_first _ _ _ e)) (words-blanks blanks line (each-rest _ _ _ e))

-- a word of one byte
word_of-one : (byte : ℕ) (rest : List ℕ) → is_blank byte ≡ false → starts_word rest ≡ false → words (byte ∷ rest) ≡ (byte ∷ []) ∷ words rest
unfolding words
word_of-one byte rest e b = rw (e, b)

-- a byte in front of a word
word_of-more : (byte : ℕ) (rest word : List ℕ) (later : List (List ℕ)) → not (is_blank byte) ≡ true → starts_word rest ≡ true → words rest ≡ word ∷ later
    → words (byte ∷ rest) ≡ (byte ∷ word) ∷ later
unfolding words joined
word_of-more byte rest word later e b w = rw (not-true (is_blank byte) e, b, w)

-- a word in front, behind which nothing or a blank stands, is the first of the words
pub words-word : (word rest : List ℕ) → is_empty word ≡ false → solid word ≡ true → starts_word rest ≡ false → words (word ++ rest) ≡ word ∷ words rest
unfolding starts_word
words-word [] rest e s b = cc
words-word (byte ∷ []) rest e s b = word_of-one byte rest (not-true _ (each_first _ byte [] s)) b
words-word (byte ∷ next ∷ word) rest e s b =
    let later = each-rest _ byte (next ∷ word) s in
    word_of-more byte (next ∷ word ++ rest) (next ∷ word) (words rest) (each_first _ byte (next ∷ word) s) (each_first _ next word later)
    (words-word (next ∷ word) rest refl later b)

-- ---- lines
-- a byte in front of the first line
lines-byte : (byte : ℕ) (input line : List ℕ) (later : List (List ℕ)) → not (eqb byte newline) ≡ true → lines input ≡ line ∷ later → lines (byte ∷ input) ≡ (byte ∷ line) ∷ later
unfolding lines joined
lines-byte byte input line later u e = rw (not-true (eqb byte newline) u, e)

-- a line in front, with what ends it, is the first of the lines
pub lines-line : (line rest : List ℕ) → unbroken line ≡ true → lines (line ++ newline ∷ rest) ≡ line ∷ lines rest
unfolding lines
lines-line [] rest u = refl
lines-line (byte ∷ line) rest u = lines-byte byte (line ++ newline ∷ rest) line (lines rest) (each_first _ byte line u) (lines-line line rest (each-rest _ byte line u))

-- a line that ends with the input is the only one
pub lines-last : (line : List ℕ) → unbroken line ≡ true → lines line ≡ last_line line
unfolding lines last_line joined
lines-last [] u = refl
lines-last (byte ∷ []) u = rw (not-true (eqb byte newline) (each_first _ byte [] u))
lines-last (byte ∷ next ∷ line) u = lines-byte byte (next ∷ line) (next ∷ line) [] (each_first _ byte (next ∷ line) u) (lines-last (next ∷ line) (each-rest _ byte (next ∷ line) u))

-- a byte that is not the last stays
return-next : (byte next : ℕ) (line : List ℕ) → without_return (byte ∷ next ∷ line) ≡ byte ∷ without_return (next ∷ line)
unfolding without_return
return-next byte next line = by (eqb byte 13) (λ e. rw e) (λ e. rw e)

-- a last byte that is no CR stays
pub return_kept : (line : List ℕ) (byte : ℕ) → byte ≢ 13 → without_return (line ++ (byte ∷ [])) ≡ line ++ (byte ∷ [])
unfolding without_return
return_kept [] byte d = rw (ne_eqb byte 13 d)
return_kept (first ∷ []) byte d = return-next first byte [] ∙ ap (λ (l : List ℕ). first ∷ l) (return_kept [] byte d)
return_kept (first ∷ next ∷ line) byte d = return-next first next (line ++ (byte ∷ [])) ∙ ap (λ (l : List ℕ). first ∷ l) (return_kept (next ∷ line) byte d)

-- a CR is left out
pub return_cut : (line : List ℕ) → without_return (line ++ (13 ∷ [])) ≡ line
unfolding without_return
return_cut [] = refl
return_cut (first ∷ []) = return-next first 13 []
return_cut (first ∷ next ∷ line) = return-next first next (line ++ (13 ∷ [])) ∙ ap (λ (l : List ℕ). first ∷ l) (return_cut (next ∷ line))

-- ---- numbers
-- more digits make no number smaller
pub grown-more : (n : ℕ) (word : List ℕ) → n ≤ grown n word
unfolding grown
grown-more n [] = omega arith
grown-more n (byte ∷ word) = omega (arith, grown-more (10 * n + (byte - 48)) word)

-- a number that is cut down to a cap, and then grows, is above the cap where it would be
pub grown-capped : (cap n : ℕ) (word : List ℕ) → min (grown (min n cap) word) cap ≡ min (grown n word) cap
grown-capped cap n word = by (leb n cap)
    (λ e. rw (min-eq_left (leb-true n cap e)))
    (λ e. let h = leb-false n cap e in omega (arith, grown-more (min n cap) word, grown-more n word))
