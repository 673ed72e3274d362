-- What the functions of this crate find in bytes, by their places.
use Rattle.std.specs.Prelude.{◌≡◌, Bool, true, false, not, cond, List, [], ◌∷◌, ℕ, suc, Option, Some, None, ◌-◌, ◌≤◌, ◌<◌, min, eqb, length, take, drop, get_or}
use Rattle.language.specs.Runs.{each, unbroken, last_line}
use Rattle.language.specs.Words.{newline, comma, lines, without_return, is_blank, words, is_number, value}

-- the bytes from one place up to another
abbrev pub between : ℕ → ℕ → List ℕ → List ℕ
between start end bytes = take (end - start) (drop start bytes)

-- ---- a run of bytes that pass a test
-- a run starts at a place and goes at least up to another
pub record Passing (test : ℕ → Bool) (bytes : List ℕ) (from stop : ℕ) : Type 0 where
  pub after : from ≤ stop
  pub within : stop ≤ length bytes
  pub pass : each test (between from stop bytes) ≡ true

-- and it ends there
pub record Run (test : ℕ → Bool) (bytes : List ℕ) (from stop : ℕ) : Type 0 where
  pub passing : Passing test bytes from stop
  pub stops : stop < length bytes → test (get_or bytes stop 0) ≡ false

-- a byte of a word
abbrev pub of_word : ℕ → Bool
of_word byte = not (is_blank byte)

-- a byte of a piece of a word
abbrev pub of_piece : ℕ → Bool
of_piece byte = not (eqb byte comma)

-- a byte of a line
abbrev pub of_line : ℕ → Bool
of_line byte = not (eqb byte newline)

-- ---- words
-- the words of a line whose first stands between two places; there are none where that is empty
abbrev pub words_from : List ℕ → ℕ → ℕ → List (List ℕ)
words_from line start end = cond (eqb start end) [] (between start end line ∷ words (drop end line))

-- the first word from a place on
pub record Found (line : List ℕ) (from start end : ℕ) : Type 0 where
  pub after : from ≤ start
  pub ordered : start ≤ end
  pub within : end ≤ length line
  pub found : words (drop from line) ≡ words_from line start end

-- ---- numbers
-- what every number above the largest, 4294967295, is read as
abbrev pub cap : ℕ
cap = 4294967296

-- a word is a number or not, and where it is, which
abbrev pub NumberRead : List ℕ → Option ℕ → Type 0
NumberRead word None = is_number word ≡ false
NumberRead word (Some number) = (is_number word ≡ true) × (number ≡ min (value word) cap)

-- ---- lines
-- the end of the line that starts at a place: what ends it stands there, or the bytes end before the line does
pub record LineEnd (bytes : List ℕ) (from stop : ℕ) : Type 0 where
  pub after : from ≤ stop
  pub within : stop ≤ length bytes
  pub whole : unbroken (between from stop bytes) ≡ true
  pub ended : stop < length bytes → lines (drop from bytes) ≡ between from stop bytes ∷ lines (drop (suc stop) bytes)
  pub unended : stop ≡ length bytes → lines (drop from bytes) ≡ last_line (drop from bytes)

-- a line without the CR at its end is its first bytes
pub record Shortened (line : List ℕ) (end : ℕ) : Type 0 where
  pub within : end ≤ length line
  pub front : take end line ≡ without_return line
