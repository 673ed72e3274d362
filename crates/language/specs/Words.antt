-- Bytes taken apart: the lines of an input, the words of a line, the number that a word is.
use Rattle.std.specs.Prelude.{Bool, true, false, not, cond, ◌&&◌, ◌||◌, List, [], ◌∷◌, ℕ, ◌+◌, ◌-◌, ◌*◌, eqb, leb}
use Rattle.model.specs.Schedule.{is_empty}

-- a byte put in front of the first of some runs of bytes
unfoldable pub joined : ℕ → List (List ℕ) → List (List ℕ)
joined byte [] = (byte ∷ []) ∷ []
joined byte (run ∷ runs) = (byte ∷ run) ∷ runs

-- ---- lines
-- what ends a line
abbrev pub newline : ℕ
newline = 10

-- "A line ends with LF (the last one may end with the input)"
unfoldable pub lines : List ℕ → List (List ℕ)
lines [] = []
lines (byte ∷ input) = cond (eqb byte newline) ([] ∷ lines input) (joined byte (lines input))

-- "a CR before it is ignored"
unfoldable pub without_return : List ℕ → List ℕ
without_return [] = []
without_return (byte ∷ line) = cond (eqb byte 13 && is_empty line) [] (byte ∷ without_return line)

-- ---- words
-- "spaces or tabs"
unfoldable pub is_blank : ℕ → Bool
is_blank byte = eqb byte 32 || eqb byte 9

-- a word stands at the front
unfoldable pub starts_word : List ℕ → Bool
starts_word [] = false
starts_word (byte ∷ line) = not (is_blank byte)

-- "Words are separated by spaces or tabs; blanks at both ends are ignored"
unfoldable pub words : List ℕ → List (List ℕ)
words [] = []
words (byte ∷ line) =
    let later = words line in
    cond (is_blank byte) later (cond (starts_word line) (joined byte later) ((byte ∷ []) ∷ later))

-- ---- the pieces of a word
-- what stands between them
abbrev pub comma : ℕ
comma = 44

-- a word has one
unfoldable pub has_comma : List ℕ → Bool
has_comma [] = false
has_comma (byte ∷ word) = eqb byte comma || has_comma word

-- what stands before the first comma, between two, and behind the last
unfoldable pub pieces : List ℕ → List (List ℕ)
pieces [] = [] ∷ []
pieces (byte ∷ word) = cond (eqb byte comma) ([] ∷ pieces word) (joined byte (pieces word))

-- ---- numbers
-- a byte is a digit
unfoldable pub is_digit : ℕ → Bool
is_digit byte = leb 48 byte && leb byte 57

-- every byte is
unfoldable pub all_digits : List ℕ → Bool
all_digits [] = true
all_digits (byte ∷ word) = is_digit byte && all_digits word

-- "Numbers are decimal, leading zeros allowed"
unfoldable pub is_number : List ℕ → Bool
is_number word = not (is_empty word) && all_digits word

-- the number that more digits make of one
unfoldable pub grown : ℕ → List ℕ → ℕ
grown number [] = number
grown number (byte ∷ word) = grown (10 * number + (byte - 48)) word

-- the number that a word of digits stands for
unfoldable pub value : List ℕ → ℕ
value word = grown 0 word
