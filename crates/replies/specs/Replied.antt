-- What the console says of itself: errors and marks.
use Rattle.std.specs.Prelude.{Bool, not, cond, ◌||◌, List, [], ◌∷◌, ◌++◌, ℕ, eqb, drop}
use Rattle.model.specs.Schedule.{is_empty}
use Rattle.model.specs.Bondtrace.{ascii, decimal}
use Rattle.language.specs.Words.{words}
use Rattle.language.specs.Commands.{not_number, reason_text}

-- a word is named where there is one; what stands between two commas and is no number may be empty
unfoldable pub names_word : ℕ → List ℕ → Bool
names_word reason word = eqb reason not_number || not (is_empty word)

-- "REASON is in plain words and names what is wrong": the word
unfoldable pub named_word : ℕ → List ℕ → List ℕ
named_word reason word = cond (names_word reason word) (ascii ": " ++ word) []

-- "`error at line L: REASON`"
unfoldable pub error_text : ℕ → ℕ → List ℕ → List ℕ
error_text n reason word = ascii "error at line " ++ decimal n ++ ascii ": " ++ reason_text reason ++ named_word reason word ++ ascii "\n"

-- words, each behind a space
unfoldable pub behind_spaces : List (List ℕ) → List ℕ
behind_spaces [] = []
behind_spaces (word ∷ left) = ascii " " ++ word ++ behind_spaces left

-- "the words, one space between them"
unfoldable pub joined_words : List (List ℕ) → List ℕ
joined_words [] = []
joined_words (word ∷ left) = word ++ behind_spaces left

-- the answer to `say`: the words behind it
unfoldable pub said_text : List ℕ → List ℕ
said_text line = joined_words (drop 1 (words line)) ++ ascii "\n"
