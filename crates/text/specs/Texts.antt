-- Words, numbers and answers as text, and the most bytes that a word has.
use Rattle.std.specs.Prelude.{List, ◌++◌, ℕ}
use Rattle.model.specs.declared.Answer.{Answer}
use Rattle.model.specs.declared.Answer.TheVariants.{Refused, Accepted, Marked, NothingToCancel, Moved, Idle, Held, Wants, Asleep}
use Rattle.model.specs.Bondtrace.{ascii, decimal}

-- a line of two numbers, each behind its name
unfoldable pub numbers_line : List ℕ → ℕ → List ℕ → ℕ → List ℕ
numbers_line name n next m = name ++ decimal n ++ next ++ decimal m ++ ascii "\n"

-- an answer in words, a refusal with its number
unfoldable pub answer_text : Answer → List ℕ
answer_text (Refused number) = ascii "refused " ++ decimal number
answer_text Accepted = ascii "accepted"
answer_text Marked = ascii "marked"
answer_text NothingToCancel = ascii "nothing to cancel"
answer_text Moved = ascii "moved"
answer_text Idle = ascii "idle"
answer_text Held = ascii "held"
answer_text Wants = ascii "wants"
answer_text Asleep = ascii "asleep"

-- the most bytes of a word behind a space: 1 + 10
abbrev pub longest_word : ℕ
longest_word = 11
