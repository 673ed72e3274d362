-- Parts of the model's texts, as the code writes them, and the most bytes that each has.
use Rattle.std.specs.Prelude.{List, ◌++◌, ℕ, ◌+◌, ◌*◌}
use Rattle.model.specs.declared.Outcome.{Outcome}
use Rattle.model.specs.Lists.{up_to, concat}
use Rattle.model.specs.Calls.{State}
use Rattle.model.specs.Bondtrace.{ascii, decimal, signed, thread_line}
use Rattle.text.specs.Texts.{longest_word}

-- ---- parts
-- the number of a thread, and its code, source and count
unfoldable pub outcome_text : ℕ → Outcome → List ℕ
outcome_text x u = decimal x ++ ascii " " ++ signed u.code ++ ascii " " ++ decimal u.source ++ ascii " " ++ decimal u.count

-- the lines of the first n threads
unfoldable pub threads_text : State → ℕ → List ℕ
threads_text s n = concat (up_to n (thread_line s))

-- ---- the most bytes that they have, by the widths of what is printed
-- number, code, source and count with single spaces: 3 + 1 + 11 + 1 + 3 + 1 + 3
abbrev pub longest_outcome : ℕ
longest_outcome = 23

-- a thread's line, with eight words and the line's end
abbrev pub longest_line : ℕ
longest_line = longest_outcome + 8 * longest_word + 1

-- the final text of n threads: 8 + 20 + 9 + 20 + 1 for the first line, and n lines
abbrev pub longest_text : ℕ → ℕ
longest_text n = 58 + longest_line * n

-- the bad line: 4 + 3 + 4 + 20 + 1
abbrev pub longest_bad_line : ℕ
longest_bad_line = 32
