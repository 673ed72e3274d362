-- Which numbers each command takes: a table of rows, one for each command and one for each field that `set` can set.
use Rattle.std.specs.Prelude.{Bool, cond, List, [], ◌∷◌, ℕ, suc, zero, ◌+◌, ◌*◌, eqb, get_or, take, drop}
use Prim.Native.Char.{code}
use Rattle.model.specs.Lists.{all_below, concat}
use Rattle.model.specs.Bondtrace.{ascii}
use Rattle.language.specs.Words.{is_blank}

-- ---- the table: a name, a letter for each number behind it, and at the end a letter for what may follow. The first five rows are the records of a schedule, each at the place that is its kind
unfoldable pub grammar : List ℕ
grammar = concat (
    ascii "table       b      .\n"
    ∷ ascii "begin       b      p\n"
    ∷ ascii "step        b      b\n"
    ∷ ascii "cancel      b      .\n"
    ∷ ascii "tick               k\n"
    ∷ ascii "outcome     b      .\n"
    ∷ ascii "report             .\n"
    ∷ ascii "show               .\n"
    ∷ ascii "say                a\n"
    ∷ ascii "store       sw     .\n"
    ∷ ascii "records     r      .\n"
    ∷ ascii "size        b      .\n"
    ∷ ascii "help               .\n"
    ∷ ascii "set         t      f\n"
    ∷ ascii "search      b      .\n"
    ∷ ascii "spark       b      p\n"
    ∷ ascii "rule        bbbby  .\n"
    ∷ ascii "rules              .\n"
    ∷ ascii "count       n      .\n"
    ∷ ascii "places      l      .\n"
    ∷ ascii "sent        bb     w\n"
    ∷ ascii "received    bb     w\n"
    ∷ ascii "compare            .\n"
    ∷ ascii "flags       11111  .\n"
    ∷ ascii "phase       b      .\n"
    ∷ ascii "left        n      .\n"
    ∷ ascii "owner       b      .\n"
    ∷ ascii "outcome     cbb    .\n"
    ∷ ascii "copied      b      .\n"
    ∷ ascii "waking      b      .\n"
    ∷ ascii "queue              q\n"
    ∷ ascii "queuelength b      .\n"
    ∷ ascii "operation          p\n"
    ∷ ascii "target      b      .\n"
    ∷ ascii "present     1      .\n"
    ∷ []
    )

-- the bytes of a row, of its name, and of the letters of its numbers
abbrev pub row_length : ℕ
row_length = 21

abbrev pub name_length : ℕ
name_length = 12

abbrev pub most_numbers : ℕ
most_numbers = 7

-- the rows before this are commands, the others are fields
abbrev pub first_field : ℕ
first_field = 23

-- how many rows there are
abbrev pub rows : ℕ
rows = 35

-- `set`, the command whose second word is a field
abbrev pub set_row : ℕ
set_row = 13

-- ---- a row
-- the byte in a column
unfoldable pub column : ℕ → ℕ → ℕ
column row i = get_or grammar (row_length * row + i) 0

-- a word is the name of a row; a name is filled up with spaces
unfoldable pub is_name : ℕ → List ℕ → Bool
is_name row word = all_below name_length (λ i. eqb (get_or word i (code " ")) (column row i))

-- the first of k rows from one on of which the word is the name; the row behind them where there is none
unfoldable pub find_row : ℕ → ℕ → List ℕ → ℕ
find_row zero row word = row
find_row (suc k) row word = cond (is_name row word) row (find_row k (suc row) word)

-- the bytes before the first blank
unfoldable pub until_blank : List ℕ → List ℕ
until_blank [] = []
until_blank (byte ∷ line) = cond (is_blank byte) [] (byte ∷ until_blank line)

-- the letters of the numbers of a row
unfoldable pub number_letters : ℕ → List ℕ
number_letters row = until_blank (take most_numbers (drop (row_length * row + name_length) grammar))

-- the letter of what may follow
unfoldable pub rest_letter : ℕ → ℕ
rest_letter row = column row (name_length + most_numbers)

-- ---- a letter
-- "A thread, target, partner, time code, N .. is 0 to 255, a word .. 0 to 4294967295, other numbers 0 to 65535"; a flag, a thread of the array, the lengths of what is lent
unfoldable pub largest : ℕ → ℕ
largest letter =
    cond (eqb letter (code "1")) 1
    (cond (eqb letter (code "t")) 31
    (cond (eqb letter (code "r")) 40
    (cond (eqb letter (code "s")) 320
    (cond (eqb letter (code "b")) 255
    (cond (eqb letter (code "q")) 255
    (cond (eqb letter (code "w")) 4294967295
    (cond (eqb letter (code "l")) 4200 65535)))))))

-- "K ticks (1 to 65535)"
unfoldable pub least : ℕ → ℕ
least letter = cond (eqb letter (code "k")) 1 0

-- "Only an outcome's code may have a `-`"
unfoldable pub takes_sign : ℕ → Bool
takes_sign letter = eqb letter (code "c")

-- "`yes` or `no`", kept as 1 or 0
unfoldable pub takes_choice : ℕ → Bool
takes_choice letter = eqb letter (code "y")

-- how many more numbers may follow: one, a queue, as many as a line can have, or none
unfoldable pub most_more : ℕ → ℕ
most_more letter =
    cond (eqb letter (code "k")) 1
    (cond (eqb letter (code "q")) 32
    (cond (eqb letter (code "b")) 2048
    (cond (eqb letter (code "w")) 2048 0)))
