-- Which command a line is: the row of the grammar, the numbers, and the operation that its words spell; or why it is none.
use Rattle.std.specs.Prelude.{Bool, true, false, not, cond, ◌&&◌, List, [], ◌∷◌, ◌++◌, ℕ, zero, suc, ◌+◌, ◌-◌, ◌^◌, min, eqb, leb, ltb, get_or, set, length, replicate, drop}
use Prim.Native.Char.{code}
use Rattle.model.specs.declared.SendPart.{SendPart}
use Rattle.model.specs.declared.Receive.{Receive}
use Rattle.model.specs.declared.Receive.TheVariants.{Absent, Open, Closed, OneOf}
use Rattle.model.specs.declared.Operation.{Operation}
use Rattle.model.specs.Lists.{bit, same_numbers}
use Rattle.model.specs.Operations.{member}
use Rattle.model.specs.Threads.{no_operation}
use Rattle.model.specs.Refusals.{first_refusal, unless}
use Rattle.model.specs.Bondtrace.{ascii}
use Rattle.language.specs.Words.{words, without_return, has_comma, pieces, is_number, value}
use Rattle.language.specs.Grammar.{rows, first_field, set_row, find_row, number_letters, rest_letter, largest, least, takes_sign, takes_choice, most_more}

-- ---- reasons: why a line is no command
abbrev pub no_command : ℕ
no_command = 1

abbrev pub no_field : ℕ
no_field = 2

abbrev pub no_part : ℕ
no_part = 3

abbrev pub missing : ℕ
missing = 4

abbrev pub not_number : ℕ
not_number = 5

abbrev pub too_large : ℕ
too_large = 6

abbrev pub too_small : ℕ
too_small = 7

abbrev pub too_much : ℕ
too_much = 8

abbrev pub too_long : ℕ
too_long = 9

-- why a command is no line of a schedule
abbrev pub not_record : ℕ
not_record = 10

abbrev pub table_first : ℕ
table_first = 11

-- why a row of rules is none, or is not kept
abbrev pub no_choice : ℕ
no_choice = 12

abbrev pub rows_full : ℕ
rows_full = 13

-- why an entry of a log is not kept
abbrev pub log_full : ℕ
log_full = 14

-- the reasons in plain words
unfoldable pub reasons : List (List ℕ)
reasons =
    ascii "no error"
    ∷ ascii "no such command"
    ∷ ascii "no such field"
    ∷ ascii "neither send nor receive"
    ∷ ascii "a number is missing"
    ∷ ascii "not a number"
    ∷ ascii "number too large"
    ∷ ascii "number too small"
    ∷ ascii "too much on the line"
    ∷ ascii "line too long"
    ∷ ascii "no line of a schedule"
    ∷ ascii "table stands first, and only there"
    ∷ ascii "neither yes nor no"
    ∷ ascii "no more than 80 rows are kept"
    ∷ ascii "no more than 520 entries are kept"
    ∷ []

-- one of them
unfoldable pub reason_text : ℕ → List ℕ
reason_text reason = get_or reasons reason []

-- ---- numbers, each by its letter of the grammar
-- a number with a sign where one is allowed
unfoldable pub is_negative : ℕ → List ℕ → Bool
is_negative letter word = takes_sign letter && eqb (get_or word 0 0) (code "-")

-- `yes` and `no` as digits; no other word has any there
unfoldable pub choice_digits : List ℕ → List ℕ
choice_digits word = cond (same_numbers word (ascii "yes")) (ascii "1") (cond (same_numbers word (ascii "no")) (ascii "0") [])

-- the digits of a number
unfoldable pub digits_of : ℕ → List ℕ → List ℕ
digits_of letter word = cond (takes_choice letter) (choice_digits word) (cond (is_negative letter word) (drop 1 word) word)

-- a reason why a number is none; of `yes` or `no` that it is neither
unfoldable pub reason_for : ℕ → ℕ → ℕ
reason_for letter reason = cond (takes_choice letter) no_choice reason

-- the reason why digits are not such a number, or 0
unfoldable pub wrong_digits : ℕ → List ℕ → ℕ
wrong_digits letter digits = first_refusal (
    record { when = not (is_number digits); number = reason_for letter not_number }
    ∷ record { when = ltb (largest letter) (value digits); number = too_large }
    ∷ record { when = ltb (value digits) (least letter); number = too_small }
    ∷ []
    )

-- the reason why a word is not such a number, or 0
unfoldable pub wrong_number : ℕ → List ℕ → ℕ
wrong_number letter word = wrong_digits letter (digits_of letter word)

-- what is kept of a number: where it may have a sign, 1 for a `-` and 0 for none, and then the number without it
unfoldable pub kept : ℕ → List ℕ → List ℕ
kept letter word =
    let number = value (digits_of letter word) in
    cond (takes_sign letter) (bit (is_negative letter word) ∷ number ∷ []) (number ∷ [])

-- how far a line is read: the numbers so far and the words that are left, or the reason and the word at which reading stopped
pub data Progress : Type 0 where
  stopped : ℕ → List ℕ → Progress
  reached : List ℕ → List (List ℕ) → Progress

-- one number more
unfoldable pub read_number : ℕ → Progress → Progress
read_number letter (stopped reason word) = stopped reason word
read_number letter (reached numbers []) = stopped (reason_for letter missing) []
read_number letter (reached numbers (word ∷ left)) = unless (wrong_number letter word) (λ reason. stopped reason word) (reached (numbers ++ kept letter word) left)

-- a number for each letter
unfoldable pub read_numbers : List ℕ → Progress → Progress
read_numbers [] p = p
read_numbers (letter ∷ letters) p = read_numbers letters (read_number letter p)

-- the rest of a line: at most so many numbers
unfoldable pub read_more : ℕ → ℕ → List ℕ → List (List ℕ) → Progress
read_more letter most numbers [] = reached numbers []
read_more letter zero numbers (word ∷ left) = stopped too_much word
read_more letter (suc most) numbers (word ∷ left) =
    unless (wrong_number letter word) (λ reason. stopped reason word) (read_more letter most (numbers ++ kept letter word) left)

-- ---- sets
-- a set with one member more
unfoldable pub with_member : ℕ → ℕ → ℕ
with_member set s = cond (member set s) set (set + 2 ^ s)

-- "`receive P,Q,.. CODE` .. closed on several threads, each below 32": the threads put into a set one after the other
unfoldable pub read_members : ℕ → List (List ℕ) → List (List ℕ) → Progress
read_members set [] left = reached (set ∷ []) left
read_members set (piece ∷ more) left = unless (wrong_number (code "t") piece) (λ reason. stopped reason piece) (read_members (with_member set (value piece)) more left)

-- ---- "PARTS: a send part `send T CODE WORD ..` or none, then a receive part `receive any CODE`, `receive P CODE` or none"
-- the operation that words spell, or the reason and the word at which reading stopped
pub data Spelled : Type 0 where
  misspelled : ℕ → List ℕ → Spelled
  spelled : Operation → Spelled

-- the first word is this one
unfoldable pub starts_with : List ℕ → List (List ℕ) → Bool
starts_with name [] = false
starts_with name (word ∷ left) = same_numbers word name

-- an operation whose receive part is read, where nothing is left of the line
unfoldable pub closed : SendPart → (List ℕ → Receive) → Progress → Spelled
closed send receive (stopped reason word) = misspelled reason word
closed send receive (reached numbers []) = spelled (record { send = send; receive = receive numbers })
closed send receive (reached numbers (word ∷ left)) = misspelled too_much word

-- "`receive any CODE`", behind `any`
unfoldable pub read_open : SendPart → List (List ℕ) → Spelled
read_open send left = closed send (λ numbers. Open (record { time = get_or numbers 0 0; partner = 0 })) (read_numbers (ascii "b") (reached [] left))

-- "`receive P CODE`", behind `receive`
unfoldable pub read_closed : SendPart → List (List ℕ) → Spelled
read_closed send left = closed send (λ numbers. Closed (record { time = get_or numbers 1 0; partner = get_or numbers 0 0 })) (read_numbers (ascii "bb") (reached [] left))

-- "a receive closed on several threads .. or on the set with this number", behind the set
unfoldable pub read_one_of : SendPart → Progress → Spelled
read_one_of send set = closed send (λ numbers. OneOf (get_or numbers 1 0) (get_or numbers 0 0)) (read_numbers (ascii "b") set)

-- "`receive P,Q,.. CODE`", behind `receive`; without a comma it is "`receive P CODE`"
unfoldable pub read_partners : SendPart → List (List ℕ) → Spelled
read_partners send [] = read_closed send []
read_partners send (word ∷ left) = cond (has_comma word) (read_one_of send (read_members 0 (pieces word) left)) (read_closed send (word ∷ left))

-- what stands behind the word `receive`; "`receive set M CODE`" has the number of the set
unfoldable pub read_wait : SendPart → List (List ℕ) → Spelled
read_wait send left =
    cond (starts_with (ascii "any") left) (read_open send (drop 1 left))
    (cond (starts_with (ascii "set") left) (read_one_of send (read_number (code "w") (reached [] (drop 1 left))))
    (read_partners send left))

-- a receive part or none
unfoldable pub read_receive : SendPart → List (List ℕ) → Spelled
read_receive send [] = spelled (record { send = send; receive = Absent })
read_receive send (word ∷ left) = cond (same_numbers word (ascii "receive")) (read_wait send left) (misspelled no_part word)

-- "Words past the eighth are counted, to any number (300 words are refused 9 and do not wrap round), and not kept": counted to 255
unfoldable pub with_word : ℕ → SendPart → SendPart
with_word word send = record {
  present = send.present;
  target = send.target;
  count = min 255 (suc send.count);
  time = send.time;
  words = set send.words send.count word;
}

-- the words of a send part, and what stands behind them
unfoldable pub read_words : SendPart → List (List ℕ) → Spelled
read_words send [] = read_receive send []
read_words send (word ∷ left) = cond (same_numbers word (ascii "receive")) (read_receive send (word ∷ left))
    (unless (wrong_number (code "w") word) (λ reason. misspelled reason word) (read_words (with_word (value word) send) left))

-- a send part of no words yet, by its two numbers
unfoldable pub empty_send : List ℕ → SendPart
empty_send numbers = record { present = true; target = get_or numbers 0 0; count = 0; time = get_or numbers 1 0; words = replicate 8 0 }

-- what stands behind the word `send`
unfoldable pub read_send : Progress → Spelled
read_send (stopped reason word) = misspelled reason word
read_send (reached numbers left) = read_words (empty_send numbers) left

-- the operation that the rest of a line spells
unfoldable pub read_parts : List (List ℕ) → Spelled
read_parts left = cond (starts_with (ascii "send") left) (read_send (read_numbers (ascii "bb") (reached [] (drop 1 left)))) (read_receive no_operation.send left)

-- ---- lines
-- what a line asks for: nothing, a row of the grammar with its numbers and its operation; or why it is no command, and the word that is wrong
pub data Command : Type 0 where
  skipped : Command
  wrong : ℕ → List ℕ → Command
  asked : ℕ → List ℕ → Operation → Command

-- a row whose operation was read
unfoldable pub with_parts : ℕ → List ℕ → Spelled → Command
with_parts row numbers (misspelled reason word) = wrong reason word
with_parts row numbers (spelled operation) = asked row numbers operation

-- a row whose numbers were read
unfoldable pub complete : ℕ → Progress → Command
complete row (stopped reason word) = wrong reason word
complete row (reached numbers left) = asked row numbers no_operation

-- what stands behind the numbers of a row, by the row's last letter: an operation, anything, or more numbers
unfoldable pub read_rest : ℕ → Progress → Command
read_rest row (stopped reason word) = wrong reason word
read_rest row (reached numbers left) =
    let letter = rest_letter row in
    cond (eqb letter (code "p")) (with_parts row numbers (read_parts left))
    (cond (eqb letter (code "a")) (asked row numbers no_operation)
    (complete row (read_more letter (most_more letter) numbers left)))

-- a line by its row
unfoldable pub read_row : ℕ → Progress → Command
read_row row p = read_rest row (read_numbers (number_letters row) p)

-- "`set X FIELD ..`", behind the thread
unfoldable pub read_field : Progress → Command
read_field (stopped reason word) = wrong reason word
read_field (reached numbers []) = wrong no_field []
read_field (reached numbers (word ∷ left)) =
    let row = find_row (rows - first_field) first_field word in
    cond (eqb row rows) (wrong no_field word) (read_row row (reached numbers left))

-- "An empty line, and one whose first word starts with `#`, is skipped"; "What is no command answers `error at line L: REASON`"
unfoldable pub from_words : List (List ℕ) → Command
from_words [] = skipped
from_words (word ∷ left) =
    let row = find_row first_field 0 word in
    cond (eqb (get_or word 0 0) (code "#")) skipped
    (cond (eqb row first_field) (wrong no_command word)
    (cond (eqb row set_row) (read_field (read_numbers (number_letters row) (reached [] left)))
    (read_row row (reached [] left))))

-- "line too long (above 4,095 bytes)"
abbrev pub line_limit : ℕ
line_limit = 4095

-- which command a line is
unfoldable pub command_of : List ℕ → Command
command_of line = let bytes = without_return line in cond (leb (length bytes) line_limit) (from_words (words bytes)) (wrong too_long [])
