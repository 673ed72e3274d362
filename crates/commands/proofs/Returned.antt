-- What is returned of a line: which command it stands for, by the row of its first word, the row's numbers, and what stands behind them.
use mathlib.Core.Path.{◌≡◌, refl, sym, ap, subst, ◌∙◌}
use mathlib.Core.List.{List, []}
use Prim.Native.Nat.{ℕ, ◌+◌, ◌-◌, ◌≤◌, ◌<◌}
use Prim.Native.Char.{code}
use native.Mathlib.Omega.{arith}
use lib.ListN.{length, take, drop, get_or}
use lib.Seq.{get_or-take, get_or-drop, length-take-le}
use borrow.Author.Tests.{eq-eqb, ne_eqb, lt-leb, le-leb}
use Rattle.std.specs.Prelude.{Option, Some, None, Result, Ok, Err}
use Rattle.model.specs.declared.Operation.{Operation}
use Rattle.model.specs.Threads.{no_operation}
use Rattle.language.specs.Words.{words, without_return}
use Rattle.language.specs.Grammar.{rows, first_field, set_row, find_row, number_letters, rest_letter, most_more}
use Rattle.language.specs.Commands.{Progress, stopped, reached, read_numbers, misspelled, spelled, read_parts, Command, skipped, wrong, asked, with_parts, complete, read_rest, read_row, read_field, from_words, line_limit, command_of}
use Rattle.scanning.specs.declared.Span.{Span}
use Rattle.scanning.specs.Scanned.{between, Found, Shortened}
use Rattle.scanning.proofs.Runs.{found_none, found_word}
use Rattle.letters.specs.Measured.{number_of}
use Rattle.letters.specs.declared.Reason.TheVariants.{NoCommand, NoField, TooLong}
use Rattle.commands.specs.declared.Misread.{Misread}
use Rattle.commands.specs.declared.Asked.{Asked}
use Rattle.commands.specs.declared.cursors.Cursor.{Cursor}
use Rattle.commands.specs.Standing.{progress, Placed, Refuses, Reaches, Asks, Demands, Parses, read_on, from_first}
use Rattle.commands.proofs.Reading.{refuses_through, reached-end, reached-word, between_none, between-front, placed_word}

-- ---- what a line comes to
-- a line asks for what that is equal to
pub demands_as : (line numbers : List ℕ) {c d : Command} (r : Result Asked Misread) → c ≡ d → Demands line numbers c r → Demands line numbers d r
demands_as line numbers r e a = let P : Command → Type 0 = λ x. Demands line numbers x r in subst P e a

-- so does one that is no command
pub refuses_as : (line : List ℕ) {c d : Command} {m : Misread} → c ≡ d → Refuses line wrong c m → Refuses line wrong d m
refuses_as line e r = record { word = r.word; means = r.means ∙ e }

-- and one that asks for a row
pub asks_as : (numbers : List ℕ) {c d : Command} {a : Asked} → c ≡ d → Asks numbers c a → Asks numbers d a
asks_as numbers e a = record { few = a.few; means = a.means ∙ e }

-- a row with its numbers and its operation
pub asks_row : (numbers : List ℕ) {c : Command} (a : Asked) (row count : ℕ) (op : Operation) → a ≡ record { row = row; count = count; op = op } → count ≤ length numbers
    → asked row (take count numbers) op ≡ c → Asks numbers c a
asks_row numbers a row count op e le m = rw e (record { few = le; means = m })

-- ---- the rest of a line
module _ (row : ℕ) (line numbers : List ℕ) (cursor : Cursor) (letter : ℕ) (l : letter ≡ rest_letter row) where
  -- an operation
  rest-parts : letter ≡ code "p" → with_parts row (take cursor.count numbers) (read_parts (words (drop cursor.at line))) ≡ read_rest row (progress line numbers cursor)
  unfolding read_rest
  rest-parts p = rw (← l, eq-eqb letter (code "p") p)

  -- it is read
  pub parts-read : (op : Operation) → letter ≡ code "p" → spelled op ≡ read_parts (words (drop cursor.at line)) → asked row (take cursor.count numbers) op ≡ read_rest row (progress line numbers cursor)
  unfolding with_parts
  parts-read op p e = ap (with_parts row (take cursor.count numbers)) e ∙ rest-parts p

  -- or it is none
  pub parts-refused : {m : Misread} → letter ≡ code "p" → Refuses line misspelled (read_parts (words (drop cursor.at line))) m → Refuses line wrong (read_rest row (progress line numbers cursor)) m
  unfolding with_parts
  parts-refused p r = refuses_as line (rest-parts p) (refuses_through wrong (with_parts row (take cursor.count numbers)) (λ reason word. refl) r)

  module _ (p : letter ≡ code "p" → ⊥) where
    -- anything
    pub rest-asked : letter ≡ code "a" → asked row (take cursor.count numbers) no_operation ≡ read_rest row (progress line numbers cursor)
    unfolding read_rest
    rest-asked a = rw (← l, ne_eqb letter (code "p") p, eq-eqb letter (code "a") a)

    module _ (a : letter ≡ code "a" → ⊥) where
      -- more numbers
      rest_more : complete row (read_on letter (most_more letter) (progress line numbers cursor)) ≡ read_rest row (progress line numbers cursor)
      unfolding read_rest read_on
      rest_more = rw (← l, ne_eqb letter (code "p") p, ne_eqb letter (code "a") a)

      -- they are read
      pub more-read : (after : List ℕ) (most : ℕ) (last : Cursor) → Reaches line after (read_on letter (most_more letter) (progress line numbers cursor)) most last
          → asked row (take last.count after) no_operation ≡ read_rest row (progress line numbers cursor)
      unfolding complete
      more-read after most last r = ap (complete row) r.means ∙ rest_more

      -- or one is none
      pub more-refused : {m : Misread} → Refuses line stopped (read_on letter (most_more letter) (progress line numbers cursor)) m → Refuses line wrong (read_rest row (progress line numbers cursor)) m
      unfolding complete
      more-refused r = refuses_as line rest_more (refuses_through wrong (complete row) (λ reason word. refl) r)

-- ---- a row
module _ (line : List ℕ) (row : ℕ) (p : Progress) where
  -- its numbers are read
  pub row_read : {q : Progress} → q ≡ read_numbers (number_letters row) p → read_rest row q ≡ read_row row p
  unfolding read_row
  row_read e = ap (read_rest row) e

  -- or one is none
  pub row-refused : {m : Misread} → Refuses line stopped (read_numbers (number_letters row) p) m → Refuses line wrong (read_row row p) m
  unfolding read_row read_rest
  row-refused r = refuses_through wrong (read_rest row) (λ reason word. refl) r

-- ---- a field
module _ (line numbers : List ℕ) (cursor : Cursor) (word : Span) (f : Found line cursor.at word.start word.end) where
  -- none is there
  pub field-none : word.start ≡ word.end → Refuses line wrong (read_field (progress line numbers cursor)) (record { reason = NoField; word = word })
  unfolding read_field
  field-none s = record { word = placed_word f; means = rw (reached-end line cursor word f numbers s, between_none line word.start word.end s) }

  module _ (d : word.start ≡ word.end → ⊥) where
    -- the word names none
    pub field-wrong : find_row (rows - first_field) first_field (between word.start word.end line) ≡ rows → Refuses line wrong (read_field (progress line numbers cursor)) (record { reason = NoField; word = word })
    unfolding read_field
    field-wrong z = record { word = placed_word f; means = rw (reached-word line cursor word f numbers d, eq-eqb _ rows z) }

    -- it names one
    pub field_row : (row : ℕ) → find_row (rows - first_field) first_field (between word.start word.end line) ≡ row → row < rows
        → read_row row (reached (take cursor.count numbers) (words (drop word.end line))) ≡ read_field (progress line numbers cursor)
    unfolding read_field
    field_row row r lt = rw (reached-word line cursor word f numbers d, r, ne_eqb row rows (λ e. omega arith))

-- ---- the first word
module _ (line : List ℕ) (word : Span) (place : Placed line word.start word.end) where
  -- it names no command
  pub first-none : find_row first_field 0 (between word.start word.end line) ≡ first_field → Refuses line wrong (from_first (between word.start word.end line) (words (drop word.end line))) (record { reason = NoCommand; word = word })
  unfolding from_first
  first-none z = record { word = place; means = rw (eq-eqb _ first_field z) }

  module _ (row : ℕ) (r : find_row first_field 0 (between word.start word.end line) ≡ row) (lt : row < first_field) where
    -- it is `set`
    first-set : row ≡ set_row → read_field (read_numbers (number_letters row) (reached [] (words (drop word.end line)))) ≡ from_first (between word.start word.end line) (words (drop word.end line))
    unfolding from_first
    first-set s = rw (r, ne_eqb row first_field (λ e. omega arith), eq-eqb row set_row s)

    -- its thread is read
    pub set-thread : {p : Progress} → row ≡ set_row → p ≡ read_numbers (number_letters row) (reached [] (words (drop word.end line))) → read_field p ≡ from_first (between word.start word.end line) (words (drop word.end line))
    set-thread s e = ap read_field e ∙ first-set s

    -- or it is none
    pub set-wrong : {m : Misread} → row ≡ set_row → Refuses line stopped (read_numbers (number_letters row) (reached [] (words (drop word.end line)))) m
        → Refuses line wrong (from_first (between word.start word.end line) (words (drop word.end line))) m
    unfolding read_field
    set-wrong s e = refuses_as line (first-set s) (refuses_through wrong read_field (λ reason w. refl) e)

    -- it is another
    pub first-row : (row ≡ set_row → ⊥) → read_row row (reached [] (words (drop word.end line))) ≡ from_first (between word.start word.end line) (words (drop word.end line))
    unfolding from_first
    first-row s = rw (r, ne_eqb row first_field (λ e. omega arith), ne_eqb row set_row s)

-- ---- a line
module _ (line : List ℕ) (word : Span) (f : Found line 0 word.start word.end) where
  -- it has no word
  pub line-none : word.start ≡ word.end → skipped ≡ from_words (words line)
  unfolding from_words
  line-none s = rw (found_none line 0 _ _ f s)

  module _ (d : word.start ≡ word.end → ⊥) where
    -- its first byte that is no blank is the first of its first word
    first_byte : get_or (between word.start word.end line) 0 0 ≡ get_or line word.start 0
    first_byte =
        let inside : 0 < word.end - word.start = omega (arith, f.ordered) in
        let there : word.start + 0 ≡ word.start = omega arith in
        get_or-take (word.end - word.start) (drop word.start line) 0 0 inside ∙ get_or-drop word.start line 0 0 ∙ ap (λ (k : ℕ). get_or line k 0) there

    -- it starts with `#`
    pub line-comment : get_or line word.start 0 ≡ code "#" → skipped ≡ from_words (words line)
    unfolding from_words
    line-comment h = rw (found_word line 0 _ _ f d, eq-eqb (get_or (between word.start word.end line) 0 0) (code "#") (first_byte ∙ h))

    -- it does not
    pub line_first : (get_or line word.start 0 ≡ code "#" → ⊥) → from_first (between word.start word.end line) (words (drop word.end line)) ≡ from_words (words line)
    unfolding from_words from_first
    line_first h = rw (found_word line 0 _ _ f d, ne_eqb (get_or (between word.start word.end line) 0 0) (code "#") (λ e. h (sym first_byte ∙ e)))

-- ---- the whole line
module _ (line numbers : List ℕ) (end : ℕ) (s : Shortened line end) where
  -- as many bytes as are left of it
  front_length : length (without_return line) ≡ end
  front_length = sym (ap length s.front) ∙ length-take-le end line s.within

  -- it is too long
  pub line-long : line_limit < end → Refuses line wrong (command_of line) (record { reason = TooLong; word = record { start = 0; end = 0 } })
  unfolding command_of
  line-long lt = record { word = record { ordered = omega arith; within = omega arith }; means = rw (front_length, lt-leb end line_limit lt) }

  module _ (le : end ≤ line_limit) where
    -- it is not
    line-short : from_words (words (take end line)) ≡ command_of line
    unfolding command_of
    line-short = rw (front_length, le-leb end line_limit le, ← s.front)

    -- what is returned of its front is returned of it
    pub front-parses : (r : Result (Option Asked) Misread) → Parses (take end line) numbers (from_words (words (take end line))) r → Parses line numbers (command_of line) r
    front-parses (Ok None) p = p ∙ line-short
    front-parses (Ok (Some a)) p = asks_as numbers line-short p
    front-parses (Err m) p =
        let inside : m.word.end ≤ end = omega (arith, p.word.within, length-take-le end line s.within) in
        let same = between-front line end m.word.start m.word.end inside in record {
          word = record { ordered = p.word.ordered; within = omega (arith, s.within) };
          means = ap (wrong (number_of m.reason)) (sym same) ∙ p.means ∙ line-short;
        }
