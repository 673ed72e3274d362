-- The commands that are records: the row of the grammar of each, and what is read of its words.
use mathlib.Core.Path.{◌≡◌, refl, ap, ◌∙◌}
use mathlib.Core.Bool.{true}
use mathlib.Core.List.{List, [], ◌∷◌, ◌++◌}
use Prim.Native.Nat.{ℕ, ◌≤◌, ◌<◌}
use lib.ListN.{length}
use borrow.Author.Tests.{le-leb}
use Rattle.model.specs.declared.Operation.{Operation}
use Rattle.model.specs.Lists.{up_to, concat, all_below}
use Rattle.model.specs.RecordBytes.{table_kind, begin_kind, step_kind, cancel_kind, tick_kind}
use Rattle.model.specs.Threads.{no_operation}
use Rattle.model.specs.Bondtrace.{ascii, decimal}
use Rattle.language.specs.Words.{is_blank}
use Rattle.language.specs.Grammar.{grammar, column, is_name, find_row, until_blank, number_letters, rest_letter, most_more}
use Rattle.language.specs.Commands.{reached, read_numbers, read_more, spelled, read_parts, asked, with_parts, complete, read_rest, read_row, from_words, line_limit, command_of}
use Rattle.spelling.proofs.Texts.{are_words, apart, no_return, words-named, printed-named}
use Rattle.spelling.proofs.Parts.{one_byte}

-- a line of words is the command that its words say
pub command-named : (name : List ℕ) (more : List (List ℕ)) → are_words (name ∷ more) ≡ true → length (name ++ apart more) ≤ line_limit → command_of (name ++ apart more) ≡ from_words (name ∷ more)
unfolding command_of
command-named name more e short =
    rw (no_return (name ++ apart more) (printed-named name more e), le-leb (length (name ++ apart more)) line_limit short, words-named name more e) refl

-- ---- a row with a thread
module _ (row : ℕ) (name : List ℕ) (named : (left : List (List ℕ)) → from_words (name ∷ left) ≡ read_row row (reached [] left)) (letters : number_letters row ≡ ascii "b") where
  -- the thread is read
  thread-read : (n : ℕ) (left : List (List ℕ)) → n < 256 → from_words (name ∷ decimal n ∷ left) ≡ read_rest row (reached (n ∷ []) left)
  unfolding read_row
  thread-read n left small = named (decimal n ∷ left) ∙ rw letters (ap (read_rest row) (one_byte n left small))

module _ (n : ℕ) (small : n < 256) where
  -- a table
  pub table-read : from_words (ascii "table" ∷ decimal n ∷ []) ≡ asked table_kind (n ∷ []) no_operation
  unfolding from_words find_row is_name column grammar all_below concat ascii up_to number_letters until_blank is_blank read_rest rest_letter read_more most_more complete
  table-read = thread-read table_kind (ascii "table") (λ left. refl) refl n [] small

  -- a step
  pub step-read : from_words (ascii "step" ∷ decimal n ∷ []) ≡ asked step_kind (n ∷ []) no_operation
  unfolding from_words find_row is_name column grammar all_below concat ascii up_to number_letters until_blank is_blank read_rest rest_letter read_more most_more complete
  step-read = thread-read step_kind (ascii "step") (λ left. refl) refl n [] small

  -- a cancel
  pub cancel-read : from_words (ascii "cancel" ∷ decimal n ∷ []) ≡ asked cancel_kind (n ∷ []) no_operation
  unfolding from_words find_row is_name column grammar all_below concat ascii up_to number_letters until_blank is_blank read_rest rest_letter read_more most_more complete
  cancel-read = thread-read cancel_kind (ascii "cancel") (λ left. refl) refl n [] small

  -- a begin
  pub begin-read : (left : List (List ℕ)) (o : Operation) → read_parts left ≡ spelled o → from_words (ascii "begin" ∷ decimal n ∷ left) ≡ asked begin_kind (n ∷ []) o
  unfolding from_words find_row is_name column grammar all_below concat ascii up_to number_letters until_blank is_blank read_rest rest_letter with_parts
  begin-read left o e = thread-read begin_kind (ascii "begin") (λ later. refl) refl n left small ∙ ap (with_parts begin_kind (n ∷ [])) e

-- a tick
pub tick-read : from_words (ascii "tick" ∷ []) ≡ asked tick_kind [] no_operation
unfolding from_words find_row is_name column grammar all_below concat ascii up_to number_letters until_blank is_blank read_row read_numbers read_rest rest_letter read_more most_more complete
tick-read = refl
