-- The line of a lawful record is read back as that record.
use mathlib.Core.Path.{◌≡◌, refl, sym, ap, ◌∙◌}
use mathlib.Core.Bool.{Bool, true, false}
use mathlib.Core.List.{List, [], ◌∷◌, ◌++◌}
use mathlib.Core.Option.{Option, some}
use Prim.Native.Nat.{ℕ, ◌≤◌}
use native.Mathlib.Omega.{arith}
use lib.ListN.{length}
use lib.Dec.{eqb, leb}
use borrow.Author.Tests.{eqb-true, eqb-false, eq-eqb, leb-true}
use Rattle.model.specs.declared.Operation.{Operation}
use Rattle.model.specs.declared.Record.{Record}
use Rattle.model.specs.Lists.{up_to}
use Rattle.model.specs.RecordBytes.{table_kind, begin_kind, step_kind, cancel_kind, tick_kind, set_kind, is_begin, lawful_begin, lawful}
use Rattle.model.specs.Encoding.{operation_bytes, encode, lawful_record}
use Rattle.model.specs.Decoding.{record_of}
use Rattle.model.specs.Threads.{no_operation}
use Rattle.model.specs.Bondtrace.{ascii, decimal, spaced}
use Rattle.model.proofs.Laws.{by, same?, implies-read, all_of-read, and-made}
use Rattle.language.specs.Commands.{Command, asked, from_words, command_of}
use Rattle.language.specs.RecordText.{record_line, threads_of, kind_asked, records_asked, lawful_row, records_of}
use Rattle.language.specs.Runs.{each}
use Rattle.roundtrip.specs.Fits.{FitsRecord}
use Rattle.laws.proofs.Schedule.{no-begin, no-set, must_set}
use Rattle.roundtrip.proofs.Records.{bytes-lawful, begin_names, record_read, operation-none}
use Rattle.spelling.specs.Respelled.{RecordRespelled}
use Rattle.spelling.proofs.Texts.{is_word, are_words, apart}
use Rattle.spelling.proofs.Numbers.{words-decimal}
use Rattle.spelling.proofs.Parts.{parts-read}
use Rattle.spelling.proofs.Begins.{begin_tidy}
use Rattle.spelling.proofs.Lines.{line_of_table, line_of_begin, line_of_step, line_of_cancel, line_of_tick, thread-line, begin_words, begin-line, begin-words, line-short}
use Rattle.spelling.proofs.Rows.{command-named, table-read, step-read, cancel-read, begin-read, tick-read}

-- ---- what is asked for
-- a record that is no tick, by a row that stands for its kind
one-asked : (first : Bool) (row : ℕ) (r : Record) → leb row tick_kind ≡ true → eqb row tick_kind ≡ false → kind_asked row r.op ≡ r.kind → lawful_record first r ≡ true
    → records_of first (asked row (r.thread ∷ []) r.op) ≡ some (r ∷ [])
unfolding records_of records_asked threads_of lawful_row
one-asked first row r known other kind rules = rw (known, other, kind, rules) refl

-- a tick
tick-asked : (first : Bool) → lawful_record first (record { kind = tick_kind; thread = 0; op = no_operation }) ≡ true
    → records_of first (asked tick_kind [] no_operation) ≡ some (record { kind = tick_kind; thread = 0; op = no_operation } ∷ [])
unfolding records_of records_asked kind_asked threads_of lawful_row
tick-asked first rules = rw rules refl

-- a row that is no begin is its own kind
kind_of-row : (row : ℕ) (o : Operation) → eqb row begin_kind ≡ false → kind_asked row o ≡ row
unfolding kind_asked
kind_of-row row o e = rw e refl

-- ---- a lawful record
module _ (first : Bool) (r : Record) (fits : FitsRecord r) (rules : lawful_record first r ≡ true) where
  -- its kind is one of the six
  known-kind : leb r.kind set_kind ≡ true
  unfolding lawful encode
  known-kind = (all_of-read _ (bytes-lawful first r rules)).1.1.0

  -- a tick has thread 0
  tick-thread : eqb r.kind tick_kind ≡ true → r.thread ≡ 0
  unfolding lawful encode
  tick-thread e = eqb-true r.thread 0 (implies-read _ _ (all_of-read _ (bytes-lawful first r rules)).1.1.1.1.1.0 e)

  -- a record that is no begin has no operation
  no-operation : is_begin r.kind ≡ false → no_operation ≡ r.op
  unfolding record_of encode
  no-operation e = sym (operation-none r.kind e (encode r)) ∙ ap (λ (q : Record). q.op) (record_read first r rules fits)

  -- a begin is lawful in its own way
  begin-lawful : is_begin r.kind ≡ true → lawful_begin (0x4C ∷ 0x34 ∷ r.kind ∷ r.thread ∷ operation_bytes r.op) ≡ true
  unfolding lawful encode
  begin-lawful e = rw e at (implies-read _ _ (all_of-read _ (bytes-lawful first r rules)).1.1.1.1.1.1.0 e)

  -- the kind of a begin says whether it names a set
  begin-kind : is_begin r.kind ≡ true → kind_asked begin_kind r.op ≡ r.kind
  unfolding kind_asked
  begin-kind b = rw (begin_names first r rules fits b) (same? r.kind begin_kind (λ e. rw e refl) (λ d. rw (must_set r.kind b d) refl))

  -- ---- read back
  -- a line of words that say a command is that command
  said-back : (name : List ℕ) (more : List (List ℕ)) (command : Command) → record_line r ≡ name ++ apart more → are_words (name ∷ more) ≡ true → from_words (name ∷ more) ≡ command
      → command_of (record_line r) ≡ command
  said-back name more command line e read =
      let short : length (name ++ apart more) ≤ 4095 = omega (arith, line-short r fits, ap length line) in ap command_of line ∙ command-named name more e short ∙ read

  -- a record that is no tick is read back where its command asks for its kind, its thread and its operation
  asked-back : (row : ℕ) (o : Operation) → leb row tick_kind ≡ true → eqb row tick_kind ≡ false → kind_asked row r.op ≡ r.kind → o ≡ r.op → command_of (record_line r) ≡ asked row (r.thread ∷ []) o
      → records_of first (command_of (record_line r)) ≡ some (r ∷ [])
  asked-back row o known other kind same read =
      ap (records_of first) (read ∙ (λ i. asked row (r.thread ∷ []) (same i))) ∙ one-asked first row r known other kind rules

  -- a record with a thread and nothing more
  thread-back : (kind : ℕ) (name : List ℕ) → eqb r.kind kind ≡ true → is_begin kind ≡ false → leb kind tick_kind ≡ true → eqb kind tick_kind ≡ false → record_line r ≡ name ++ spaced (r.thread ∷ [])
      → is_word name ≡ true → from_words (name ∷ decimal r.thread ∷ []) ≡ asked kind (r.thread ∷ []) no_operation → records_of first (command_of (record_line r)) ≡ some (r ∷ [])
  thread-back kind name e unbegun known other line named read =
      let k : r.kind ≡ kind = eqb-true r.kind kind e in
      asked-back kind no_operation known other (kind_of-row kind r.op (no-begin kind unbegun) ∙ sym k) (no-operation (rw k unbegun))
      (said-back name (decimal r.thread ∷ []) (asked kind (r.thread ∷ []) no_operation) (line ∙ thread-line name r.thread)
      (unfold are_words in and-made (is_word name) _ named (words-decimal (r.thread ∷ []))) read)

  -- a table
  table-back : eqb r.kind table_kind ≡ true → records_of first (command_of (record_line r)) ≡ some (r ∷ [])
  unfolding is_word each ascii up_to is_begin
  table-back e = thread-back table_kind (ascii "table") e refl refl refl (line_of_table r e) refl (table-read r.thread fits.thread)

  module _ (no_table : eqb r.kind table_kind ≡ false) where
    -- a begin
    begin-back : is_begin r.kind ≡ true → records_of first (command_of (record_line r)) ≡ some (r ∷ [])
    unfolding are_words is_word each ascii up_to
    begin-back e =
        let tidy = begin_tidy 0x4C 0x34 r.kind r.thread r.op fits.op (begin-lawful e) in
        asked-back begin_kind r.op refl refl (begin-kind e) refl
        (said-back (ascii "begin") (begin_words r.thread r.op.send r.op.receive) (asked begin_kind (r.thread ∷ []) r.op)
        (line_of_begin r no_table e ∙ begin-line r.thread r.op.send r.op.receive (ascii "begin"))
        (begin-words r.thread r.op.send r.op.receive)
        (begin-read r.thread fits.thread _ r.op (parts-read r.op fits.op tidy)))

    module _ (unbegun : is_begin r.kind ≡ false) where
      -- a step
      step_back : eqb r.kind step_kind ≡ true → records_of first (command_of (record_line r)) ≡ some (r ∷ [])
      unfolding is_word each ascii up_to is_begin
      step_back e = thread-back step_kind (ascii "step") e refl refl refl (line_of_step r no_table unbegun e) refl (step-read r.thread fits.thread)

      module _ (no_step : eqb r.kind step_kind ≡ false) where
        -- a cancel
        cancel_back : eqb r.kind cancel_kind ≡ true → records_of first (command_of (record_line r)) ≡ some (r ∷ [])
        unfolding is_word each ascii up_to is_begin
        cancel_back e = thread-back cancel_kind (ascii "cancel") e refl refl refl (line_of_cancel r no_table unbegun no_step e) refl (cancel-read r.thread fits.thread)

        -- a tick
        tick-back : eqb r.kind cancel_kind ≡ false → records_of first (command_of (record_line r)) ≡ some (r ∷ [])
        unfolding are_words is_word each apart ascii up_to
        tick-back no-cancel =
            let k : r.kind ≡ tick_kind = last-kind no-cancel in
            let same : ◌≡◌ {A = Record} (record { kind = tick_kind; thread = 0; op = no_operation }) r =
            λ i. record { kind = sym k i; thread = sym (tick-thread (eq-eqb r.kind tick_kind k)) i; op = no-operation unbegun i } in
            ap (records_of first) (said-back (ascii "tick") [] (asked tick_kind [] no_operation) (line_of_tick r no_table unbegun no_step no-cancel) refl tick-read)
            ∙ tick-asked first (ap (lawful_record first) same ∙ rules)
            ∙ ap {B = Option (List Record)} (λ (q : Record). some (q ∷ [])) same
          where
            last-kind : eqb r.kind cancel_kind ≡ false → r.kind ≡ tick_kind
            last-kind f =
                omega (arith, leb-true r.kind set_kind known-kind, eqb-false r.kind table_kind no_table, eqb-false r.kind begin_kind (no-begin r.kind unbegun), eqb-false r.kind set_kind (no-set r.kind unbegun), eqb-false r.kind step_kind no_step, eqb-false r.kind cancel_kind f)

-- the line of a lawful record is read back as that record
pub record_respelled : RecordRespelled
record_respelled first r fits rules =
    by (eqb r.kind table_kind) (λ e. table-back first r fits rules e) (λ no_table.
    by (is_begin r.kind) (λ e. begin-back first r fits rules no_table e) (λ unbegun.
    by (eqb r.kind step_kind) (λ e. step_back first r fits rules no_table unbegun e) (λ no_step.
    by (eqb r.kind cancel_kind) (λ e. cancel_back first r fits rules no_table unbegun no_step e) (λ no-cancel. tick-back first r fits rules no_table unbegun no_step no-cancel))))
