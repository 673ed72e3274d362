-- The text of a lawful schedule is read back, and what is read from any text is lawful.
use mathlib.Core.Path.{◌≡◌, refl, ap, ◌∙◌}
use mathlib.Core.Logic.{◌⊎◌, inl, inr}
use mathlib.Core.Bool.{Bool, true, false, cond}
use mathlib.Core.List.{List, [], ◌∷◌, ◌++◌, map, append_assoc, append-nil}
use mathlib.Core.Option.{none, some}
use Prim.Native.Nat.{ℕ, suc, ◌≤◌}
use lib.ListN.{length}
use lib.Dec.{leb}
use Rattle.model.specs.declared.Record.{Record}
use Rattle.model.specs.Lists.{concat, up_to}
use Rattle.model.specs.RecordBytes.{tick_kind}
use Rattle.model.specs.Encoding.{lawful_record}
use Rattle.model.specs.Schedule.{AllLawful, LawfulSchedule, decode_all, encode_all}
use Rattle.model.specs.Bondtrace.{ascii, decimal, spaced}
use Rattle.model.proofs.Laws.{and_left, and_right, and-made}
use Rattle.language.specs.Words.{newline, lines}
use Rattle.language.specs.Commands.{Command, skipped, wrong, asked, command_of}
use Rattle.language.specs.RecordText.{send_text, receive_text, record_line, record_text, records_asked, lawful_row, records_of}
use Rattle.language.specs.ScheduleText.{records_text, fault_text, totext, TextRead, first_after, read_then, read_lines, read_text, tobytes}
use Rattle.language.specs.Runs.{each}
use Rattle.language.proofs.Words.{lines-line}
use Rattle.roundtrip.specs.Fits.{AllFit}
use Rattle.roundtrip.specs.WholeSchedule.{Complete, LawfulSoFar}
use Rattle.roundtrip.proofs.WholeSchedule.{schedule-lawful, schedule-written-read}
use Rattle.spelling.specs.Respelled.{ScheduleRespelled, BytesRespelled, LawfulWritten, LawfulBytesWritten}
use Rattle.spelling.proofs.Texts.{is_word, are_words, printed, printed-unbroken, printed-named}
use Rattle.spelling.proofs.Numbers.{words-decimal}
use Rattle.spelling.proofs.Lines.{line-cases, thread-line, begin_words, begin-line, begin-words}
use Rattle.spelling.proofs.Records.{record_respelled}

-- ---- the lines of a text
-- the line of any record is printed
line-printed : (r : Record) → printed (record_line r) ≡ true
line-printed r = line-cases (λ line. printed line ≡ true) r named begun (unfold each ascii up_to in refl)
  where
    named : (name : List ℕ) → is_word name ≡ true → length name ≤ 6 → printed (name ++ spaced (r.thread ∷ [])) ≡ true
    named name e short = rw (thread-line name r.thread) (printed-named name (decimal r.thread ∷ []) (unfold are_words in and-made (is_word name) _ e (words-decimal (r.thread ∷ []))))

    begun : printed (ascii "begin" ++ spaced (r.thread ∷ []) ++ send_text r.op.send ++ receive_text r.op.receive) ≡ true
    begun = rw (begin-line r.thread r.op.send r.op.receive (ascii "begin"))
        (printed-named (ascii "begin") (begin_words r.thread r.op.send r.op.receive) (unfold are_words is_word each ascii up_to in begin-words r.thread r.op.send r.op.receive))

-- the lines of the text of records are those of the records
lines-respelled : (records : List Record) → lines (records_text records) ≡ map record_line records
unfolding records_text concat record_text lines ascii up_to
lines-respelled [] = refl
lines-respelled (r ∷ records) =
    ap lines (append_assoc (record_line r) (newline ∷ []) (records_text records))
    ∙ lines-line (record_line r) (records_text records) (printed-unbroken (record_line r) (line-printed r))
    ∙ ap (λ (l : List (List ℕ)). record_line r ∷ l) (lines-respelled records)

-- ---- lawful schedules
-- the lines of lawful records are read back
lines-read-back : (first : Bool) (n : ℕ) (records : List Record) → AllFit records → AllLawful lawful_record first records
    → read_lines first n (map record_line records) ≡ record { records = records; wrong_line = none }
unfolding read_lines read_then first_after
lines-read-back first n [] fits rules = refl
lines-read-back first n (r ∷ records) fits rules =
    rw (record_respelled first r fits.0 rules.0, lines-read-back false (suc n) records fits.1 rules.1) refl

-- the text of a lawful schedule is read back
pub schedule-respelled : ScheduleRespelled
unfolding read_text
schedule-respelled records fits rules = ap (read_lines true 1) (lines-respelled records) ∙ lines-read-back true 1 records fits rules

-- and so are its bytes
pub bytes-respelled : BytesRespelled
unfolding tobytes
bytes-respelled bytes u s = record { same = ap (λ (t : TextRead). encode_all t.records) back ∙ whole.writes; no_wrong_line = ap (λ (t : TextRead). t.wrong_line) back }
  where
    whole : Complete bytes (decode_all bytes)
    whole = schedule-written-read bytes u s

    text : totext bytes ≡ records_text (decode_all bytes).records
    text = unfold totext fault_text in rw whole.no_fault (append-nil (records_text (decode_all bytes).records))

    back : read_text (totext bytes) ≡ record { records = (decode_all bytes).records; wrong_line = none }
    back = ap read_text text ∙ schedule-respelled (decode_all bytes).records whole.fits whole.lawfully

-- ---- any text
-- lawful records of one line before later ones that are lawful, none of them the first
all-before : (row later : List Record) → lawful_row false row ≡ true → LawfulSoFar false later → AllLawful lawful_record false (row ++ later)
unfolding lawful_row
all-before [] [] e f = refl
all-before [] (r ∷ later) e f = f
all-before (r ∷ row) later e f = (and_left _ (lawful_row false row) e, all-before row later (and_right (lawful_record false r) (lawful_row false row) e) f)

-- the same, the first of them told whether it is the first
row_before : (first : Bool) (row later : List Record) → lawful_row first row ≡ true → LawfulSoFar (first_after first (some row)) later → LawfulSoFar first (row ++ later)
unfolding lawful_row first_after
row_before first [] later e f = f
row_before first (r ∷ row) later e f = (and_left _ (lawful_row false row) e, all-before row later (and_right (lawful_record first r) (lawful_row false row) e) f)

-- the records of a line, where a test lets only lawful ones pass
tested-before : (first : Bool) (n : ℕ) (row : List Record) (test : Bool) (later : TextRead) → (test ≡ true → lawful_row first row ≡ true)
    → LawfulSoFar (first_after first (cond test (some row) none)) later.records → LawfulSoFar first (read_then n (cond test (some row) none) later).records
unfolding read_then
tested-before first n row true later e f = row_before first row later.records (e refl) f
tested-before first n row false later e f = tt

-- the records of a line are lawful, whatever command it is
line_before : (first : Bool) (n : ℕ) (c : Command) (later : TextRead) → LawfulSoFar (first_after first (records_of first c)) later.records
    → LawfulSoFar first (read_then n (records_of first c) later).records
unfolding records_of read_then first_after
line_before first n skipped later f = f
line_before first n (wrong reason word) later f = tt
line_before first n (asked row numbers o) later f =
    tested-before first n (records_asked row numbers o) _ later (and_right (leb row tick_kind) (lawful_row first (records_asked row numbers o))) f

-- so are those of all lines
lines-lawful : (first : Bool) (n : ℕ) (later : List (List ℕ)) → LawfulSoFar first (read_lines first n later).records
unfolding read_lines
lines-lawful first n [] = tt
lines-lawful first n (line ∷ later) = line_before first n (command_of line) _ (lines-lawful (first_after first (records_of first (command_of line))) (suc n) later)

-- what is read from any text is lawful
pub lawful-written : LawfulWritten
unfolding read_text
lawful-written text = lines-lawful true 1 (lines text)

-- lawful records are written as nothing or as a lawful schedule
records-written : (records : List Record) → LawfulSoFar true records → (encode_all records ≡ []) ⊎ LawfulSchedule (encode_all records)
unfolding encode_all concat
records-written [] rules = inl refl
records-written (r ∷ records) rules = inr (schedule-lawful (r ∷ records) rules)

-- so are those of any text
pub lawful-bytes-written : LawfulBytesWritten
unfolding tobytes
lawful-bytes-written text = records-written (read_text text).records (lawful-written text)
