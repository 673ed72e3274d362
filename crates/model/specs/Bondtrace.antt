-- Document 01, "Schedule bytes": what program `bondtrace` prints for an input, as bytes.
use Rattle.std.specs.Prelude.{cond, List, [], ◌∷◌, ◌++◌, map, ℕ, zero, suc, ◌+◌, ◌*◌, ◌/◌, ◌%◌, replicate, eqb, ltb, ℤ, pos, negsuc}
use Rattle.std.proofs.Math.Option.{Option, none, some}
use Prim.Native.String.{String, len, char_at}
use Prim.Native.Char.{code}
use Rattle.model.specs.declared.Record.{Record}
use Rattle.model.specs.declared.Table.{Table}
use Rattle.model.specs.Lists.{up_to, concat}
use Rattle.model.specs.Threads.{new_table}
use Rattle.model.specs.Calls.{Call, begin, step, cancel, tick, State}
use Rattle.model.specs.Refusals.{unless, refusal, make_refusal}
use Rattle.model.specs.Promise.{state, next, view}
use Rattle.model.specs.RecordBytes.{is_begin, step_kind, cancel_kind}
use Rattle.model.specs.Schedule.{Fault, decode_all}

-- ---- text
-- a text's characters as bytes
unfoldable pub ascii : String → List ℕ
ascii text = up_to (len text) (λ i. code (char_at text i))

-- the ASCII code of a digit
abbrev pub digit : ℕ → ℕ
digit d = 48 + d

-- the fewest decimal digits of n; `most` bounds them
unfoldable pub digits : ℕ → ℕ → List ℕ
digits zero n = []
digits (suc most) n =
    let longer = digits most (n / 10) ++ (digit (n % 10) ∷ []) in
    cond (ltb n 10) (digit n ∷ []) longer

-- a number in decimal
unfoldable pub decimal : ℕ → List ℕ
decimal n = digits (suc n) n

-- a code, "printed with" its sign
unfoldable pub signed : ℤ → List ℕ
signed (pos n) = decimal n
signed (negsuc n) = ascii "-" ++ decimal (suc n)

-- numbers, each behind a space
unfoldable pub spaced : List ℕ → List ℕ
spaced numbers = concat (map (λ number. ascii " " ++ decimal number) numbers)

-- ---- playing a schedule
-- the call of a record that is not the table's
unfoldable pub call_of : Record → Call
call_of r =
    cond (is_begin r.kind) (begin r.thread r.op)
    (cond (eqb r.kind step_kind) (step r.thread)
    (cond (eqb r.kind cancel_kind) (cancel r.thread) tick))

-- the table and the store, "records read, the table's included, and calls refused"
pub record Tally : Type 0 where
  pub now : State
  pub records : ℕ
  pub refused : ℕ

-- a tally by its parts
abbrev pub tally : Table → List ℕ → ℕ → ℕ → Tally
tally t store records refused = record { now = state t store; records = records; refused = refused }

-- one record more
unfoldable pub record_played : Record → Tally → Tally
record_played r p = record {
  now = next (call_of r) p.now;
  records = p.records + 1;
  refused = p.refused + unless (refusal (call_of r) p.now) (λ g. 1) 0;
}

-- one record after the other
unfoldable pub records_played : List Record → Tally → Tally
records_played [] p = p
records_played (r ∷ rs) p = records_played rs (record_played r p)

-- after the table record: a new table of n threads and a store of zeros
unfoldable pub started : ℕ → Tally
started n = tally (new_table n) (replicate (8 * n) 0) 1 0

-- ---- printing
-- "number, code, source, count, and as many words as the count", "in decimal with single spaces"
unfoldable pub thread_line : State → ℕ → List ℕ
thread_line s x =
    let v = view s x in
    decimal x ++ ascii " " ++ signed v.outcome.code ++ ascii " " ++ decimal v.outcome.source ++ ascii " " ++ decimal v.outcome.count
    ++ spaced v.words ++ ascii "\n"

-- "Line one: records read, the table's included, and calls refused. Then per thread .."
unfoldable pub final_text : Tally → List ℕ
final_text p =
    ascii "records " ++ decimal p.records ++ ascii " refused " ++ decimal p.refused ++ ascii "\n"
    ++ concat (up_to p.now.table.n (thread_line p.now))

-- "number, byte where that record starts, counted from 0"
unfoldable pub bad_line : ℕ → ℕ → List ℕ
bad_line number place = ascii "bad " ++ decimal number ++ ascii " at " ++ decimal place ++ ascii "\n"

-- what is printed of the records up to a fault, and of a schedule that has none
unfoldable pub calls_text : ℕ → List Record → Option Fault → List ℕ
calls_text n calls none = final_text (records_played calls (started n))
calls_text n calls (some fault) = bad_line fault.number fault.place

-- "On refusal 1 or 12 it prints only" the bad line: 12 at the table record, then 1, then 12 at a later record
unfoldable pub reading_text : List Record → Option Fault → List ℕ
reading_text [] fault = calls_text 0 [] fault
reading_text (r ∷ calls) fault = unless (make_refusal r.thread) (λ g. bad_line g 0) (calls_text r.thread calls fault)

-- standard output for standard input
unfoldable pub bondtrace : List ℕ → List ℕ
bondtrace input = let reading = decode_all input in reading_text reading.records reading.fault
