-- Document 01, "What a refused call returns": the rows of its table, and for each call those that concern it, in the order of checking.
use Rattle.std.specs.Prelude.{Bool, not, cond, ◌&&◌, ◌||◌, List, [], ◌∷◌, ◌++◌, ℕ, zero, suc, ◌*◌, length, eqb, leb, ltb}
use Rattle.model.specs.declared.Operation.{Operation}
use Rattle.model.specs.declared.EntryPoint.{EntryPoint}
use Rattle.model.specs.declared.EntryPoint.TheVariants.{Main, Spark}
use Rattle.model.specs.declared.Rules.{Rules}
use Rattle.model.specs.declared.Table.{Table}
use Rattle.model.specs.Operations.{closed_beyond, empty_set, word_limit, spark_limit, has_receive, receive_time, closed_on}
use Rattle.model.specs.Times.{is_time_code}
use Rattle.model.specs.Phases.{idle}
use Rattle.model.specs.Rules.{permits, misfit, is_fit}
use Rattle.model.specs.Threads.{at}
use Rattle.model.specs.Locks.{lock_free}
use Rattle.model.specs.WellFormed.{size_in_range, in_phase, well_formed}
use Rattle.model.specs.Calls.{Call, begin_via, step, cancel, tick, load, State}
use Rattle.model.specs.Counting.{counted_threads, count_places}

-- "When", and the number that is "Returned"
pub record Row : Type 0 where
  pub when : Bool
  pub number : ℕ

-- the number of the first row that holds, or 0
unfoldable pub first_refusal : List Row → ℕ
first_refusal [] = 0
first_refusal (row ∷ rows) = let later = first_refusal rows in cond row.when row.number later

-- what is returned where the refusal is g: its number, or, where it is 0, the accepted value
unfoldable pub unless {ℓ} : {A : Type ℓ} → ℕ → (ℕ → A) → A → A
unless zero refused accepted = accepted
unless (suc g) refused accepted = refused (suc g)

-- "N is 0 or above 32"
unfoldable pub bad_size : ℕ → Row
bad_size n = record { when = not (size_in_range n); number = 1 }

-- "table not sound"
unfoldable pub not_well_formed : Table → Row
not_well_formed t = record { when = not (well_formed t); number = 2 }

-- "thread is N or more"
unfoldable pub no_thread : Table → ℕ → Row
no_thread t x = record { when = leb t.n x; number = 3 }

-- "word store not 8×N words, or report run not N long"
unfoldable pub bad_length : ℕ → ℕ → Row
bad_length expected actual = record { when = not (eqb actual expected); number = 11 }

-- "begin or cancel, and its lock is owned"
unfoldable pub lock_owned : Table → ℕ → Row
lock_owned t x = record { when = not (lock_free (at t x)); number = 4 }

-- "begin, phase not idle"
unfoldable pub not_idle : Table → ℕ → Row
not_idle t x = record { when = not (in_phase (idle ∷ []) (at t x)); number = 5 }

-- "neither part"
unfoldable pub neither_part : Operation → Row
neither_part o = record { when = not (o.send.present || has_receive o.receive); number = 6 }

-- "target or closed partner is the thread itself"
unfoldable pub with_itself : ℕ → Operation → Row
with_itself x o = record { when = o.send.present && eqb o.send.target x || closed_on o.receive x; number = 7 }

-- "closed partner is N or more"
unfoldable pub no_partner : Table → Operation → Row
no_partner t o = record { when = closed_beyond t.n o.receive; number = 8 }

-- document 02, #104: "15, empty set, at begin after 8"
unfoldable pub no_member : Operation → Row
no_member o = record { when = empty_set o.receive; number = 15 }

-- a send part of more words than a limit
unfoldable pub more_words : ℕ → Operation → Bool
more_words limit o = o.send.present && ltb limit o.send.count

-- "send part of more than 8 words"; document 02, #107: "16, more than 3 words through the spark entry, in the place of 9"
unfoldable pub too_many_words : EntryPoint → Operation → Row
too_many_words Main o = record { when = more_words word_limit o; number = 9 }
too_many_words Spark o = record { when = more_words spark_limit o; number = 16 }

-- "time code above 15 in a part it has"
unfoldable pub bad_time : Operation → Row
bad_time o = record {
  when = o.send.present && not (is_time_code o.send.time) || has_receive o.receive && not (is_time_code (receive_time o.receive));
  number = 10;
}

-- document 02, #102: "13, pair not permitted"; "a target of N or more still ends with -2"
unfoldable pub not_permitted : Table → ℕ → Operation → Row
not_permitted t x o = record { when = o.send.present && ltb o.send.target t.n && not (permits t.rules x o.send.target); number = 13 }

-- document 02, #102: "14, gap or overlap, at loading", or "more than 64 rows"
unfoldable pub bad_rules : Table → Rules → Row
bad_rules t rules = record { when = not (is_fit (misfit t.n rules)); number = 14 }

-- document 02, #105: "Here refusal 1 also covers N above 4"
unfoldable pub too_many_to_count : ℕ → Row
too_many_to_count n = record { when = ltb counted_threads n; number = 1 }

-- the rows on the table, which every call takes that is given one
unfoldable pub table_rows : Table → List Row
table_rows t = bad_size t.n ∷ not_well_formed t ∷ []

-- the rows on a thread's number and on the length of a word store
unfoldable pub argument_rows : Table → ℕ → ℕ → List Row
argument_rows t x words = no_thread t x ∷ bad_length (8 * t.n) words ∷ []

-- the rows on a thread that begins and on its operation, by the entry, whatever the rules
unfoldable pub unruled_rows : EntryPoint → Table → ℕ → Operation → List Row
unruled_rows via t x o = lock_owned t x ∷ not_idle t x ∷ neither_part o ∷ with_itself x o ∷ no_partner t o ∷ no_member o ∷ too_many_words via o ∷ bad_time o ∷ []

-- with that on the rules: "13 .. at begin after 10"
unfoldable pub begin_rows : EntryPoint → Table → ℕ → Operation → List Row
begin_rows via t x o = unruled_rows via t x o ++ (not_permitted t x o ∷ [])

-- the rows of each call after those on the table
unfoldable pub later_rows : Call → State → List Row
later_rows (begin_via via x o) s = argument_rows s.table x (length s.store) ++ begin_rows via s.table x o
later_rows (step x) s = argument_rows s.table x (length s.store)
later_rows (cancel x) s = no_thread s.table x ∷ lock_owned s.table x ∷ []
later_rows tick s = []
later_rows (load rules) s = bad_rules s.table rules ∷ []

-- the rows of each call, in the order of checking
unfoldable pub rows_of : Call → State → List Row
rows_of c s = table_rows s.table ++ later_rows c s

-- the number by which a call is refused, or 0
unfoldable pub refusal : Call → State → ℕ
refusal c s = first_refusal (rows_of c s)

-- making a table of n threads
unfoldable pub make_refusal : ℕ → ℕ
make_refusal n = first_refusal (bad_size n ∷ [])

-- the outcome of thread x
unfoldable pub outcome_refusal : State → ℕ → ℕ
outcome_refusal s x = first_refusal (table_rows s.table ++ argument_rows s.table x (length s.store))

-- the search of thread x
unfoldable pub search_refusal : Table → ℕ → ℕ
search_refusal t x = first_refusal (table_rows t ++ (no_thread t x ∷ []))

-- a report into a slice of so many records
unfoldable pub report_refusal : Table → ℕ → ℕ
report_refusal t records = first_refusal (table_rows t ++ (bad_length t.n records ∷ []))

-- counting into a slice of so many counts: "a lent run of 4096, else 11"
unfoldable pub count_refusal : Table → ℕ → ℕ
count_refusal t counts = first_refusal (too_many_to_count t.n ∷ table_rows t ++ (bad_length count_places counts ∷ []))
