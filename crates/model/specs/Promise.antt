-- What each public call returns and leaves, refused or not. Contracts cite these definitions, and the linearization is about them.
use Rattle.std.specs.Prelude.{◌≡◌, true, cond, List, [], ℕ, ◌*◌, ◌≤◌, length, take}
use Rattle.std.proofs.Math.Option.{get_or}
use Rattle.model.specs.declared.Operation.{Operation}
use Rattle.model.specs.declared.Outcome.{Outcome}
use Rattle.model.specs.declared.Table.{Table}
use Rattle.model.specs.declared.Answer.{Answer}
use Rattle.model.specs.declared.Rules.{Rules}
use Rattle.model.specs.declared.Misfit.{Misfit}
use Rattle.model.specs.declared.Misfit.TheVariants.{Fits}
use Rattle.model.specs.Lists.{up_to}
use Rattle.model.specs.Answers.{accepted, Said, refused, replied, said, SaidOutcome, shown, SaidSearch, not_receiving, searched}
use Rattle.model.specs.Codes.{View, nobody}
use Rattle.model.specs.Operations.{spark_limit}
use Rattle.model.specs.Rules.{misfit}
use Rattle.model.specs.Threads.{new_table, at}
use Rattle.model.specs.Queues.{find_sender, places_read}
use Rattle.model.specs.Store.{words_at}
use Rattle.model.specs.Calls.{Call, begin, spark_begin, State, accepted_reply, accepted_state}
use Rattle.model.specs.Counting.{length_used, count_places, count_of}
use Rattle.model.specs.Refusals.{first_refusal, unless, table_rows, refusal, make_refusal, outcome_refusal, search_refusal, report_refusal, count_refusal}

-- ---- begin, step, cancel, tick, and loading rules
-- what the call answers
unfoldable pub answer : Call → State → Said
answer c s = unless (refusal c s) refused (replied (accepted_reply c s))

-- "all unchanged" where it is refused
unfoldable pub next : Call → State → State
next c s = unless (refusal c s) (λ g. s) (accepted_state c s)

-- a state by its parts, as a contract names them
abbrev pub state : Table → List ℕ → State
state t store = record { table = t; store = store }

-- what a call promises of its answer and of what it leaves
pub record Promise (c : Call) (before : State) (a : Answer) (after : State) : Type 0 where
  pub answers : said a ≡ answer c before
  pub leaves : after ≡ next c before

-- document 02, #107: "at most 3 words"; only a send part has words
abbrev pub FewWords : Operation → Type 0
FewWords o = o.send.present ≡ true → o.send.count ≤ spark_limit

-- "a begin of at most 3 words returns and leaves the same through either"
abbrev pub SameThroughEither : Type 0
SameThroughEither = (x : ℕ) (o : Operation) (s : State) → FewWords o → (answer (spark_begin x o) s ≡ answer (begin x o) s) × (next (spark_begin x o) s ≡ next (begin x o) s)

-- ---- loading rules
-- document 02, #102: "14, gap or overlap, at loading, with the pair": what tells them, and `Fits` where the loading is accepted or the table is refused
unfoldable pub load_misfit : Table → Rules → Misfit
load_misfit t rules = unless (first_refusal (table_rows t)) (λ g. Fits) (misfit t.n rules)

-- ---- making a table
-- what making a table answers
unfoldable pub make_answer : ℕ → Said
make_answer n = unless (make_refusal n) refused (replied accepted)

-- "none made" is a table of no thread, which every call refuses with 1
unfoldable pub made_table : ℕ → Table
made_table n = unless (make_refusal n) (λ g. new_table 0) (new_table n)

-- what making a table promises
pub record MakePromise (n : ℕ) (a : Answer) (made : Table) : Type 0 where
  pub answers : said a ≡ make_answer n
  pub makes : made ≡ made_table n

-- ---- outcome
-- the view of thread x
unfoldable pub view : State → ℕ → View
view s x = record { outcome = (at s.table x).outcome; words = take (at s.table x).outcome.count (words_at s.store x) }

-- "code, source, count" of thread x
unfoldable pub outcome_answer : State → ℕ → SaidOutcome
outcome_answer s x = unless (outcome_refusal s x) SaidOutcome.refused (shown (view s x).outcome)

-- "hands back the first `count` of them as a part of the store; refused, an empty part"
unfoldable pub outcome_words : State → ℕ → List ℕ
outcome_words s x = unless (outcome_refusal s x) (λ g. []) (view s x).words

-- "The eight words of thread t start at place 8×t": where in the store they start; refused, 0, which document 01 leaves free
unfoldable pub outcome_place : State → ℕ → ℕ
outcome_place s x = unless (outcome_refusal s x) (λ g. 0) (8 * x)

-- ---- search
-- "the sender it settles on", or nobody, and "how many queue places it read", of thread x, which searches while it is receiving
unfoldable pub search_answer : Table → ℕ → SaidSearch
search_answer t x =
    let h = at t x in
    unless (search_refusal t x) SaidSearch.refused (cond h.flags.receiving (searched (get_or (find_sender h) nobody) (places_read h)) not_receiving)

-- ---- report
-- what the report call answers
unfoldable pub report_answer : Table → List Outcome → Said
report_answer t records = unless (report_refusal t (length records)) refused (replied accepted)

-- "fills a lent run of thread records, N of them, with code, source and count"
unfoldable pub report_after : Table → List Outcome → List Outcome
report_after t records = unless (report_refusal t (length records)) (λ g. records) (up_to t.n (λ x. (at t x).outcome))

-- what the report call promises of its answer and of the caller's records
pub record ReportPromise (t : Table) (records : List Outcome) (a : Answer) (after : List Outcome) : Type 0 where
  pub answers : said a ≡ report_answer t records
  pub fills : after ≡ report_after t records

-- ---- counting
-- what counting answers
unfoldable pub count_answer : Table → List ℕ → Said
count_answer t counts = unless (count_refusal t (length counts)) refused (replied accepted)

-- document 02, #105: "with the length used in the report"; refused, 0, which it leaves free
unfoldable pub count_length : Table → ℕ → List ℕ → ℕ
count_length t k counts = unless (count_refusal t (length counts)) (λ g. 0) (length_used k)

-- "The counts go into a lent run of 4096", each "that of a definition over all step lists", and so "other places hold 0"
unfoldable pub counts_after : Table → ℕ → List ℕ → List ℕ
counts_after t k counts = unless (count_refusal t (length counts)) (λ g. counts) (up_to count_places (count_of t (length_used k)))

-- what counting promises of its answer, of the length that it says it used, and of the caller's counts
pub record CountPromise (t : Table) (k : ℕ) (counts : List ℕ) (a : Answer) (used : ℕ) (after : List ℕ) : Type 0 where
  pub answers : said a ≡ count_answer t counts
  pub uses : used ≡ count_length t k counts
  pub fills : after ≡ counts_after t k counts
