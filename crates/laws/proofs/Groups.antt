-- The number by which a call is refused, group of rows by group, and what is known where a group refuses nothing.
use mathlib.Core.Path.{◌≡◌, refl, sym, ◌∙◌, ap}
use mathlib.Core.Logic.{◌≢◌}
use mathlib.Core.Bool.{true, not, ◌&&◌, and-false}
use mathlib.Core.List.{List, [], ◌∷◌, ◌++◌}
use Prim.Native.Nat.{ℕ, ◌*◌, ◌≤◌, ◌<◌}
use lib.ListN.{length}
use lib.Dec.{eqb, ltb}
use borrow.Author.Tests.{leb-false, lt-leb, eqb-true, eq-eqb, not-false}
use Rattle.model.specs.declared.Operation.{Operation}
use Rattle.model.specs.declared.EntryPoint.{EntryPoint}
use Rattle.model.specs.declared.EntryPoint.TheVariants.{Main, Spark}
use Rattle.model.specs.declared.Table.{Table}
use Rattle.model.specs.Rules.{permits, row_limit}
use Rattle.model.specs.WellFormed.{well_formed}
use Rattle.model.specs.Calls.{Call, begin_via, State}
use Rattle.model.specs.Refusals.{Row, first_refusal, bad_size, not_well_formed, no_thread, bad_length, lock_owned, not_idle, neither_part, with_itself, no_partner, no_member, too_many_words, bad_time, not_permitted, table_rows, argument_rows, unruled_rows, begin_rows, later_rows, rows_of, refusal}
use Rattle.model.proofs.Laws.{◌and◌}
use Rattle.model.proofs.Tested.{well_formed-told, formed-few}
use Rattle.laws.proofs.Rules.{fitting_few}
use Rattle.laws.proofs.Rows.{NoneHolds, numbered, none-holds, first-none, first-later, rows-passed, nothing-behind, group_refuses, group_passes}

-- ---- the rows on the table
-- they have numbers
table-numbered : (t : Table) → numbered (table_rows t) ≡ true
unfolding table_rows bad_size not_well_formed
table-numbered t = refl

module _ (t : Table) where
  -- a table on which no row holds is well-formed
  pub table-formed : (f : ℕ) → f ≡ first_refusal (table_rows t) → f ≡ 0 → well_formed t ≡ true
  unfolding table_rows bad_size not_well_formed
  table-formed f rows z = not-false (well_formed t) (none-holds (table_rows t) refl (sym rows ∙ z)).1.0

  -- and has at most 32 threads
  pub table-few : (f : ℕ) → f ≡ first_refusal (table_rows t) → f ≡ 0 → t.n ≤ 32
  table-few f rows z = formed-few t (table-formed f rows z)

  -- and at most 64 rows of rules
  pub table-few-rules : (f : ℕ) → f ≡ first_refusal (table_rows t) → f ≡ 0 → t.rules.len ≤ row_limit
  table-few-rules f rows z = fitting_few t.n t.rules (well_formed-told t (table-formed f rows z)).rules

  -- on a well-formed table none holds
  formed-rows : well_formed t ≡ true → NoneHolds (table_rows t)
  unfolding table_rows bad_size not_well_formed
  formed-rows formed = ap not (well_formed-told t formed).size and ap not formed and tt

-- ---- the rows on the table and, behind them, others
module _ (t : Table) (later : List Row) (f : ℕ) (rows : f ≡ first_refusal (table_rows t)) where
  -- the first row on the table that holds refuses
  pub table-first : f ≢ 0 → f ≡ first_refusal (table_rows t ++ later)
  table-first d = group_refuses (table_rows t) later f rows d

  -- where none holds, the first of the others does
  pub then_later : f ≡ 0 → (g : ℕ) → g ≡ first_refusal later → g ≡ first_refusal (table_rows t ++ later)
  then_later z g e = group_passes (table_rows t) later f g (table-numbered t) rows z e

-- ---- every call
module _ (c : Call) (s : State) where
  -- a call is refused by the first row on the table that holds
  pub table-number : (f : ℕ) → f ≡ first_refusal (table_rows s.table) → f ≢ 0 → f ≡ refusal c s
  unfolding refusal rows_of
  table-number = table-first s.table (later_rows c s)

  -- where none holds, by the first of the others
  pub later-number : (f : ℕ) → f ≡ first_refusal (table_rows s.table) → f ≡ 0 → (g : ℕ) → g ≡ first_refusal (later_rows c s) → g ≡ refusal c s
  unfolding refusal rows_of
  later-number = then_later s.table (later_rows c s)

  -- so on a well-formed table the others alone decide
  pub later-refusal : well_formed s.table ≡ true → refusal c s ≡ first_refusal (later_rows c s)
  unfolding refusal rows_of
  later-refusal formed = rows-passed (table_rows s.table) (later_rows c s) (formed-rows s.table formed)

-- ---- the rows on a thread's number and the length of a store
-- they have numbers
place-numbered : (t : Table) (x words : ℕ) → numbered (argument_rows t x words) ≡ true
unfolding argument_rows no_thread bad_length
place-numbered t x words = refl

module _ (t : Table) (x words : ℕ) where
  module _ (g : ℕ) (e : g ≡ first_refusal (argument_rows t x words)) (z : g ≡ 0) where
    -- where none holds, the thread is in the table
    pub place-below : x < t.n
    unfolding argument_rows no_thread bad_length
    place-below = leb-false t.n x (none-holds (argument_rows t x words) refl (sym e ∙ z)).0

    -- and the store has eight words for each thread
    pub place-store : words ≡ 8 * t.n
    unfolding argument_rows no_thread bad_length
    place-store = eqb-true words (8 * t.n) (not-false (eqb words (8 * t.n)) (none-holds (argument_rows t x words) refl (sym e ∙ z)).1.0)

  -- of a thread of the table, and a store with eight words for each thread, none holds
  pub place-passed : x < t.n → words ≡ 8 * t.n → NoneHolds (argument_rows t x words)
  unfolding argument_rows no_thread bad_length
  place-passed below fit = lt-leb t.n x below and ap not (eq-eqb words (8 * t.n) fit) and tt

-- ---- the row on a thread's number alone
-- where it does not hold, the thread is in the table
pub number-below : (t : Table) (x f : ℕ) → f ≡ first_refusal (no_thread t x ∷ []) → f ≡ 0 → x < t.n
unfolding no_thread
number-below t x f e z = leb-false t.n x (none-holds (no_thread t x ∷ []) refl (sym e ∙ z)).0

-- ---- the rows on a thread that begins, on its operation and on the rules
-- those before the rules have numbers
unruled-numbered : (via : EntryPoint) (t : Table) (x : ℕ) (o : Operation) → numbered (unruled_rows via t x o) ≡ true
unfolding unruled_rows lock_owned not_idle neither_part with_itself no_partner no_member too_many_words bad_time
unruled-numbered Main t x o = refl
unruled-numbered Spark t x o = refl

module _ (via : EntryPoint) (t : Table) (x : ℕ) (o : Operation) where
  -- one of them refuses, whatever the rules
  pub before-rules : (g : ℕ) → g ≡ first_refusal (unruled_rows via t x o) → g ≢ 0 → g ≡ first_refusal (begin_rows via t x o)
  unfolding begin_rows
  before-rules = group_refuses (unruled_rows via t x o) (not_permitted t x o ∷ [])

  -- where none of them holds, the rules decide
  pub then_rules : (f g : ℕ) → f ≡ first_refusal (unruled_rows via t x o) → f ≡ 0 → g ≡ first_refusal (not_permitted t x o ∷ []) → g ≡ first_refusal (begin_rows via t x o)
  unfolding begin_rows
  then_rules f g = group_passes (unruled_rows via t x o) (not_permitted t x o ∷ []) f g (unruled-numbered via t x o)

  -- where no rules are loaded, they say nothing
  pub without-rules : t.rules.len ≡ 0 → first_refusal (begin_rows via t x o) ≡ first_refusal (unruled_rows via t x o)
  unfolding begin_rows not_permitted permits
  without-rules none = nothing-behind (unruled_rows via t x o) (not_permitted t x o ∷ [])
      (first-later (not_permitted t x o) [] (rw none (and-false (o.send.present && ltb o.send.target t.n))) ∙ first-none)

-- ---- the rows of a begin
module _ (via : EntryPoint) (x : ℕ) (o : Operation) (s : State) where
  -- the rows on the place come first
  pub place-before-begin : (g : ℕ) → g ≡ first_refusal (argument_rows s.table x (length s.store)) → g ≢ 0 → g ≡ first_refusal (later_rows (begin_via via x o) s)
  unfolding later_rows
  place-before-begin g e d = group_refuses (argument_rows s.table x (length s.store)) (begin_rows via s.table x o) g e d

  -- then those on the thread and the operation
  pub begin-after-place : (f g : ℕ) → f ≡ first_refusal (argument_rows s.table x (length s.store)) → f ≡ 0 → g ≡ first_refusal (begin_rows via s.table x o) → g ≡ first_refusal (later_rows (begin_via via x o) s)
  unfolding later_rows
  begin-after-place f g e z h = group_passes (argument_rows s.table x (length s.store)) (begin_rows via s.table x o) f g (place-numbered s.table x (length s.store)) e z h
