-- The rows of a begin, in the order of checking: those on the place, on the thread and its operation, and on the rules.
use Rattle.std.proofs.Common.{◌≡◌, ℕ, true, List, [], ◌∷◌, ◌++◌, length, refl, ◌∙◌}
use Rattle.model.specs.declared.Operation.{Operation}
use Rattle.model.specs.declared.EntryPoint.{EntryPoint}
use Rattle.model.specs.declared.Table.{Table}
use Rattle.model.specs.Calls.{begin_via}
use Rattle.model.specs.Promise.{state}
use Rattle.model.specs.Refusals.{first_refusal, bad_size, not_well_formed, no_thread, bad_length, not_permitted, table_rows, argument_rows, unruled_rows, begin_rows, later_rows, rows_of, refusal}
use Rattle.laws.proofs.Rows.{numbered}
use Rattle.laws.proofs.Groups.{then_rules}
use Rattle.refusals.specs.declared.Refusal.{Refusal}
use Rattle.refusals.specs.Numbers.{number}
use Rattle.refusals.proofs.Laws.{group-stops, group-goes_on}

-- the rows on the place have numbers
place-numbered : (t : Table) (x words : ℕ) → numbered (table_rows t ++ argument_rows t x words) ≡ true
unfolding table_rows argument_rows bad_size not_well_formed no_thread bad_length
place-numbered t x words = refl

module _ (via : EntryPoint) (t : Table) (x : ℕ) (o : Operation) (words : ℕ) (store : List ℕ) (fit : length store ≡ words) where
  -- all rows, in two groups
  in_groups : first_refusal ((table_rows t ++ argument_rows t x words) ++ begin_rows via t x o) ≡ refusal (begin_via via x o) (state t store)
  unfolding refusal rows_of later_rows table_rows argument_rows
  in_groups = rw fit refl

  -- the rows on the place come first
  pub place-refuses : (r : Refusal) → number r ≡ first_refusal (table_rows t ++ argument_rows t x words) → number r ≡ refusal (begin_via via x o) (state t store)
  place-refuses r e = group-stops (table_rows t ++ argument_rows t x words) (begin_rows via t x o) r e ∙ in_groups

  module _ (place : 0 ≡ first_refusal (table_rows t ++ argument_rows t x words)) where
    -- the others behind them
    later : (g : ℕ) → g ≡ first_refusal (begin_rows via t x o) → g ≡ refusal (begin_via via x o) (state t store)
    later g e = group-goes_on (table_rows t ++ argument_rows t x words) (begin_rows via t x o) g (place-numbered t x words) place e ∙ in_groups

    -- first those on the thread and its operation
    pub begin-refuses : (r : Refusal) → number r ≡ first_refusal (unruled_rows via t x o) → number r ≡ refusal (begin_via via x o) (state t store)
    unfolding begin_rows
    begin-refuses r e = later (number r) (group-stops (unruled_rows via t x o) (not_permitted t x o ∷ []) r e)

    -- then that on the rules
    pub rules-decide : (g : ℕ) → 0 ≡ first_refusal (unruled_rows via t x o) → g ≡ first_refusal (not_permitted t x o ∷ []) → g ≡ refusal (begin_via via x o) (state t store)
    rules-decide g none e = later g (then_rules via t x o 0 g none refl e)

pub ruleset begin_rules = (place-refuses, begin-refuses, rules-decide)
