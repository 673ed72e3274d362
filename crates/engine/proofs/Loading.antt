-- Loading rules: by the rows on the table and the row on the rules, and what is told of the pair.
use Rattle.std.proofs.Common.{◌≡◌, ℕ, List, [], ◌∷◌, refl, sym}
use Rattle.model.specs.declared.Rules.{Rules}
use Rattle.model.specs.declared.Table.{Table}
use Rattle.model.specs.declared.Misfit.{Misfit}
use Rattle.model.specs.declared.Misfit.TheVariants.{Fits}
use Rattle.model.specs.Rules.{misfit}
use Rattle.model.specs.Calls.{load}
use Rattle.model.specs.Refusals.{first_refusal, unless, bad_size, not_well_formed, table_rows, bad_rules, later_rows, rows_of, refusal}
use Rattle.model.specs.Promise.{state, load_misfit}
use Rattle.laws.proofs.Groups.{table-few}
use Rattle.refusals.specs.declared.Refusal.{Refusal}
use Rattle.refusals.specs.Numbers.{number}
use Rattle.refusals.proofs.Laws.{group-stops, group-goes_on}
use Rattle.engine.proofs.Refused.{by_number}

module _ (t : Table) (rules : Rules) (store : List ℕ) where
  -- a row on the table refuses
  pub table-refuses : (r : Refusal) → number r ≡ first_refusal (table_rows t) → number r ≡ refusal (load rules) (state t store)
  unfolding refusal rows_of
  table-refuses r e = group-stops (table_rows t) (later_rows (load rules) (state t store)) r e

  -- where none does, the row on the rules decides
  pub rules-decide : (g : ℕ) → 0 ≡ first_refusal (table_rows t) → g ≡ first_refusal (bad_rules t rules ∷ []) → g ≡ refusal (load rules) (state t store)
  unfolding refusal rows_of later_rows table_rows bad_size not_well_formed
  rules-decide g none e = group-goes_on (bad_size t.n ∷ not_well_formed t ∷ []) (bad_rules t rules ∷ []) g refl none e

module _ (t : Table) (rules : Rules) where
  -- where a row on the table refuses, nothing is told of the rules
  pub misfit_untold : (r : Refusal) → number r ≡ first_refusal (table_rows t) → Fits ≡ load_misfit t rules
  unfolding load_misfit unless
  misfit_untold r e = by_number r _ e (λ k is. rw is refl)

  -- where none does, how they fit
  pub misfit-told : 0 ≡ first_refusal (table_rows t) → (found : Misfit) → found ≡ misfit t.n rules → found ≡ load_misfit t rules
  unfolding load_misfit unless
  misfit-told z found is = rw (sym z) is

pub ruleset load_rules = (table-refuses, rules-decide, misfit_untold, misfit-told, table-few)
