use Rattle.std.proofs.Common.{ℕ, ◌≤◌, replicate, sym, ap, ◌∙◌, subst, arith}
use Rattle.std.proofs.lemmas.Result.{err_from_is_err_and}
use native.Mathlib.Nat.{min-le_right}
use Rattle.model.specs.Counting.{length_used, count_places, count_of}
use Rattle.model.specs.Lists.{up_to}
use Rattle.formed.proofs.Shape.{shaped}
use Rattle.counts.proofs.Refused.{count_fits, refused-count, accepted-count}
use Rattle.counts.proofs.count_endings.Goals as goal

-- a row refuses
pub returns-in_err-count_refusal : goal.returns-in_err-count_refusal
returns-in_err-count_refusal c =
    let p = err_from_is_err_and c.from_residual.result c.from_residual.ensures.1 in
    rw p.1 (refused-count _ _ _ _ _ p.2 c.in_err-count_refusal.ensures)

-- no row does: the table is well-formed, of at most four threads
pub few_of-requires : goal.few_of-requires
few_of-requires c =
    let (few, formed, long) = count_fits _ _ c.in_ok-count_refusal.ensures in
    record { checked = record { formed = formed; shaped = shaped c.args.table _ c.well_formed.0 (omega arith) }; n_le_counted_threads = few }

-- and there are 4096 counts
pub count_lists-requires : goal.count_lists-requires
unfolding length_used
count_lists-requires c =
    let (few, formed, long) = count_fits _ _ c.in_ok-count_refusal.ensures in
    record {
      whole = c.args.table;
      front = c.few_of.ensures;
      short = subst (λ (m : ℕ). m ≤ 10) (sym c.length_used-used.ensures) (min-le_right _ 10);
      zeros = c.zero_words.ensures ∙ ap (λ (m : ℕ). replicate m 0) long;
    }

pub returns : goal.returns
returns c =
    let used = c.length_used-used.ensures in
    accepted-count _ _ _ c.in_ok-count_refusal.ensures _ used _ (c.count_lists.ensures _ c.few_of.ensures ∙ ap (λ (m : ℕ). up_to count_places (count_of c.args.table m)) used)
