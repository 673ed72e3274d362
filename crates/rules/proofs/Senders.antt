-- How the pairs of one sender fit, by their counts; and those of all senders, one after the other.
use mathlib.Core.Path.{◌≡◌, refl, sym, ap, ◌∙◌}
use mathlib.Core.Logic.{◌≢◌}
use mathlib.Core.Bool.{true, false, not, ◌&&◌, true≢false}
use mathlib.Core.List.{List}
use Prim.Native.Nat.{ℕ, ◌+◌, ◌≤◌, ◌<◌}
use native.Mathlib.Numerals.{add-one}
use native.Mathlib.Omega.{arith}
use lib.Dec.{eqb}
use borrow.Author.Tests.{lt-ltb, le-ltb, ne_eqb, eqb-false, not-true}
use Rattle.model.specs.declared.Rule.{Rule}
use Rattle.model.specs.declared.Rules.{Rules}
use Rattle.model.specs.declared.Misfit.{Misfit}
use Rattle.model.specs.declared.Misfit.TheVariants.{Fits, TooMany}
use Rattle.model.specs.Lists.{up_to, concat}
use Rattle.model.specs.Rules.{rows_in, row_limit, pair_or_none, pairs_from, pairs_below, pair_misfit, is_fit, first_misfit, misfit}
use Rattle.model.proofs.Laws.{by, same?, and_left, and_right}
use Rattle.laws.proofs.Lists.{cond-true, cond-false}
use Rattle.laws.proofs.Rules.{fit_is, none-fits, fits_below, first-decides, all_fit, itself-fits, pair-counts, one-fits, fits_one}
use Rattle.rules.specs.Covers.{count_at, Covers}

-- ---- one sender
-- its pairs with the targets below r fall in one row each
abbrev pub OneEach : ℕ → List ℕ → ℕ → Type 0
OneEach s counts r = (j : ℕ) → j < r → s ≢ j → count_at counts j ≡ 1

-- a count that is told: not one, of another thread
pub told-apart : (count r s : ℕ) → (not (eqb count 1) && not (eqb r s)) ≡ true → (s ≢ r) × (count ≢ 1)
told-apart count r s e =
    (λ i. eqb-false r s (not-true (eqb r s) (and_right (not (eqb count 1)) (not (eqb r s)) e)) (sym i), eqb-false count 1 (not-true (eqb count 1) (and_left (not (eqb count 1)) (not (eqb r s)) e)))

-- one that is not told: one, if it is of another thread
pub not-told : (count r s : ℕ) → (not (eqb count 1) && not (eqb r s)) ≡ false → s ≢ r → count ≡ 1
not-told count r s e d = same? count 1 (λ i. i) (λ k. absurd (true≢false (sym (rw (ne_eqb count 1 k, ne_eqb r s (λ i. d (sym i))) refl) ∙ e)))

module _ {n : ℕ} {rows : List Rule} {s : ℕ} {counts : List ℕ} (C : Covers n rows s counts) where
  -- so they fit
  below-fit : (r : ℕ) → r ≤ n → OneEach s counts r → is_fit (first_misfit rows (concat (up_to r (pair_or_none s)))) ≡ true
  below-fit r few each = all_fit rows (pair_or_none s) r (λ j l. same? s j
      (λ e. ap is_fit (itself-fits rows s j e))
      (λ d. ap is_fit (pair-counts rows s j d ∙ one-fits _ _ (sym (C.read j (omega arith)) ∙ each j l d))))

  -- the first pair that does not is told
  pub sender-found : (r : ℕ) → r < n → OneEach s counts r → s ≢ r → count_at counts r ≢ 1 → pair_misfit (count_at counts r) (record { sender = s; target = r }) ≡ first_misfit rows (pairs_from n s)
  unfolding pairs_from
  sender-found r l each apart wrong = ap (λ k. pair_misfit k (record { sender = s; target = r })) (C.read r l) ∙ sym (pair-counts rows s r apart)
      ∙ sym (first-decides rows (pair_or_none s) n r l (below-fit r (omega arith) each) (by (is_fit (first_misfit rows (pair_or_none s r)))
      (λ e. absurd (wrong (C.read r l ∙ fits_one _ _ (sym (ap is_fit (pair-counts rows s r apart)) ∙ e))))
      (λ e. e)))

  -- or none is
  pub sender-fits : OneEach s counts n → Fits ≡ first_misfit rows (pairs_from n s)
  unfolding pairs_from
  sender-fits each = sym (fit_is _ (below-fit n (omega arith) each))

-- ---- all senders
module _ (n : ℕ) (rules : Rules) where
  -- the pairs of the senders below s fit
  abbrev pub FitBelow : ℕ → Type 0
  FitBelow s = is_fit (first_misfit (rows_in rules) (concat (up_to s (pairs_from n)))) ≡ true

  -- of none they do
  pub fit_none : FitBelow 0
  fit_none = none-fits (rows_in rules) (pairs_from n)

  -- too many rows
  pub many-rows : row_limit < rules.len → TooMany ≡ misfit n rules
  unfolding misfit
  many-rows l = sym (cond-true _ _ _ (lt-ltb row_limit rules.len l))

  module _ (few : rules.len ≤ row_limit) (s : ℕ) (below : FitBelow s) (found : Misfit) (is : found ≡ first_misfit (rows_in rules) (pairs_from n s)) where
    -- the first sender that does not fit decides
    pub sender-decides : s < n → is_fit found ≡ false → found ≡ misfit n rules
    unfolding misfit pairs_below
    sender-decides l wrong = is ∙ sym (cond-false _ _ _ (le-ltb row_limit rules.len few) ∙ first-decides (rows_in rules) (pairs_from n) n s l below (sym (ap is_fit is) ∙ wrong))

    -- one that does leads on to the next
    pub fit-more : is_fit found ≡ true → FitBelow (s + 1)
    fit-more e = rw add-one (ap is_fit (fits_below (rows_in rules) (pairs_from n) s below) ∙ sym (ap is_fit is) ∙ e)

  -- where all fit, the rules do
  pub all-senders-fit : rules.len ≤ row_limit → FitBelow n → Fits ≡ misfit n rules
  unfolding misfit pairs_below
  all-senders-fit few below = sym (cond-false _ _ _ (le-ltb row_limit rules.len few) ∙ fit_is _ below)
