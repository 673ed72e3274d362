-- Document 02, #102: how rules fit a table, pair by pair; what "fits", a gap and an overlap mean; and which row decides.
use mathlib.Core.Path.{◌≡◌, refl, sym, ap, ◌∙◌, subst}
use mathlib.Core.Logic.{◌≢◌, ◌↔◌}
use mathlib.Core.Bool.{true, false, cond, true≢false, or-false}
use mathlib.Core.List.{List, [], ◌∷◌, ◌++◌}
use Prim.Native.Nat.{ℕ, zero, suc, ◌+◌, ◌≤◌, ◌<◌}
use native.Mathlib.Omega.{arith}
use lib.Dec.{eqb, ltb}
use lib.ListN.{length, get_or, length-take}
use borrow.Author.Tests.{eq-eqb, ne_eqb, eqb-true, le-ltb, ltb-false}
use Rattle.model.specs.declared.Rule.{Rule}
use Rattle.model.specs.declared.Rules.{Rules}
use Rattle.model.specs.declared.Pair.{Pair}
use Rattle.model.specs.declared.Misfit.{Misfit}
use Rattle.model.specs.declared.Misfit.TheVariants.{Fits, TooMany, Gap, Overlap}
use Rattle.model.specs.Lists.{up_to, concat}
use Rattle.model.specs.Rules.{holds_pair, rows_in, falls, says_yes, permits, row_limit, zero_rule, pair_or_none, pairs_from, pairs_below, pair_misfit, is_fit, first_misfit, misfit, pair_of, EachInOneRow, Reported, rules_fit}
use Rattle.model.proofs.Laws.{by, same?}
use Rattle.laws.proofs.Lists.{cond-true, cond-false}
use Rattle.laws.proofs.Joined.{concat_snoc}

-- what keeps the rule is no misfit
pub fit_is : (m : Misfit) → is_fit m ≡ true → m ≡ Fits
fit_is Fits e = refl
fit_is TooMany e = absurd (true≢false (sym e))
fit_is (Gap pair) e = absurd (true≢false (sym e))
fit_is (Overlap pair) e = absurd (true≢false (sym e))

module _ (rows : List Rule) where
  -- ---- lists of pairs, one after the other
  -- of two lists the first decides, and where it fits the second
  joined-misfit : (a b : List Pair) → first_misfit rows (a ++ b) ≡ cond (is_fit (first_misfit rows a)) (first_misfit rows b) (first_misfit rows a)
  unfolding first_misfit
  joined-misfit [] b = refl
  joined-misfit (pair ∷ a) b = let found = pair_misfit (falls rows pair.sender pair.target) pair in by (is_fit found)
      (λ e. rw e (joined-misfit a b))
      (λ e. cond-false _ _ _ e ∙ sym (ap (λ (m : Misfit). cond (is_fit m) (first_misfit rows b) m) (cond-false (is_fit found) (first_misfit rows a) found e) ∙ cond-false _ _ _ e))

  -- a list for each number below k
  module _ (f : ℕ → List Pair) where
    -- how they fit
    abbrev up_to-misfit : ℕ → Misfit
    up_to-misfit k = first_misfit rows (concat (up_to k f))

    -- one number more
    one_more : (k : ℕ) → up_to-misfit (suc k) ≡ cond (is_fit (up_to-misfit k)) (first_misfit rows (f k)) (up_to-misfit k)
    unfolding up_to
    one_more k = ap (first_misfit rows) (concat_snoc (up_to k f) (f k)) ∙ joined-misfit (concat (up_to k f)) (f k)

    -- where those below k fit, the list of k decides
    pub fits_below : (k : ℕ) → is_fit (up_to-misfit k) ≡ true → up_to-misfit (suc k) ≡ first_misfit rows (f k)
    fits_below k e = one_more k ∙ cond-true _ _ _ e

    -- where those below k do not fit, it says nothing
    misfits_below : (k : ℕ) → is_fit (up_to-misfit k) ≡ false → up_to-misfit (suc k) ≡ up_to-misfit k
    misfits_below k e = one_more k ∙ cond-false _ _ _ e

    -- none fits
    pub none-fits : is_fit (up_to-misfit 0) ≡ true
    unfolding up_to concat first_misfit
    none-fits = refl

    -- the first list that does not fit decides
    pub first-decides : (n k : ℕ) → k < n → is_fit (up_to-misfit k) ≡ true → is_fit (first_misfit rows (f k)) ≡ false → up_to-misfit n ≡ first_misfit rows (f k)
    first-decides zero k l e d = absurd (omega arith)
    first-decides (suc n) k l e d = same? k n
        (λ i. subst_at i)
        (λ i. let before = first-decides n k (omega arith) e d in misfits_below n (ap is_fit before ∙ d) ∙ before)
      where
        subst_at : k ≡ n → up_to-misfit (suc n) ≡ first_misfit rows (f k)
        subst_at i = rw (← i) (fits_below k e)

    -- where all fit, each does
    pub each_fits : (n : ℕ) → is_fit (up_to-misfit n) ≡ true → (k : ℕ) → k < n → is_fit (first_misfit rows (f k)) ≡ true
    each_fits n e k l = go n e l
      where
        go : (m : ℕ) → is_fit (up_to-misfit m) ≡ true → k < m → is_fit (first_misfit rows (f k)) ≡ true
        go zero fit below = absurd (omega arith)
        go (suc m) fit below = by (is_fit (up_to-misfit m))
            (λ t. same? k m
            (λ i. rw i (sym (ap is_fit (fits_below m t)) ∙ fit))
            (λ d. go m t (omega arith)))
            (λ t. absurd (true≢false (sym fit ∙ ap is_fit (misfits_below m t) ∙ t)))

    -- where each fits, all do
    pub all_fit : (n : ℕ) → ((k : ℕ) → k < n → is_fit (first_misfit rows (f k)) ≡ true) → is_fit (up_to-misfit n) ≡ true
    all_fit zero each = none-fits
    all_fit (suc n) each = ap is_fit (fits_below n (all_fit n (λ k l. each k (omega arith)))) ∙ each n (omega arith)

    -- where not all fit, there is a first list that does not
    pub record First (n : ℕ) : Type 0 where
      pub place : ℕ
      pub below : place < n
      pub before : is_fit (up_to-misfit place) ≡ true
      pub decides : up_to-misfit n ≡ first_misfit rows (f place)

    pub first_of : (n : ℕ) → is_fit (up_to-misfit n) ≡ false → First n
    first_of zero e = absurd (true≢false (sym none-fits ∙ e))
    first_of (suc n) e = by (is_fit (up_to-misfit n))
        (λ t. record { place = n; below = omega arith; before = t; decides = fits_below n t })
        (λ t. let k = first_of n t in record { place = k.place; below = omega (arith, k.below); before = k.before; decides = misfits_below n t ∙ k.decides })

  -- ---- one pair
  -- of a thread with itself there is none
  pub itself-fits : (s r : ℕ) → s ≡ r → first_misfit rows (pair_or_none s r) ≡ Fits
  unfolding pair_or_none first_misfit
  itself-fits s r e = rw (eq-eqb s r e) refl

  -- of two threads it counts
  pub pair-counts : (s r : ℕ) → s ≢ r → first_misfit rows (pair_or_none s r) ≡ pair_misfit (falls rows s r) (record { sender = s; target = r })
  unfolding pair_or_none first_misfit
  pair-counts s r d = let found = pair_misfit (falls rows s r) (record { sender = s; target = r }) in
      rw (ne_eqb s r d) (by (is_fit found) (λ e. cond-true _ _ _ e ∙ sym (fit_is found e)) (λ e. cond-false _ _ _ e))

-- a pair falls in no row, in one, or in several
pair-cases : (count : ℕ) (pair : Pair) (P : Misfit → Type 0) → (count ≡ 0 → P (Gap pair)) → (count ≡ 1 → P Fits) → (2 ≤ count → P (Overlap pair)) → P (pair_misfit count pair)
unfolding pair_misfit
pair-cases count pair P none one several = same? count 0
    (λ z. subst P (sym (cond-true _ _ _ (eq-eqb count 0 z))) (none z))
    (λ d. same? count 1
    (λ i. subst P (sym (cond-false _ _ _ (ne_eqb count 0 d) ∙ cond-true _ _ _ (eq-eqb count 1 i))) (one i))
    (λ k. subst P (sym (cond-false _ _ _ (ne_eqb count 0 d) ∙ cond-false _ _ _ (ne_eqb count 1 k))) (several (omega arith))))

-- it fits where it falls in one
pub one-fits : (count : ℕ) (pair : Pair) → count ≡ 1 → pair_misfit count pair ≡ Fits
one-fits count pair e = pair-cases count pair (λ m. m ≡ Fits) (λ z. absurd (omega arith)) (λ i. refl) (λ l. absurd (omega arith))

-- and only there
pub fits_one : (count : ℕ) (pair : Pair) → is_fit (pair_misfit count pair) ≡ true → count ≡ 1
fits_one count pair = pair-cases count pair (λ m. is_fit m ≡ true → count ≡ 1) (λ z e. absurd (true≢false (sym e))) (λ i e. i) (λ l e. absurd (true≢false (sym e)))

-- misfits by a number, so that two can be told apart
abbrev kind_of : Misfit → ℕ
kind_of Fits = 0
kind_of TooMany = 1
kind_of (Gap pair) = 2
kind_of (Overlap pair) = 3

-- two of different kinds are not the same
unlike {ℓ} : {P : Type ℓ} (m k : Misfit) → kind_of m < kind_of k → m ≡ k → P
unlike m k l e = absurd (omega (arith, l, ap kind_of e))

-- a gap is told of a pair that falls in no row
gap_told : (count : ℕ) (found pair : Pair) → pair_misfit count found ≡ Gap pair → (found ≡ pair) × (count ≡ 0)
unfolding pair_of
gap_told count found pair = pair-cases count found (λ m. m ≡ Gap pair → (found ≡ pair) × (count ≡ 0))
    (λ z e. (ap pair_of e, z)) (λ i. unlike Fits (Gap pair) (omega arith)) (λ l e. unlike (Gap pair) (Overlap found) (omega arith) (sym e))

-- an overlap of one that falls in several
overlap_told : (count : ℕ) (found pair : Pair) → pair_misfit count found ≡ Overlap pair → (found ≡ pair) × (2 ≤ count)
unfolding pair_of
overlap_told count found pair = pair-cases count found (λ m. m ≡ Overlap pair → (found ≡ pair) × (2 ≤ count))
    (λ z. unlike (Gap found) (Overlap pair) (omega arith)) (λ i. unlike Fits (Overlap pair) (omega arith)) (λ l e. (ap pair_of e, l))

module _ (n : ℕ) (rules : Rules) where
  -- the rows in use, and the pairs of each sender
  abbrev rows : List Rule
  rows = rows_in rules

  -- ---- "each ordered pair of different threads below N must fall in one row exactly"
  -- the pairs of one sender fit exactly if each falls in one row
  sender-fits : (s : ℕ) → is_fit (first_misfit rows (pairs_from n s)) ≡ true ↔ ((r : ℕ) → r < n → s ≢ r → falls rows s r ≡ 1)
  unfolding pairs_from
  sender-fits s = (
    λ e r l d. fits_one _ _ (sym (ap is_fit (pair-counts rows s r d)) ∙ each_fits rows (pair_or_none s) n e r l),
    λ each. all_fit rows (pair_or_none s) n (λ r l. same? s r
        (λ i. ap is_fit (itself-fits rows s r i))
        (λ d. ap is_fit (pair-counts rows s r d ∙ one-fits _ _ (each r l d)))),
  )

  -- rules fit exactly if there are at most 64 rows, and each pair falls in one
  pub fits-means : is_fit (misfit n rules) ≡ true ↔ ((rules.len ≤ row_limit) × EachInOneRow n rows)
  unfolding misfit pairs_below
  fits-means = (
    λ e. by (ltb row_limit rules.len)
        (λ many. absurd (true≢false (sym e ∙ ap is_fit (cond-true _ _ _ many))))
        (λ few. (
          ltb-false row_limit rules.len few,
          λ s r sn rn d. (sender-fits s).0 (each_fits rows (pairs_from n) n (sym (ap is_fit (cond-false _ _ _ few)) ∙ e) s sn) r rn d,
        )),
    λ h. ap is_fit (cond-false _ _ _ (le-ltb row_limit rules.len h.0))
        ∙ all_fit rows (pairs_from n) n (λ s sn. (sender-fits s).1 (λ r rn d. h.1 s r sn rn d)),
  )

  -- ---- "A pair that falls in none is reported as a gap and one in several as an overlap, the lowest sender first, then the lowest target"
  -- of a loading that does not fit, for all that it has at most 64 rows, some pair is reported
  record Found : Type 0 where
    pub pair : Pair
    pub reported : Reported n rows pair
    pub is : misfit n rules ≡ pair_misfit (falls rows pair.sender pair.target) pair

  found-pair : rules.len ≤ row_limit → is_fit (misfit n rules) ≡ false → Found
  unfolding misfit pairs_below pairs_from
  found-pair few wrong = same? s r
      (λ i. absurd (true≢false (sym (ap is_fit (itself-fits rows s r i)) ∙ sym (ap is_fit T.decides) ∙ sym (ap is_fit S.decides) ∙ unfit)))
      (λ d. record {
        pair = record { sender = s; target = r };
        reported = record {
          sender = S.below;
          target = T.below;
          apart = d;
          earlier_sender = λ x y l yn e. (sender-fits x).0 (each_fits rows (pairs_from n) s S.before x l) y yn e;
          earlier_target = λ y l e. fits_one _ _ (sym (ap is_fit (pair-counts rows s y e)) ∙ each_fits rows (pair_or_none s) r T.before y l);
        };
        is = all ∙ S.decides ∙ T.decides ∙ pair-counts rows s r d;
      })
    where
      all : misfit n rules ≡ first_misfit rows (concat (up_to n (pairs_from n)))
      all = unfold misfit pairs_below in cond-false _ _ _ (le-ltb row_limit rules.len few)

      unfit : is_fit (first_misfit rows (concat (up_to n (pairs_from n)))) ≡ false
      unfit = sym (ap is_fit all) ∙ wrong

      S : First rows (pairs_from n) n
      S = first_of rows (pairs_from n) n unfit

      s : ℕ
      s = S.place

      T : First rows (pair_or_none s) n
      T = first_of rows (pair_or_none s) n (unfold pairs_from in sym (ap is_fit S.decides) ∙ unfit)

      r : ℕ
      r = T.place

  -- too many rows tell no pair
  few-rows : 2 ≤ kind_of (misfit n rules) → rules.len ≤ row_limit
  unfolding misfit
  few-rows told = by (ltb row_limit rules.len)
      (λ many. let none : kind_of (misfit n rules) ≡ 1 = unfold misfit in ap kind_of (cond-true _ _ _ many) in absurd (omega (arith, told, none)))
      (λ few. ltb-false row_limit rules.len few)

  -- a gap: the pair falls in no row, and each earlier one in one exactly
  pub gap_means : (pair : Pair) → misfit n rules ≡ Gap pair → Reported n rows pair × (falls rows pair.sender pair.target ≡ 0)
  gap_means pair e =
      let f = found-pair (few-rows (rw e (omega arith))) (ap is_fit e) in
      let (same, none) = gap_told _ f.pair pair (sym f.is ∙ e) in
      subst (λ (p : Pair). Reported n rows p × (falls rows p.sender p.target ≡ 0)) same (f.reported, none)

  -- an overlap: the pair falls in several rows, and each earlier one in one exactly
  pub overlap_means : (pair : Pair) → misfit n rules ≡ Overlap pair → Reported n rows pair × (2 ≤ falls rows pair.sender pair.target)
  overlap_means pair e =
      let f = found-pair (few-rows (rw e (omega arith))) (ap is_fit e) in
      let (same, several) = overlap_told _ f.pair pair (sym f.is ∙ e) in
      subst (λ (p : Pair). Reported n rows p × (2 ≤ falls rows p.sender p.target)) same (f.reported, several)

-- rules that a well-formed table holds have at most 64 rows
pub fitting_few : (n : ℕ) (rules : Rules) → rules_fit n rules ≡ true → rules.len ≤ row_limit
unfolding rules_fit
fitting_few n rules e = by (eqb rules.len 0)
    (λ none. let z = eqb-true rules.len 0 none in omega arith)
    (λ some. ((fits-means n rules).0 (rw some at e)).0)

-- ---- the row that decides
-- a pair that falls in no row is permitted by none
unheld : (rows : List Rule) (s r : ℕ) → falls rows s r ≡ 0 → says_yes rows s r ≡ false
unfolding falls says_yes
unheld [] s r e = refl
unheld (row ∷ rows) s r e = by (holds_pair row s r)
    (λ i. let none : 1 + falls rows s r ≡ 0 = rw i at e in absurd (omega arith))
    (λ i. rw i (unheld rows s r (omega (arith, e))))

-- a pair that falls in the row at a place falls in at least one
held : (rows : List Rule) (k s r : ℕ) → k < length rows → holds_pair (get_or rows k zero_rule) s r ≡ true → 1 ≤ falls rows s r
unfolding falls
held [] k s r l e = absurd (omega arith)
held (row ∷ rows) zero s r l e = rw e (omega arith)
held (row ∷ rows) (suc k) s r l e = omega (arith, held rows k s r (omega arith) e)

-- of a pair that falls in one row exactly, that row decides
row-decides : (rows : List Rule) (s r : ℕ) → falls rows s r ≡ 1 → (k : ℕ) → k < length rows → holds_pair (get_or rows k zero_rule) s r ≡ true → says_yes rows s r ≡ (get_or rows k zero_rule).permits
unfolding falls says_yes
row-decides [] s r e k l h = absurd (omega arith)
row-decides (row ∷ rows) s r e zero l h =
    let none : 1 + falls rows s r ≡ 1 = rw h at e in
    rw (h, unheld rows s r (omega arith)) (or-false row.permits)
row-decides (row ∷ rows) s r e (suc k) l h = by (holds_pair row s r)
    (λ i. let none : 1 + falls rows s r ≡ 1 = rw i at e in absurd (omega (arith, held rows k s r (omega arith) h)))
    (λ i. let one : 0 + falls rows s r ≡ 1 = rw i at e in rw i (row-decides rows s r (omega arith) k (omega arith) h))

-- so under rules that fit: a pair is permitted exactly if the row in which it falls says yes, be it the first, the last or some
pub one-row-decides : (n : ℕ) (rules : Rules) → is_fit (misfit n rules) ≡ true → (s r : ℕ) → s < n → r < n → s ≢ r
    → (k : ℕ) → k < length (rows_in rules) → holds_pair (get_or (rows_in rules) k zero_rule) s r ≡ true → permits rules s r ≡ (get_or (rows_in rules) k zero_rule).permits
unfolding permits rows_in
one-row-decides n rules fit s r sn rn d k l h = by (eqb rules.len 0)
    (λ none. absurd (omega (arith, l, eqb-true rules.len 0 none, length-take rules.len rules.rows)))
    (λ some. rw some (row-decides (rows_in rules) s r (((fits-means n rules).0 fit).1 s r sn rn d) k l h))
