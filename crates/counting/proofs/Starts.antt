-- From counts that are all 0: there is room for every list, and in the end each place has its count.
use Rattle.std.proofs.Common.{◌≡◌, ℕ, suc, ◌+◌, ◌-◌, ◌^◌, ◌<◌, ◌≤◌, eqb, List, length, get_or, set, sym, ap, ◌∙◌, arith, lit≤, length-set}
use native.Mathlib.Nat.{pow-le-pow_left, pow-le-pow_right}
use lib.ListN.{length-replicate, get_or-replicate}
use lib.Seq.{take-length}
use Rattle.model.specs.declared.Table.{Table}
use Rattle.model.specs.Lists.{bit, up_to}
use Rattle.model.specs.Counting.{count_places, count_of}
use Rattle.laws.proofs.Below.{take-up-to}
use Rattle.step_lists.specs.Firsts.{count_from}
use Rattle.step_lists.proofs.Totals.{count-few, count-all, count_none}
use Rattle.few.specs.declared.Few.{Few}
use Rattle.few.specs.Front.{Whole}
use Rattle.few.proofs.Fronts.{place_in_counts}
use Rattle.counting.specs.Trying.{Trying, Counted, Countable, CountedAll}
use Rattle.counting.proofs.Turns.{one_more}

-- a list that is f at each place
list_of : (l : List ℕ) (n : ℕ) (f : ℕ → ℕ) → length l ≡ n → ((p : ℕ) → p < n → get_or l p 0 ≡ f p) → l ≡ up_to n f
list_of l n f long each = sym (take-length l) ∙ take-up-to l 0 (length l) f (omega arith) (λ p below. each p (omega arith)) ∙ ap (λ (m : ℕ). up_to m f) long

-- 4 threads, 10 steps: no count goes past 1048576
count_small : (t : Table) (k p : ℕ) → t.n ≤ 4 → k ≤ 10 → count_of t k p ≤ 1048576
count_small t k p few short =
    let most : 4 ^ 10 ≤ 1048576 = lit≤ tt in
    omega (arith, count-few t k p, pow-le-pow_left few k, pow-le-pow_right {n = 4} (lit≤ tt) short, most)

module _ {f : Few} {k : ℕ} {counts : List ℕ} (C : Countable f k counts) where
  long : length counts ≡ count_places
  long = ap length C.zeros ∙ length-replicate {A = ℕ} count_places 0

  none : (p : ℕ) → p < count_places → get_or counts p 0 ≡ 0
  none p below = ap (λ (l : List ℕ). get_or l p 0) C.zeros ∙ get_or-replicate {A = ℕ} count_places p 0 0 below

  -- a list of no step leads to where it starts
  pub start_in_counts : f.place < length counts
  start_in_counts = omega (arith, long, place_in_counts C.front)

  -- one there, from nothing
  one : (p : ℕ) → p < count_places → get_or (set counts f.place 1) p 0 ≡ bit (eqb f.place p)
  one p below =
      let first : get_or counts f.place 0 + 1 ≡ 1 = omega (arith, none f.place (place_in_counts C.front)) in
      sym (ap (λ (v : ℕ). get_or (set counts f.place v) p 0) first) ∙ one_more counts f.place p start_in_counts ∙ omega (arith, none p below)

  pub counted_start : k ≡ 0 → CountedAll f k (set counts f.place 1)
  counted_start empty t F = list_of (set counts f.place 1) count_places (count_of t k) (length-set counts f.place 1 ∙ long) (λ p below.
      one p below ∙ ap (λ (j : ℕ). bit (eqb j p)) F.place ∙ sym (count_none t p) ∙ ap (λ (j : ℕ). count_of t j p) (sym empty))

  -- with steps to make, all threads' lists are tried
  module _ (some : 1 ≤ k) where
    all-lists : (t : Table) → Whole f t → (p : ℕ) → count_from t (f.n - 0) 0 (k - 1) p ≡ count_of t k p
    all-lists t F p =
        let whole : f.n - 0 ≡ t.n = omega (arith, F.front.size) in
        let here : suc (k - 1) ≡ k = omega arith in
        ap (λ (m : ℕ). count_from t m 0 (k - 1) p) whole ∙ sym (count-all t (k - 1) p) ∙ ap (λ (j : ℕ). count_of t j p) here

    pub trying_all : Trying f 0 k counts
    trying_all = record {
      whole = C.whole;
      front = C.front;
      some = some;
      long = long;
      room = λ p below. omega (arith, none p below, all-lists C.whole C.front p, count_small C.whole k p C.front.front.few C.short);
    }

    pub counted-all : {after : List ℕ} → length after ≡ length counts → Counted f 0 k counts after → CountedAll f k after
    counted-all {after} same counted t F = list_of after count_places (count_of t k) (same ∙ long) (λ p below. omega (arith, counted.gains t F p below, none p below, all-lists t F p))
