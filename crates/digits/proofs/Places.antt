-- Places, digit by digit from the last thread.
use mathlib.Core.Path.{◌≡◌, sym, ap, ◌∙◌, subst}
use mathlib.Core.List.{List}
use Prim.Native.Nat.{ℕ, suc, ◌+◌, ◌-◌, ◌*◌, ◌≤◌, ◌<◌}
use native.Mathlib.Omega.{arith}
use Rattle.model.specs.declared.Outcome.{Outcome}
use Rattle.model.specs.Counting.{digit_of, place_from, count_places}
use Rattle.step_lists.proofs.Places.{four-digits}
use Rattle.digits.specs.Coded.{code_at, Coded}

-- p is read from the outcomes from i on
abbrev pub Placed : ℕ → List Outcome → ℕ → ℕ → Type 0
Placed n outcomes i p = (i ≤ n) × (p ≡ place_from (code_at outcomes) (n - i) i)

module _ {n : ℕ} {outcomes : List Outcome} (C : Coded n outcomes) where
  -- none is read
  pub placed-none : Placed n outcomes n 0
  unfolding place_from
  placed-none = let none : n - n ≡ 0 = omega arith in (omega arith, sym (ap (λ (m : ℕ). place_from (code_at outcomes) m n) none))

  -- one more is
  pub placed-more : (i p d : ℕ) → 0 < i → d ≡ digit_of (code_at outcomes (i - 1)) → Placed n outcomes i p → Placed n outcomes (i - 1) (d + 8 * p)
  unfolding place_from
  placed-more i p d some is (within, placed) =
      let more : n - (i - 1) ≡ suc (n - i) = omega arith in
      let next : suc (i - 1) ≡ i = omega arith in (
        omega arith,
        ap (λ (k : ℕ). k + 8 * p) is
            ∙ ap (λ (k : ℕ). digit_of (code_at outcomes (i - 1)) + 8 * k) (placed ∙ ap (λ (j : ℕ). place_from (code_at outcomes) (n - i) j) (sym next))
            ∙ sym (ap (λ (m : ℕ). place_from (code_at outcomes) m (i - 1)) more),
      )

  -- what is read is below 4096
  pub placed-small : (i p : ℕ) → Placed n outcomes i p → p < count_places
  placed-small i p (within, placed) = subst (λ (k : ℕ). k < count_places) (sym placed) (four-digits (code_at outcomes) n C.coded C.few (n - i) i (omega arith))

  -- all are read
  pub placed-all : (i p : ℕ) → i ≡ 0 → Placed n outcomes i p → (p ≡ place_from (code_at outcomes) n 0) × (p < count_places)
  placed-all i p none placed =
      let all : Placed n outcomes 0 p = subst (λ (k : ℕ). Placed n outcomes k p) none placed in
      (all.1 ∙ ap (λ (m : ℕ). place_from (code_at outcomes) m 0) (omega arith), placed-small 0 p all)
