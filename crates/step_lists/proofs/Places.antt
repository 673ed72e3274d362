-- Places: a code is a digit below 8, and at most four digits are a place below 4096.
use mathlib.Core.Path.{◌≡◌, sym, ap, ◌∙◌, subst}
use mathlib.Core.Bool.{true, true≢false}
use mathlib.Core.List.{List, [], ◌∷◌}
use Prim.Native.Nat.{ℕ, zero, suc, ◌+◌, ◌*◌, ◌^◌, ◌≤◌, ◌<◌}
use native.Mathlib.Omega.{arith}
use native.Mathlib.Nat.{pow-zero, pow-succ', pow-le-pow_right, lt_of_lt_of_le}
use lib.ListN.{length}
use lib.Dec.{lit≤}
use lib.IntN.{ℤ}
use Rattle.model.specs.declared.Table.{Table}
use Rattle.model.specs.Codes.{codes, same_code}
use Rattle.model.specs.Threads.{at}
use Rattle.model.specs.WellFormed.{is_code, numbers_in_range}
use Rattle.model.specs.Counting.{standing, digit_of, place_from, place_of, counted_threads, count_places}
use Rattle.model.proofs.Laws.{by, all_of-read}
use Rattle.laws.proofs.Lists.{cond-true, cond-false}
use Rattle.formed.proofs.Own.{own_ungrouped}
use Rattle.step_lists.proofs.Steps.{Steps}

-- ---- digits
-- a code of a list stands before its end
stands : (ds : List ℤ) (c : ℤ) → is_code ds c ≡ true → standing ds c < length ds
unfolding is_code standing
stands [] c e = absurd (true≢false (sym e))
stands (d ∷ ds) c e = by (same_code d c)
    (λ same. subst (λ (k : ℕ). k < suc (length ds)) (sym (cond-true _ 0 (suc (standing ds c)) same)) (omega arith))
    (λ other. let later : is_code ds c ≡ true = rw other at e in
    subst (λ (k : ℕ). k < suc (length ds)) (sym (cond-false _ 0 (suc (standing ds c)) other)) (omega (arith, stands ds c later)))

-- a code of document 01 is a digit below 8
pub digit-small : (c : ℤ) → is_code codes c ≡ true → digit_of c < 8
unfolding digit_of
digit-small c e = stands codes c e

-- ---- places
module _ (code : ℕ → ℤ) (n : ℕ) (coded : (x : ℕ) → x < n → is_code codes (code x) ≡ true) where
  -- m digits are below 8 raised to m
  digits-small : (m x : ℕ) → x + m ≤ n → place_from code m x < 8 ^ m
  unfolding place_from
  digits-small zero x l = omega (arith, pow-zero 8)
  digits-small (suc m) x l = omega (arith, pow-succ' 8 m, digit-small (code x) (coded x (omega arith)), digits-small m (suc x) (omega arith))

  -- at most four are below 4096
  pub four-digits : n ≤ counted_threads → (m x : ℕ) → x + m ≤ n → place_from code m x < count_places
  four-digits few m x l = let most : m ≤ 4 = omega arith in lt_of_lt_of_le (digits-small m x l) (pow-le-pow_right (lit≤ tt) most)

-- codes that are the same of these threads have the same place
pub place_same : (f g : ℕ → ℤ) (m x : ℕ) → ((k : ℕ) → x ≤ k → k < x + m → f k ≡ g k) → place_from f m x ≡ place_from g m x
unfolding place_from
place_same f g zero x same = omega arith
place_same f g (suc m) x same =
    ap (λ (c : ℤ). digit_of c + 8 * place_from f m (suc x)) (same x (omega arith) (omega arith))
    ∙ ap (λ (k : ℕ). digit_of (g x) + 8 * k) (place_same f g m (suc x) (λ k l b. same k (omega arith) (omega arith)))

module _ (t : Table) (steps : Steps t) where
  -- the codes of well-formed threads are document 01's
  pub coded : (x : ℕ) → x < t.n → is_code codes (at t x).outcome.code ≡ true
  unfolding numbers_in_range
  coded x below =
      let (phase, (send, (receive, (part, (release, (left, (queue, (owner, (code, more))))))))) = all_of-read _ (own_ungrouped t.n x (at t x) (steps.formed.own x below)).numbers in
      code

  -- the place of at most four threads
  pub place-below : t.n ≤ counted_threads → place_of t < count_places
  unfolding place_of
  place-below few = four-digits (λ x. (at t x).outcome.code) t.n coded few t.n 0 (omega arith)
