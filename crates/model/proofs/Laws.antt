-- Laws of tests, counts and lists that the other proofs share. None is about messages.
use mathlib.Core.Path.{◌≡◌, refl, sym, ◌∙◌}
use mathlib.Core.Logic.{◌≢◌, ◌↔◌}
use mathlib.Core.Bool.{Bool, true, false, ◌&&◌, beq}
use mathlib.Core.List.{List, [], ◌∷◌, ◌++◌}
use Prim.Native.Nat.{ℕ, zero, suc, ◌+◌, ◌-◌, ◌≤◌, ◌<◌}
use native.Mathlib.Omega.{arith}
use lib.ListN.{length, length-append}
use lib.Dec.{eqb}
use borrow.Author.Tests.{eqb-true, eqb-false, eq-eqb, ne_eqb}
use Rattle.model.specs.Lists.{implies, all_of, all_below, occurs, without, up_to}

-- ---- cases
-- a test holds or fails, and each case has its equation
pub by {ℓ} : {P : Type ℓ} (b : Bool) → (b ≡ true → P) → (b ≡ false → P) → P
by true f g = f refl
by false f g = g refl

-- two numbers are equal or not
pub same? {ℓ} : {P : Type ℓ} (y x : ℕ) → (y ≡ x → P) → (y ≢ x → P) → P
same? y x f g = by (eqb y x) (λ e. f (eqb-true y x e)) (λ e. g (eqb-false y x e))

-- ---- two tests
-- where both hold, the first does
pub and_left : (a b : Bool) → (a && b) ≡ true → a ≡ true
and_left true b e = refl
and_left false b e = e

-- where both hold, the second does
pub and_right : (a b : Bool) → (a && b) ≡ true → b ≡ true
and_right true b e = e
and_right false b e = cc

-- two tests that hold hold together
pub and-made : (a b : Bool) → a ≡ true → b ≡ true → (a && b) ≡ true
and-made a b p q = rw (p, q) refl

-- tests that were found alike have the same value
pub alike_read : (a b : Bool) → beq a b ≡ true → a ≡ b
alike_read true true e = refl
alike_read true false e = sym e
alike_read false true e = e
alike_read false false e = refl

-- tests of which each holds where the other does are alike
pub alike-made : (a b : Bool) → (a ≡ true → b ≡ true) → (b ≡ true → a ≡ true) → beq a b ≡ true
alike-made true true f g = refl
alike-made true false f g = f refl
alike-made false true f g = g refl
alike-made false false f g = refl

-- equalities of numbers that go with one another have tests that are alike
pub equal-alike-made : (a b c d : ℕ) → (a ≡ b) ↔ (c ≡ d) → beq (eqb a b) (eqb c d) ≡ true
equal-alike-made a b c d h = alike-made (eqb a b) (eqb c d) (λ e. eq-eqb c d (h.0 (eqb-true a b e))) (λ e. eq-eqb a b (h.1 (eqb-true c d e)))

-- and equalities with tests that are alike go with one another
pub equal-alike-read : (a b c d : ℕ) → beq (eqb a b) (eqb c d) ≡ true → (a ≡ b) ↔ (c ≡ d)
equal-alike-read a b c d h =
    let e : eqb a b ≡ eqb c d = alike_read (eqb a b) (eqb c d) h in
    (λ i. eqb-true c d (sym e ∙ eq-eqb a b i), λ i. eqb-true a b (e ∙ eq-eqb c d i))

-- what a test implies holds where it does
pub implies-read : (a b : Bool) → implies a b ≡ true → a ≡ true → b ≡ true
unfolding implies
implies-read true b e h = e
implies-read false b e h = cc

-- a test implies what holds where it does
pub implies-made : (a b : Bool) → (a ≡ true → b ≡ true) → implies a b ≡ true
unfolding implies
implies-made true b f = f refl
implies-made false b f = refl

-- ---- a list of tests
-- a pair, for a list of facts without brackets: a and b and tt
infixr 20 ◌and◌
abbrev pub ◌and◌ {ℓ κ} : {A : Type ℓ} {B : Type κ} → A → B → A × B
◌and◌ a b = (a, b)

-- each test of the list holds
abbrev pub All : List Bool → Type 0
All [] = Unit {0}
All (b ∷ bs) = (b ≡ true) × All bs

-- where all hold, each does
pub all_of-read : (l : List Bool) → all_of l ≡ true → All l
unfolding all_of
all_of-read [] e = tt
all_of-read (b ∷ bs) e = (and_left b (all_of bs) e, all_of-read bs (and_right b (all_of bs) e))

-- where each holds, all do
pub all_of-made : (l : List Bool) → All l → all_of l ≡ true
unfolding all_of
all_of-made [] a = refl
all_of-made (b ∷ bs) a = and-made b (all_of bs) a.0 (all_of-made bs a.1)

-- ---- a test of each number below a bound
-- where it holds of all, it holds of each
pub all-below-read : (n : ℕ) (f : ℕ → Bool) → all_below n f ≡ true → (y : ℕ) → y < n → f y ≡ true
unfolding all_below
all-below-read zero f e y l = absurd (omega arith)
all-below-read (suc k) f e y l = same? y k
    (λ i. rw i (and_left (f k) (all_below k f) e))
    (λ d. all-below-read k f (and_right (f k) (all_below k f) e) y (omega arith))

-- where it holds of each, it holds of all
pub all-below-made : (n : ℕ) (f : ℕ → Bool) → ((y : ℕ) → y < n → f y ≡ true) → all_below n f ≡ true
unfolding all_below
all-below-made zero f h = refl
all-below-made (suc k) f h = and-made (f k) (all_below k f) (h k (omega arith)) (all-below-made k f (λ y l. h y (omega arith)))

-- ---- how often a number stands in a list
-- a list has its first number
pub occurs-first : (a : ℕ) (q : List ℕ) → 1 ≤ occurs a (a ∷ q)
unfolding occurs
occurs-first a q = rw (eq-eqb a a refl) (omega arith)

-- a list after another has the counts of both
pub occurs-append : (s : ℕ) (p q : List ℕ) → occurs s (p ++ q) ≡ occurs s p + occurs s q
unfolding occurs
occurs-append s [] q = omega arith
occurs-append s (a ∷ p) q = omega (arith, occurs-append s p q)

-- without one s, there is one s less
pub occurs-same : (s : ℕ) (q : List ℕ) → occurs s (without s q) ≡ occurs s q - 1
unfolding occurs without
occurs-same s [] = refl
occurs-same s (a ∷ q) = by (eqb a s) (λ e. rw e (omega arith)) (λ e. simp e (omega (arith, occurs-same s q)))

-- without one x, there are as many of any other number
pub occurs-other : (s x : ℕ) (q : List ℕ) → x ≢ s → occurs s (without x q) ≡ occurs s q
unfolding occurs without
occurs-other s x [] h = refl
occurs-other s x (a ∷ q) h =
    by (eqb a x)
    (λ e. rw (e, ne_eqb a s (λ d. h (sym (eqb-true a x e) ∙ d))) (omega arith))
    (λ e. simp e (omega (arith, occurs-other s x q h)))

-- without one s, a list is at most one shorter
pub length_without : (s : ℕ) (q : List ℕ) → length q ≤ suc (length (without s q))
unfolding without
length_without s [] = omega arith
length_without s (a ∷ q) = by (eqb a s) (λ e. rw e (omega arith)) (λ e. rw e (omega (arith, length_without s q)))

-- a list of numbers below n, each there at most once, is at most n long
pub few-enough : (n : ℕ) (q : List ℕ) → ((s : ℕ) → occurs s q ≤ 1) → ((s : ℕ) → n ≤ s → occurs s q ≡ 0) → length q ≤ n
few-enough zero [] once out = omega arith
few-enough zero (a ∷ q) once out = absurd (omega (arith, occurs-first a q, out a (omega arith)))
few-enough (suc n) q once out = omega (arith, length_without n q, few-enough n (without n q) once' out')
  where
    gone : occurs n (without n q) ≡ 0
    gone = rw occurs-same (let o = once n in omega arith)

    kept : (s : ℕ) → s ≢ n → occurs s (without n q) ≡ occurs s q
    kept s d = occurs-other s n q (λ i. d (sym i))

    once' : (s : ℕ) → occurs s (without n q) ≤ 1
    once' s = same? s n (λ e. rw (e, gone) (omega arith)) (λ d. rw (kept s d) (once s))

    out' : (s : ℕ) → n ≤ s → occurs s (without n q) ≡ 0
    out' s l = same? s n (λ e. rw (e, gone) refl) (λ d. rw (kept s d) (out s (omega arith)))

-- ---- the list of f at each number below m
-- it has m places
pub length-up-to {ℓ} : {A : Type ℓ} (m : ℕ) (f : ℕ → A) → length (up_to m f) ≡ m
unfolding up_to
length-up-to zero f = refl
length-up-to (suc m) f = omega (arith, length-append (up_to m f) (f m ∷ []), length-up-to m f)

-- what f is nowhere is not in it
pub occurs-nowhere : (m : ℕ) (f : ℕ → ℕ) (s : ℕ) → ((j : ℕ) → j < m → f j ≢ s) → occurs s (up_to m f) ≡ 0
unfolding up_to occurs
occurs-nowhere zero f s h = refl
occurs-nowhere (suc m) f s h = rw (occurs-append, occurs-nowhere m f s (λ j l. h j (omega arith)), ne_eqb (f m) s (h m (omega arith))) refl

-- where f is never the same twice, nothing is in it twice
pub occurs-once : (m : ℕ) (f : ℕ → ℕ) → ((i j : ℕ) → i < j → j < m → f i ≢ f j) → (s : ℕ) → occurs s (up_to m f) ≤ 1
unfolding up_to occurs
occurs-once zero f h s = omega arith
occurs-once (suc m) f h s = rw occurs-append (by (eqb (f m) s)
    (λ e. rw (e, occurs-nowhere m f s (λ j l i. h j m l (omega arith) (i ∙ sym (eqb-true (f m) s e)))) (omega arith))
    (λ e. rw e (omega (arith, occurs-once m f (λ i j l k. h i j l (omega arith)) s))))

-- among more than n numbers below n, two are the same
pub pigeonhole : (n : ℕ) (f : ℕ → ℕ) → ((j : ℕ) → j ≤ n → f j < n) → ((i j : ℕ) → i < j → j ≤ n → f i ≢ f j) → ⊥
pigeonhole n f small differ = omega (arith, length-up-to (suc n) f, few-enough n (up_to (suc n) f) once out)
  where
    once : (s : ℕ) → occurs s (up_to (suc n) f) ≤ 1
    once = occurs-once (suc n) f (λ i j l k. differ i j l (omega arith))

    out : (s : ℕ) → n ≤ s → occurs s (up_to (suc n) f) ≡ 0
    out s l = occurs-nowhere (suc n) f s (λ j k e. omega (arith, small j (omega arith)))
