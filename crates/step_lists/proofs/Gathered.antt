-- Lists put together, one for each number below n: their elements, their lengths, and how often a number stands in them.
use mathlib.Core.Path.{◌≡◌, refl, sym, ap, ◌∙◌, subst}
use mathlib.Core.Logic.{◌≢◌}
use mathlib.Core.Bool.{Bool}
use mathlib.Core.List.{List, [], ◌∷◌, ◌++◌, map}
use Prim.Native.Nat.{ℕ, zero, suc, ◌+◌, ◌*◌, ◌≤◌, ◌<◌, zero-le}
use native.Mathlib.Omega.{arith}
use lib.ListN.{length, length-append}
use lib.Dec.{eqb, ltb}
use borrow.Author.Tests.{eq-eqb, ne_eqb, lt-ltb, le-ltb, ltb-true, ltb-false}
use Rattle.model.specs.Lists.{bit, up_to, concat, occurs}
use Rattle.model.specs.Counting.{total}
use Rattle.model.proofs.Laws.{by, same?, occurs-append}
use Rattle.laws.proofs.Joined.{concat_snoc}

-- ---- a function of each element
module _ {A : Type 0} {B : Type 0} where
  -- of lists put together
  map-append : (f : A → B) (l m : List A) → map f (l ++ m) ≡ map f l ++ map f m
  map-append f [] m = refl
  map-append f (a ∷ l) m = ap (λ q. f a ∷ q) (map-append f l m)

  -- of one list for each number below n
  pub map-concat : (f : A → B) (g : ℕ → List A) (n : ℕ) → map f (concat (up_to n g)) ≡ concat (up_to n (λ x. map f (g x)))
  unfolding concat up_to
  map-concat f g zero = refl
  map-concat f g (suc k) =
      ap (map f) (concat_snoc (up_to k g) (g k)) ∙ map-append f (concat (up_to k g)) (g k)
      ∙ ap (λ q. q ++ map f (g k)) (map-concat f g k) ∙ sym (concat_snoc (up_to k (λ x. map f (g x))) (map f (g k)))

  -- two functions, one after the other
  pub map-map : {C : Type 0} (f : B → C) (g : A → B) (l : List A) → map f (map g l) ≡ map (λ a. f (g a)) l
  map-map f g [] = refl
  map-map f g (a ∷ l) = ap (λ q. f (g a) ∷ q) (map-map f g l)

-- ---- one list for each number below n
-- lists that are the same below n
pub concat-same : {A : Type 0} (n : ℕ) (f g : ℕ → List A) → ((x : ℕ) → x < n → f x ≡ g x) → concat (up_to n f) ≡ concat (up_to n g)
unfolding up_to concat
concat-same zero f g same = refl
concat-same (suc k) f g same =
    concat_snoc (up_to k f) (f k) ∙ ap (λ q. q ++ f k) (concat-same k f g (λ x l. same x (omega arith)))
    ∙ ap (λ q. concat (up_to k g) ++ q) (same k (omega arith)) ∙ sym (concat_snoc (up_to k g) (g k))

-- lists of one length
pub concat-length : {A : Type 0} (m : ℕ) (g : ℕ → List A) (n : ℕ) → ((x : ℕ) → length (g x) ≡ m) → length (concat (up_to n g)) ≡ n * m
unfolding concat up_to
concat-length m g zero each = omega arith
concat-length m g (suc k) each = ap length (concat_snoc (up_to k g) (g k)) ∙ length-append (concat (up_to k g)) (g k) ∙ omega (arith, concat-length m g k each, each k)

-- how often p stands in the lists of the m numbers from x on
unfoldable pub occurs_from : (ℕ → List ℕ) → ℕ → ℕ → ℕ → ℕ
occurs_from f zero x p = 0
occurs_from f (suc m) x p = occurs p (f x) + occurs_from f m (suc x) p

-- in those below x + m it stands as often as in those below x and in the others
pub occurs_split : (f : ℕ → List ℕ) (p m x : ℕ) → occurs p (concat (up_to (x + m) f)) ≡ occurs p (concat (up_to x f)) + occurs_from f m x p
unfolding occurs_from up_to
occurs_split f p zero x = let none : x + 0 ≡ x = omega arith in ap (λ (k : ℕ). occurs p (concat (up_to k f))) none ∙ omega arith
occurs_split f p (suc m) x =
    let shift : x + suc m ≡ suc x + m = omega arith in
    ap (λ (k : ℕ). occurs p (concat (up_to k f))) shift ∙ occurs_split f p m (suc x)
    ∙ omega (arith, ap (occurs p) (concat_snoc (up_to x f) (f x)) ∙ occurs-append p (concat (up_to x f)) (f x))

-- ---- numbers below a bound
abbrev pub Under : ℕ → List ℕ → Type 0
Under m [] = Unit {0}
Under m (a ∷ l) = (a < m) × Under m l

under-append : (m : ℕ) (l q : List ℕ) → Under m l → Under m q → Under m (l ++ q)
under-append m [] q a b = b
under-append m (x ∷ l) q a b = (a.0, under-append m l q a.1 b)

pub under-concat : (m : ℕ) (f : ℕ → List ℕ) (n : ℕ) → ((x : ℕ) → x < n → Under m (f x)) → Under m (concat (up_to n f))
unfolding up_to concat
under-concat m f zero all = tt
under-concat m f (suc k) all =
    subst (Under m) (sym (concat_snoc (up_to k f) (f k))) (under-append m (concat (up_to k f)) (f k) (under-concat m f k (λ x l. all x (omega arith))) (all k (omega arith)))

-- ---- added up
-- with one number more at the end
total_snoc : (l : List ℕ) (a : ℕ) → total (l ++ (a ∷ [])) ≡ total l + a
unfolding total
total_snoc [] a = omega arith
total_snoc (b ∷ l) a = omega (arith, total_snoc l a)

total-none : (m : ℕ) → total (up_to m (λ p. 0)) ≡ 0
unfolding up_to total
total-none zero = refl
total-none (suc k) = total_snoc (up_to k (λ p. 0)) 0 ∙ omega (arith, total-none k)

-- one occurrence more, of a number below the bound or not
total-more : (m a : ℕ) (f : ℕ → ℕ) → total (up_to m (λ p. bit (eqb a p) + f p)) ≡ bit (ltb a m) + total (up_to m f)
unfolding up_to total
total-more zero a f = ap (λ (b : Bool). bit b + 0) (sym (le-ltb a 0 zero-le))
total-more (suc k) a f = total_snoc (up_to k _) _ ∙ same? a k
    (λ e. omega (arith, total-more k a f, total_snoc (up_to k f) (f k), ap bit (eq-eqb a k e), ap bit (le-ltb a k (omega arith)), ap bit (lt-ltb a (suc k) (omega arith))))
    (λ d. omega (arith, total-more k a f, total_snoc (up_to k f) (f k), ap bit (ne_eqb a k d), ap bit (below d)))
  where
    below : a ≢ k → ltb a (suc k) ≡ ltb a k
    below d = by (ltb a k) (λ l. lt-ltb a (suc k) (omega (arith, ltb-true a k l)) ∙ sym l) (λ l. le-ltb a (suc k) (omega (arith, ltb-false a k l)) ∙ sym l)

-- how often each number below a bound stands in a list of such numbers: together the list's length
pub all-counted : (m : ℕ) (l : List ℕ) → Under m l → total (up_to m (λ p. occurs p l)) ≡ length l
unfolding occurs
all-counted m [] u = total-none m
all-counted m (a ∷ l) u = total-more m a (λ p. occurs p l) ∙ omega (arith, ap bit (lt-ltb a m u.0), all-counted m l u.1)

-- no number stands in a list more often than the list is long
pub occurs-few : (p : ℕ) (l : List ℕ) → occurs p l ≤ length l
unfolding occurs
occurs-few p [] = omega arith
occurs-few p (a ∷ l) = by (eqb a p) (λ e. omega (arith, occurs-few p l, ap bit e)) (λ e. omega (arith, occurs-few p l, ap bit e))
