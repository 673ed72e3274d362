-- Laws of lists put together from lists, and of the first numbers of a list. None is about messages.
use mathlib.Core.Path.{◌≡◌, refl, sym, ap, ◌∙◌}
use mathlib.Core.List.{List, [], ◌∷◌, ◌++◌, append_assoc, append-nil}
use Prim.Native.Nat.{ℕ, zero, suc, ◌-◌, ◌<◌}
use native.Mathlib.Omega.{arith}
use lib.ListN.{length, get_or, take, drop}
use lib.Seq.{take_all}
use Rattle.model.specs.Lists.{concat}

module _ {ℓ} {A : Type ℓ} where
  -- lists of lists put together one after the other
  pub concat-append : (ls ms : List (List A)) → concat (ls ++ ms) ≡ concat ls ++ concat ms
  unfolding concat
  concat-append [] ms = refl
  concat-append (l ∷ ls) ms = ap (λ q. l ++ q) (concat-append ls ms) ∙ sym (append_assoc l (concat ls) (concat ms))

  -- with one list more at the end
  pub concat_snoc : (ls : List (List A)) (l : List A) → concat (ls ++ (l ∷ [])) ≡ concat ls ++ l
  unfolding concat
  concat_snoc ls l = concat-append ls (l ∷ []) ∙ ap (λ q. concat ls ++ q) (append-nil l)

  -- the first numbers of a list and what is left past them, where the list may have fewer
  pub take-and-rest : (n : ℕ) (l : List A) → take n l ++ drop (length (take n l)) l ≡ l
  take-and-rest zero l = refl
  take-and-rest (suc n) [] = refl
  take-and-rest (suc n) (a ∷ l) = ap (λ q. a ∷ q) (take-and-rest n l)

  -- what is left of the first m numbers of a list past the first k of them
  pub drop_of_take : (k m : ℕ) (l : List A) → drop k (take m l) ≡ take (m - k) (drop k l)
  drop_of_take zero m l = let all : m ≡ m - 0 = omega arith in ap (λ (n : ℕ). take n l) all
  drop_of_take (suc k) zero l = let none : zero ≡ zero - suc k = omega arith in ap (λ (n : ℕ). take n (drop (suc k) l)) none
  drop_of_take (suc k) (suc m) [] = sym (take_all (suc m - suc k) [] (omega arith))
  drop_of_take (suc k) (suc m) (a ∷ l) = let same : m - k ≡ suc m - suc k = omega arith in drop_of_take k m l ∙ ap (λ (n : ℕ). take n (drop k l)) same

-- the first numbers of a list are below a bound that all are below
pub take-under : (bound n : ℕ) (l : List ℕ) → ((i : ℕ) → get_or l i 0 < bound) → (i : ℕ) → get_or (take n l) i 0 < bound
take-under bound zero l u i = omega (arith, u 0)
take-under bound (suc n) [] u i = u i
take-under bound (suc n) (a ∷ l) u zero = u 0
take-under bound (suc n) (a ∷ l) u (suc i) = take-under bound n l (λ j. u (suc j)) i
