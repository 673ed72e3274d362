-- A chain of lock owners is followed one owner at a time.
use mathlib.Core.Path.{◌≡◌, refl, sym, ap, subst, ◌∙◌}
use mathlib.Core.Logic.{◌≢◌}
use mathlib.Core.Bool.{Bool, true, false, not}
use Prim.Native.Nat.{ℕ, zero, suc, ◌+◌, ◌≤◌, ◌<◌}
use native.Mathlib.Numerals.{add-one}
use native.Mathlib.Omega.{arith}
use lib.Dec.{eqb, ltb}
use borrow.Author.Tests.{lt-ltb, le-ltb, ltb-true, ltb-false, eq-eqb, ne_eqb}
use Rattle.model.specs.Lists.{all_below}
use Rattle.model.specs.Codes.{nobody}
use Rattle.model.specs.WellFormed.{chain, within}
use Rattle.model.proofs.Laws.{by, same?, all-below-read, all-below-made}
use Rattle.laws.proofs.Below.{all-below-fails, all-below-more, all-below-end}
use Rattle.wellformed.specs.Links.{chain_ends}

-- the owner that the chain from r has after k others is not r
abbrev pub apart : ℕ → (ℕ → ℕ) → ℕ → ℕ → Bool
apart n owner r k = not (eqb (chain (within n owner) (suc k) r) r)

-- k owners were followed from r and none of them was r; the next is o
pub record Followed (n : ℕ) (owner : ℕ → ℕ) (r k o : ℕ) : Type 0 where
  pub next : o ≡ chain (within n owner) (suc k) r
  pub passed : all_below k (apart n owner r) ≡ true

-- the owner of a thread of the table
within_in : (n : ℕ) (owner : ℕ → ℕ) (x : ℕ) → x < n → within n owner x ≡ owner x
unfolding within
within_in n owner x xn = rw (lt-ltb x n xn) refl

-- none was followed
pub followed_none : (n : ℕ) (owner : ℕ → ℕ) (r : ℕ) → r < n → Followed n owner r 0 (owner r)
unfolding chain all_below
followed_none n owner r rn = record { next = sym (within_in n owner r rn); passed = refl }

module _ {n : ℕ} {owner : ℕ → ℕ} {r k o : ℕ} (F : Followed n owner r k o) where
  -- one more
  pub followed_more : o < n → o ≢ r → Followed n owner r (k + 1) (owner o)
  unfolding chain
  followed_more on d = record {
    next = rw add-one (sym (within_in n owner o on) ∙ ap (within n owner) F.next);
    passed = all-below-more (apart n owner r) k F.passed (rw (← F.next, ne_eqb o r d) refl);
  }

  -- the next is past the table
  next-beyond : n ≤ o → (j : ℕ) → k ≡ j → n ≤ chain (within n owner) (suc j) r
  next-beyond out j e = subst (λ (m : ℕ). n ≤ chain (within n owner) (suc m) r) e (rw (← F.next) out)

  -- and there the chain stays
  beyond : n ≤ nobody → n ≤ o → (j : ℕ) → k ≤ j → n ≤ chain (within n owner) (suc j) r
  unfolding chain within
  beyond few out zero l = next-beyond out zero (omega arith)
  beyond few out (suc j) l = same? k (suc j) (next-beyond out (suc j))
      (λ d. rw (le-ltb (chain (within n owner) (suc j) r) n (beyond few out j (omega arith))) few)

  -- it has left the table
  pub followed_out : n ≤ nobody → r < n → n ≤ o → true ≡ chain_ends n owner r
  unfolding chain_ends
  followed_out few rn out = sym (all-below-made n (apart n owner r) (λ j jn. by (ltb j k)
      (λ e. all-below-read k (apart n owner r) F.passed j (ltb-true j k e))
      (λ e. let l = beyond few out j (ltb-false j k e) in rw (ne_eqb (chain (within n owner) (suc j) r) r (omega arith)) refl)))

  -- it is back
  pub followed_back : k < n → o ≡ r → false ≡ chain_ends n owner r
  unfolding chain_ends
  followed_back kn e = all-below-fails n (apart n owner r) k kn (rw (← F.next, eq-eqb o r e) refl)

  -- n owners were followed
  pub followed_all : k ≡ n → true ≡ chain_ends n owner r
  unfolding chain_ends
  followed_all e = all-below-end n (apart n owner r) k F.passed e
