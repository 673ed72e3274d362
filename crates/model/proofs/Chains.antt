-- A chain of owners that comes back to its start does so within as many owners as there are threads.
use mathlib.Core.Path.{◌≡◌, sym, ap, ◌∙◌}
use mathlib.Core.Logic.{◌≢◌}
use Prim.Native.Nat.{ℕ, zero, suc, ◌+◌, ◌-◌, ◌≤◌, ◌<◌}
use native.Mathlib.Omega.{arith}
use native.Mathlib.Nat.{zero-add, suc-add}
use lib.Dec.{ltb}
use borrow.Author.Tests.{ltb-true, ltb-false}
use Rattle.model.specs.WellFormed.{chain}
use Rattle.model.proofs.Laws.{by, same?, pigeonhole}

module _ (owner : ℕ → ℕ) where
  -- the owners of a chain's owners are the chain's later owners
  chain-add : (a b r : ℕ) → chain owner a (chain owner b r) ≡ chain owner (a + b) r
  unfolding chain
  chain-add zero b r = ap (λ (k : ℕ). chain owner k r) (sym (zero-add b))
  chain-add (suc a) b r = ap owner (chain-add a b r) ∙ ap (λ (k : ℕ). chain owner k r) (sym (suc-add a b))

  -- where no chain comes back within n owners
  module _ (n : ℕ) (short : (r : ℕ) → r < n → (k : ℕ) → k < n → chain owner (suc k) r ≢ r) where
    -- one in the table has no owner twice among its first n + 1
    fresh-owner : (r : ℕ) → ((j : ℕ) → j ≤ n → chain owner j r < n) → (i j : ℕ) → i < j → j ≤ n → chain owner i r ≢ chain owner j r
    fresh-owner r stays i j l k e =
        let c : suc (j - suc i) + i ≡ j = omega arith in
        short (chain owner i r) (stays i (omega arith)) (j - suc i) (omega arith)
        (chain-add (suc (j - suc i)) i r ∙ ap (λ (m : ℕ). chain owner m r) c ∙ sym e)

    -- so every chain leaves the table
    pub chain-leaves : (r : ℕ) → ((j : ℕ) → j ≤ n → chain owner j r < n) → ⊥
    chain-leaves r stays = pigeonhole n (λ j. chain owner j r) stays (fresh-owner r stays)

    -- only a thread of the table has a thread of the table for its owner
    module _ (owned_in : (r : ℕ) → owner r < n → r < n) where
      -- a chain that is in the table was there before
      chain_in : (m j r : ℕ) → j ≤ m → chain owner m r < n → chain owner j r < n
      unfolding chain
      chain_in zero j r l h = let e : j ≡ 0 = omega arith in rw e h
      chain_in (suc m) j r l h = same? j (suc m) (λ e. rw e h) (λ d. chain_in m j r (omega arith) (owned_in (chain owner m r) h))

      -- so none ever comes back
      pub chains-long : (r : ℕ) → r < n → (k : ℕ) → chain owner (suc k) r ≢ r
      chains-long r rn k e = by (ltb k n)
          (λ i. short r rn k (ltb-true k n i) e)
          (λ i. let long : n ≤ k = ltb-false k n i in chain-leaves r (λ j l. chain_in (suc k) j r (omega arith) (rw e rn)))
