-- The tests between threads, and the clauses on locks and chains.
use mathlib.Core.Path.{◌≡◌, refl}
use mathlib.Core.Bool.{true}
use Prim.Native.Nat.{ℕ, ◌≤◌, ◌<◌}
use native.Mathlib.Omega.{arith}
use lib.Dec.{ltb}
use borrow.Author.Tests.{ltb-true, lt-ltb, eqb-true, eqb-false, eq-eqb, ne_eqb, not-true}
use Rattle.model.specs.Lists.{all_below}
use Rattle.model.specs.Codes.{nobody}
use Rattle.model.proofs.Laws.{by, implies-read, implies-made, ◌and◌, all_of-read, all_of-made, all-below-read, all-below-made}
use Rattle.model.proofs.Chains.{chains-long}
use Rattle.model.specs.WellFormed.{within}
use Rattle.formed.proofs.Locks.{Owners, Chains}
use Rattle.wellformed.specs.Links.{points_back, chain_ends, link_fits}
use Rattle.wellformed.proofs.Chains.{apart}

-- what the tests say of all threads
pub record Linked (n : ℕ) (waits target owner holds : ℕ → ℕ) : Type 0 where
  pub waiting : (r : ℕ) → r < n → waits r ≡ target r
  pub owners : Owners n owner holds
  pub chains : Chains n owner

-- ---- locks
module _ (n : ℕ) (there back : ℕ → ℕ) where
  -- where each points to the other, each thread that is pointed to points back
  points_made : Owners n there back → (r : ℕ) → r < n → points_back n back (there r) r ≡ true
  unfolding points_back
  points_made O r rn = implies-made _ _ (λ e. eq-eqb _ r ((O r (there r) rn (ltb-true (there r) n e)).0 refl))

  -- and one way follows from the test
  points_read : (r o : ℕ) → o < n → points_back n back (there r) r ≡ true → there r ≡ o → back o ≡ r
  unfolding points_back
  points_read r o on e i = rw (← i) (eqb-true _ r (implies-read _ _ e (lt-ltb (there r) n (rw i on))))

-- the other way round
owners_swapped : (n : ℕ) (owner holds : ℕ → ℕ) → Owners n owner holds → Owners n holds owner
owners_swapped n owner holds O r o rn on = ((O o r on rn).1, (O o r on rn).0)

-- ---- chains
module _ (n : ℕ) (few : n ≤ nobody) (owner : ℕ → ℕ) where
  -- only a thread of the table has a thread of the table for its owner
  owned_in : (r : ℕ) → within n owner r < n → r < n
  unfolding within
  owned_in r h = by (ltb r n) (ltb-true r n) (λ e. absurd (let l : nobody < n = rw e at h in omega arith))

  -- where every chain ends, none comes back
  chains-read : ((r : ℕ) → r < n → chain_ends n owner r ≡ true) → Chains n owner
  unfolding chain_ends
  chains-read h = chains-long (within n owner) n (λ r rn k kn. eqb-false _ _ (not-true _ (all-below-read n (apart n owner r) (h r rn) k kn))) owned_in

  -- where none comes back, every chain ends
  chains-made : Chains n owner → (r : ℕ) → r < n → chain_ends n owner r ≡ true
  unfolding chain_ends
  chains-made C r rn = all-below-made n (apart n owner r) (λ k kn. rw (ne_eqb _ _ (C r rn k)) refl)

-- ---- together
module _ (n : ℕ) (few : n ≤ nobody) (waits target owner holds : ℕ → ℕ) where
  -- the tests tell
  pub links_told : all_below n (link_fits n waits target owner holds) ≡ true → Linked n waits target owner holds
  unfolding link_fits
  links_told e = record {
    waiting = λ r rn. eqb-true _ _ (all_of-read _ (fits r rn)).0;
    owners = λ r o rn on. (points_read n owner holds r o on (all_of-read _ (fits r rn)).1.0, points_read n holds owner o r rn (all_of-read _ (fits o on)).1.1.0);
    chains = chains-read n few owner (λ r rn. (all_of-read _ (fits r rn)).1.1.1.0);
  }
    where
      fits : (r : ℕ) → r < n → link_fits n waits target owner holds r ≡ true
      fits = all-below-read n _ e

  -- the tests hold
  pub links_made : Linked n waits target owner holds → all_below n (link_fits n waits target owner holds) ≡ true
  unfolding link_fits
  links_made L = all-below-made n _ (λ r rn. all_of-made _ (
      eq-eqb _ _ (L.waiting r rn)
      and points_made n owner holds L.owners r rn
      and points_made n holds owner (owners_swapped n owner holds L.owners) r rn
      and chains-made n few owner L.chains r rn
      and tt))
