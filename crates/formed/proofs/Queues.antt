-- The clause on queues, over functions of thread numbers: what joining a queue and leaving it leave of it.
use mathlib.Core.Path.{◌≡◌, refl, sym}
use mathlib.Core.Logic.{◌≢◌}
use mathlib.Core.Bool.{Bool, false, ◌&&◌}
use mathlib.Core.List.{List, [], ◌∷◌, ◌++◌}
use Prim.Native.Nat.{ℕ, ◌+◌, ◌<◌}
use native.Mathlib.Omega.{arith}
use lib.Dec.{eqb, ltb}
use borrow.Author.Tests.{eq-eqb, ne_eqb, lt-ltb}
use Rattle.model.specs.Lists.{bit, occurs, without, update}
use Rattle.model.proofs.Laws.{same?, occurs-append, occurs-same, occurs-other}
use Rattle.laws.proofs.Lists.{update_same, update_other}

-- queue r, which is `queue r`, holds once each exactly the threads that send to r
abbrev pub Queues : ℕ → (ℕ → ℕ → Bool) → (ℕ → List ℕ) → Type 0
Queues n sends queue = (r : ℕ) → r < n → (s : ℕ) → occurs s (queue r) ≡ bit (ltb s n && sends s r)

module _ (n : ℕ) (sends : ℕ → ℕ → Bool) (queue : ℕ → List ℕ) where
  -- x, which sends to nobody, sends to r and joins its queue
  pub queues-join : (x r : ℕ) (now : ℕ → Bool) (q : List ℕ) → x < n → r < n → ((u : ℕ) → sends x u ≡ false) → ((u : ℕ) → now u ≡ eqb r u) → q ≡ queue r ++ (x ∷ [])
      → Queues n sends queue → Queues n (update sends x now) (update queue r q)
  unfolding occurs
  queues-join x r now q xn rn silent to made before u un s =
      same? u r
      (λ e. rw (e, update_same, made, occurs-append) (rw (before r rn s) (one s)))
      (λ d. rw (update_other queue r q u d, before u un s) (others u d s))
    where
      one : (s : ℕ) → bit (ltb s n && sends s r) + (bit (eqb x s) + 0) ≡ bit (ltb s n && update sends x now s r)
      one s = same? s x
          (λ e. rw (e, lt-ltb x n xn, update_same, eq-eqb x x refl, to r, eq-eqb r r refl, silent r) refl)
          (λ d. rw (update_other sends x now s d, ne_eqb x s (λ i. d (sym i))) (omega arith))

      others : (u : ℕ) → u ≢ r → (s : ℕ) → bit (ltb s n && sends s u) ≡ bit (ltb s n && update sends x now s u)
      others u d s = same? s x
          (λ e. rw (e, update_same, to u, silent u, ne_eqb r u (λ i. d (sym i))) refl)
          (λ k. rw (update_other sends x now s k) refl)

  -- x, which sends to r, sends to nobody and leaves its queue
  pub queues_leave : (x r : ℕ) (now : ℕ → Bool) (q : List ℕ) → x < n → r < n → ((u : ℕ) → sends x u ≡ eqb r u) → ((u : ℕ) → now u ≡ false) → q ≡ without x (queue r)
      → Queues n sends queue → Queues n (update sends x now) (update queue r q)
  queues_leave x r now q xn rn to silent made before u un s =
      same? u r
      (λ e. rw (e, update_same, made) (same? s x
      (λ i. rw (i, occurs-same, before r rn x, lt-ltb x n xn, update_same, to r, silent r, eq-eqb r r refl) refl)
      (λ d. rw (occurs-other s x (queue r) (λ i. d (sym i)), before r rn s, update_other sends x now s d) refl)))
      (λ d. rw (update_other queue r q u d, before u un s) (same? s x
      (λ i. rw (i, update_same, to u, silent u, ne_eqb r u (λ j. d (sym j))) refl)
      (λ k. rw (update_other sends x now s k) refl)))
