-- Where each thread waits, and the clause on queues.
use mathlib.Core.Path.{◌≡◌, refl, sym, ◌∙◌}
use mathlib.Core.Logic.{◌≢◌}
use mathlib.Core.Bool.{Bool}
use mathlib.Core.List.{List}
use Prim.Native.Nat.{ℕ, suc, ◌≤◌, ◌<◌}
use native.Mathlib.Omega.{arith}
use lib.Dec.{eqb, ltb}
use borrow.Author.Tests.{ltb-true, ltb-false, lt-ltb, le-ltb, eqb-true, eqb-false, eq-eqb, ne_eqb}
use Rattle.model.specs.Lists.{bit, occurs}
use Rattle.model.specs.Codes.{nobody}
use Rattle.model.proofs.Laws.{by, same?}
use Rattle.laws.proofs.Lists.{bit-small, bit_holds}
use Rattle.formed.proofs.Queues.{Queues}
use Rattle.wellformed.specs.Waiting.{Free, waiting_at}

-- the first k queues are entered: a thread is once in the queue where it waits and in no other of them, and no other number is in them
pub record Waits (n k : ℕ) (queue : ℕ → List ℕ) (waits : ℕ → ℕ) : Type 0 where
  pub under : (r : ℕ) → r < k → (s : ℕ) → n ≤ s → occurs s (queue r) ≡ 0
  pub counts : (r : ℕ) → r < k → (s : ℕ) → s < n → occurs s (queue r) ≡ bit (eqb (waits s) r)
  pub known : (s : ℕ) → s < n → waits s ≢ nobody → waits s < k

module _ (n : ℕ) (few : n ≤ nobody) (queue : ℕ → List ℕ) where
  -- none is entered
  pub waits-none : (waits : ℕ → ℕ) → ((s : ℕ) → s < n → waits s ≡ nobody) → Waits n 0 queue waits
  waits-none waits none_yet = record {
    under = λ r l. absurd (omega arith);
    counts = λ r l. absurd (omega arith);
    known = λ s sn some. absurd (some (none_yet s sn));
  }

  -- one more queue, whose senders are free
  module _ (k : ℕ) (kn : k < n) (before after : ℕ → ℕ) (W : Waits n k queue before) (F : Free n before (queue k)) (now : (s : ℕ) → after s ≡ waiting_at k (queue k) before s) where
    -- a thread is not in it and waits where it did, or is in it once and waited nowhere
    entered-or-not : {P : Type 0} (s : ℕ) → (occurs s (queue k) ≡ 0 → after s ≡ before s → P) → (occurs s (queue k) ≡ 1 → before s ≡ nobody → after s ≡ k → P) → P
    unfolding waiting_at
    entered-or-not s f g = by (eqb (occurs s (queue k)) 0)
        (λ e. f (eqb-true (occurs s (queue k)) 0 e) (now s ∙ rw e refl))
        (λ e. let i = eqb-false (occurs s (queue k)) 0 e in
        g (omega (arith, F.once s, bit-small (eqb (before s) nobody)))
        (eqb-true (before s) nobody (bit_holds _ (omega (arith, F.once s))))
        (now s ∙ rw e refl))

    -- it is entered
    pub waits-more : Waits n (suc k) queue after
    waits-more = record {
      under = λ r l. same? r k (λ e. rw e F.under) (λ d. W.under r (omega arith));
      counts = λ r l s sn. entered-or-not s
          (λ out stays. same? r k
          (λ e. rw (e, out, stays, ne_eqb (before s) k (λ i. omega (arith, W.known s sn (omega arith)))) refl)
          (λ d. rw stays (W.counts r (omega arith) s sn)))
          (λ once none_yet here. same? r k
          (λ e. rw (e, once, here, eq-eqb k k refl) refl)
          (λ d. W.counts r (omega arith) s sn ∙ rw (none_yet, here, ne_eqb nobody r (omega arith), ne_eqb k r (omega arith)) refl));
      known = λ s sn some. entered-or-not s
          (λ out stays. let l = W.known s sn (λ i. some (stays ∙ i)) in omega arith)
          (λ once none_yet here. omega arith);
    }

  -- ---- the clause on queues, where each thread sends to at most one
  module _ (sends : ℕ → ℕ → Bool) (target : ℕ → ℕ) (to : (s r : ℕ) → r < n → sends s r ≡ eqb (target s) r) where
    -- a thread is once in the queue of its target, and in no other
    queue-count : Queues n sends queue → (r : ℕ) → r < n → (s : ℕ) → s < n → occurs s (queue r) ≡ bit (eqb (target s) r)
    queue-count Q r rn s sn = Q r rn s ∙ rw (lt-ltb s n sn, to s r rn) refl

    -- no other number is in one
    queue-under : Queues n sends queue → (r : ℕ) → r < n → (s : ℕ) → n ≤ s → occurs s (queue r) ≡ 0
    queue-under Q r rn s l = Q r rn s ∙ rw (le-ltb s n l) refl

    module _ (k : ℕ) (waits : ℕ → ℕ) (W : Waits n k queue waits) where
      -- a thread that waits somewhere waits at its target
      waits-at-target : Queues n sends queue → k ≤ n → (s : ℕ) → s < n → waits s ≢ nobody → target s ≡ waits s
      waits-at-target Q kn s sn some =
          let l = W.known s sn some in
          let b : bit (eqb (target s) (waits s)) ≡ 1 = sym (queue-count Q (waits s) (omega arith) s sn) ∙ W.counts (waits s) l s sn ∙ rw (eq-eqb (waits s) (waits s) refl) refl in
          eqb-true (target s) (waits s) (bit_holds _ (omega arith))

      -- so the senders of the next queue are free
      pub waits-free : Queues n sends queue → k < n → Free n waits (queue k)
      waits-free Q kn = record {
        under = queue-under Q k kn;
        once = λ s. by (ltb s n)
            (λ e. let sn = ltb-true s n e in same? (waits s) nobody
            (λ i. rw (queue-count Q k kn s sn, eq-eqb (waits s) nobody i) (bit-small (eqb (target s) k)))
            (λ d. let l = W.known s sn d in let i = waits-at-target Q (omega arith) s sn d in
            rw (queue-count Q k kn s sn, i, ne_eqb (waits s) k (omega arith)) (omega arith)))
            (λ e. rw (queue-under Q k kn s (ltb-false s n e)) (omega arith));
      }

    module _ (waits : ℕ → ℕ) (W : Waits n n queue waits) where
      -- all queues are entered, and each thread waits where it sends to: the clause holds
      pub waits-queues : ((s : ℕ) → s < n → waits s ≡ target s) → Queues n sends queue
      waits-queues same r rn s = by (ltb s n)
          (λ e. let sn = ltb-true s n e in W.counts r rn s sn ∙ rw (e, to s r rn, same s sn) refl)
          (λ e. W.under r rn s (ltb-false s n e) ∙ rw e refl)

      -- the clause holds: each thread waits where it sends to
      pub queues-waits : ((s : ℕ) → s < n → target s ≢ nobody → target s < n) → Queues n sends queue → (s : ℕ) → s < n → waits s ≡ target s
      queues-waits small Q s sn = same? (waits s) nobody
          (λ e. same? (target s) nobody
          (λ i. e ∙ sym i)
          (λ d. let l = small s sn d in
          let b : bit (eqb (waits s) (target s)) ≡ 1 = sym (W.counts (target s) l s sn) ∙ queue-count Q (target s) l s sn ∙ rw (eq-eqb (target s) (target s) refl) refl in
          eqb-true (waits s) (target s) (bit_holds _ (omega arith))))
          (λ d. sym (waits-at-target n waits W Q (omega arith) s sn d))
