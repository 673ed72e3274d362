-- What each call must give: an entry that is allowed, and threads and a store that stand for the atomic machine after it.
use mathlib.Core.Path.{◌≡◌, refl, sym, ap, ◌∙◌, subst}
use mathlib.Core.Logic.{◌≢◌}
use mathlib.Core.Option.{none}
use mathlib.Core.List.{List}
use Prim.Native.Nat.{ℕ, ◌*◌, ◌<◌}
use lib.ListN.{length}
use Rattle.model.specs.declared.Thread.{Thread}
use Rattle.model.specs.Lists.{update}
use Rattle.model.specs.Store.{words_at}
use Rattle.model.specs.Atomic.{AtomicThread, Machine}
use Rattle.model.specs.Linearization.{Entry, play_entry, Allowed}
use Rattle.model.proofs.Laws.{same?}
use Rattle.laws.proofs.Lists.{update_same, update_other, update-own}
use Rattle.formed.proofs.Formed.{Formed}
use Rattle.simulation.proofs.Abstraction.{abstraction, CopiedBy, Copied}

-- each thread of the table stands for its thread of the atomic machine p
abbrev pub Like : ℕ → Machine → (ℕ → Thread) → List ℕ → Type 0
Like n p T store = (y : ℕ) → y < n → p y ≡ abstraction (T y) (words_at store y)

-- well-formed threads T and the store of their words stand for the atomic machine p
pub record Simulates (n : ℕ) (p : Machine) (T : ℕ → Thread) (store : List ℕ) : Type 0 where
  pub formed : Formed n T
  pub fit : length store ≡ 8 * n
  pub like : Like n p T store
  pub copied : Copied n T store

-- the entry e is allowed at p and leads to what the threads T and the store stand for
pub record Leads (n : ℕ) (e : Entry) (p : Machine) (T : ℕ → Thread) (store : List ℕ) : Type 0 where
  pub allowed : Allowed n e p
  pub like : Like n (play_entry n e p) T store
  pub copied : Copied n T store

-- a store that becomes `after`: no thread but x shows other words, and none loses a word that it has copied
pub record OthersKept (n : ℕ) (T : ℕ → Thread) (x : ℕ) (store after : List ℕ) : Type 0 where
  pub words : (y : ℕ) → y < n → y ≢ x → abstraction (T y) (words_at store y) ≡ abstraction (T y) (words_at after y)
  pub copied : (y : ℕ) → y < n → y ≢ x → CopiedBy n after (T y)

module _ {n : ℕ} {p : Machine} {T : ℕ → Thread} {store : List ℕ} (S : Simulates n p T store) (x : ℕ) (xn : x < n) where
  -- the store stays as it is
  pub same_store : OthersKept n T x store store
  same_store = record { words = λ y yn d. refl; copied = λ y yn d. S.copied y yn }

  module _ (after : List ℕ) (K : OthersKept n T x store after) (e : Entry) (may : Allowed n e p) where
    -- r becomes g and x becomes f, and in the atomic machine a and b
    pub both_lead : (r : ℕ) (g f : Thread) (a b : AtomicThread) → play_entry n e p ≡ update (update p r a) x b
        → (r < n → r ≢ x → a ≡ abstraction g (words_at after r)) → b ≡ abstraction f (words_at after x) → (r < n → r ≢ x → CopiedBy n after g) → CopiedBy n after f
        → Leads n e p (update (update T r g) x f) after
    both_lead r g f a b plays its mine itsCopied mineCopied = record { allowed = may; like = subst (λ (q : Machine). Like n q (update (update T r g) x f) after) (sym plays) like; copied = copied }
      where
        like : Like n (update (update p r a) x b) (update (update T r g) x f) after
        like y yn = same? y x
            (λ i. rw (i, update_same (update p r a) x b, update_same (update T r g) x f) mine)
            (λ d. rw (update_other (update p r a) x b y d, update_other (update T r g) x f y d) (same? y r
            (λ i. rw (i, update_same p r a, update_same T r g) (its (rw i at yn) (λ j. d (i ∙ j))))
            (λ k. rw (update_other p r a y k, update_other T r g y k) (S.like y yn ∙ K.words y yn d))))

        copied : Copied n (update (update T r g) x f) after
        copied y yn = same? y x
            (λ i. rw (i, update_same) mineCopied)
            (λ d. rw (update_other (update T r g) x f y d) (same? y r
            (λ i. rw (i, update_same) (itsCopied (rw i at yn) (λ j. d (i ∙ j))))
            (λ k. rw (update_other T r g y k) (K.copied y yn d))))

    -- the event is of x alone, and the atomic machine sees no change of r
    pub own-leads : (r : ℕ) (g f : Thread) (b : AtomicThread) → play_entry n e p ≡ update p x b
        → abstraction g ≡ abstraction (T r) → b ≡ abstraction f (words_at after x) → (CopiedBy n after (T r) → CopiedBy n after g) → CopiedBy n after f
        → Leads n e p (update (update T r g) x f) after
    own-leads r g f b plays its mine itsCopied mineCopied =
        both_lead r g f (p r) b (plays ∙ ap (λ (q : Machine). update q x b) (sym (update-own p r)))
        (λ rn d. S.like r rn ∙ K.words r rn d ∙ ap (λ (shown : List ℕ → AtomicThread). shown (words_at after r)) (sym its)) mine (λ rn d. itsCopied (K.copied r rn d)) mineCopied

    -- only x changes
    pub alone-leads : (f : Thread) (b : AtomicThread) → play_entry n e p ≡ update p x b → b ≡ abstraction f (words_at after x) → CopiedBy n after f → Leads n e p (update T x f) after
    alone-leads f b plays mine copied = subst (λ (R : ℕ → Thread). Leads n e p (update R x f) after) (update-own T x) (own-leads x (T x) f b plays refl mine (λ k. k) copied)

  -- nothing happens in the atomic machine
  pub none-leads : (after : List ℕ) → OthersKept n T x store after → abstraction (T x) (words_at store x) ≡ abstraction (T x) (words_at after x) → (r : ℕ) (g f : Thread)
      → abstraction g ≡ abstraction (T r) → abstraction f ≡ abstraction (T x) → (CopiedBy n after (T r) → CopiedBy n after g) → CopiedBy n after f → Leads n none p (update (update T r g) x f) after
  none-leads after K words r g f its mine =
      own-leads after K none tt r g f (p x) (sym (update-own p x)) its (S.like x xn ∙ words ∙ ap (λ (shown : List ℕ → AtomicThread). shown (words_at after x)) (sym mine))
