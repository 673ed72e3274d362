-- A queue's senders are entered one by one.
use mathlib.Core.Path.{◌≡◌, refl, sym, ap, ◌∙◌}
use mathlib.Core.Logic.{◌≢◌}
use mathlib.Core.Bool.{true≢false, false≢true, true, false}
use mathlib.Core.List.{List, [], ◌∷◌, ◌++◌}
use Prim.Native.Nat.{ℕ, suc, ◌+◌, ◌-◌, ◌≤◌, ◌<◌}
use native.Mathlib.Nat.{add-zero}
use native.Mathlib.Numerals.{add-one}
use native.Mathlib.Omega.{arith}
use lib.ListN.{length, set, take, drop, length-set}
use lib.Seq.{take-suc, take-add, get_or-set_same, get_or-set_other}
use lib.Dec.{eqb}
use Rattle.std.proofs.lemmas.List.{take_all}
use borrow.Author.Tests.{eqb-true, eqb-false, eq-eqb, ne_eqb}
use Rattle.model.specs.Lists.{bit, occurs}
use Rattle.model.specs.Codes.{nobody}
use Rattle.model.proofs.Laws.{by, same?, occurs-append}
use Rattle.laws.proofs.Lists.{bit-small}
use Rattle.wellformed.specs.Links.{number_at}
use Rattle.wellformed.specs.Waiting.{Free, waiting_at, Entered, EnteredOrNot}

-- a number more at the end of a list
occurs-last : (s : ℕ) (q : List ℕ) (a : ℕ) → occurs s (q ++ (a ∷ [])) ≡ occurs s q + bit (eqb a s)
unfolding occurs
occurs-last s q a = rw occurs-append (omega arith)

-- the number at place i stands behind those before it
occurs-at : (q : List ℕ) (i : ℕ) → i < length q → suc (occurs (number_at q i) (take i q)) ≤ occurs (number_at q i) q
occurs-at q i m =
    let a = number_at q i in
    let e : suc i + (length q - suc i) ≡ length q = omega arith in
    let c : occurs a (take (suc i + (length q - suc i)) q) ≡ occurs a (take i q) + bit (eqb a a) + occurs a (take (length q - suc i) (drop (suc i) q)) =
    rw (take-add (suc i) (length q - suc i) q, take-suc q i 0 m, occurs-append, occurs-last) refl in
    let d : bit (eqb a a) ≡ 1 = rw (eq-eqb a a refl) refl in
    let w : occurs a (take (suc i + (length q - suc i)) q) ≡ occurs a q = ap (occurs a) (ap (λ k. take k q) e ∙ take_all (length q) q (omega arith)) in
    omega arith

-- none yet
pub entered-none : (n r : ℕ) (before : List ℕ) → length before ≡ 32 → Entered n r [] before before
unfolding waiting_at occurs
entered-none n r before whole = record { free = record { under = λ s l. refl; once = λ s. omega arith }; now = λ s. refl; whole = whole }

-- one more
module _ (n r : ℕ) (q before after : List ℕ) (a : ℕ) (few : n ≤ 32) (rn : r < n) (an : a < n) (E : Entered n r q before after) (unused : number_at after a ≡ nobody) where
  -- it is none of those entered, and waited nowhere
  unused-before : (occurs a q ≡ 0) × (number_at before a ≡ nobody)
  unfolding waiting_at
  unused-before =
      let e : waiting_at r q (number_at before) a ≡ nobody = sym (E.now a) ∙ unused in
      by (eqb (occurs a q) 0)
      (λ i. (eqb-true _ _ i, rw i at e))
      (λ i. let z : r ≡ nobody = rw i at e in absurd (omega arith))

  -- it is entered too
  pub entered-more : Entered n r (q ++ (a ∷ [])) before (set after a r)
  unfolding waiting_at
  entered-more = record {
    free = record {
      under = λ s l. occurs-last s q a ∙ rw (E.free.under s l, ne_eqb a s (omega arith)) refl;
      once = λ s. rw (occurs-last s q a) (same? a s
          (λ i. rw (sym i, unused-before.0, unused-before.1, eq-eqb a a refl) (omega arith))
          (λ d. rw (ne_eqb a s d) (omega (arith, E.free.once s))));
    };
    now = λ s. rw (occurs-last s q a) (same? s a
        (λ i. rw (i, unused-before.0, eq-eqb a a refl) (get_or-set_same after a r 0 (omega (arith, E.whole))))
        (λ d. rw (ne_eqb a s (λ i. d (sym i)), add-zero) (get_or-set_other after a s r 0 d ∙ E.now s)));
    whole = length-set after a r ∙ E.whole;
  }

-- ---- what the code tells of the senders q of thread r
module _ {n r : ℕ} {before after : List ℕ} (q : List ℕ) (i : ℕ) where
  -- the one at place i is entered too
  pub entered-next : n ≤ 32 → r < n → i < length q → number_at q i < n → Entered n r (take i q) before after → number_at after (number_at q i) ≡ nobody → Entered n r (take (i + 1) q) before (set after (number_at q i) r)
  entered-next few rn there an E unused = rw (add-one, take-suc q i 0 there) (entered-more n r (take i q) before after (number_at q i) few rn an E unused)

  -- all are entered
  pub all-entered : length q ≤ i → Entered n r (take i q) before after → EnteredOrNot n r q before after true
  all-entered l E = record { yes = λ j. rw (take_all i q l) at E; no = λ j. absurd (true≢false j) }

  -- they are not free
  not_entered : (Free n (number_at before) q → ⊥) → EnteredOrNot n r q before after false
  not_entered clash = record { yes = λ j. absurd (false≢true j); no = λ j. clash }

  module _ (there : i < length q) where
    -- the sender at place i is no thread of the table
    pub beyond-table : n ≤ number_at q i → EnteredOrNot n r q before after false
    beyond-table l = not_entered (λ F. omega (arith, occurs-at q i there, F.under _ l))

    -- it waits somewhere already
    pub waits_already : Entered n r (take i q) before after → number_at after (number_at q i) ≢ nobody → EnteredOrNot n r q before after false
    unfolding waiting_at
    waits_already E used = not_entered (λ F. by (eqb (occurs s (take i q)) 0)
        (λ e. let w : number_at after s ≡ number_at before s = E.now s ∙ rw e refl in
        let b : bit (eqb (number_at before s) nobody) ≡ 0 = rw (ne_eqb _ _ (λ z. used (w ∙ z))) refl in
        omega (arith, occurs-at q i there, F.once s))
        (λ e. let b = eqb-false (occurs s (take i q)) 0 e in
        omega (arith, occurs-at q i there, F.once s, bit-small (eqb (number_at before s) nobody))))
      where
        s : ℕ
        s = number_at q i
