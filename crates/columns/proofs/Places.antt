-- Looking through columns, place by place: how many places are of a sender and a target, and the one of a rank.
use Rattle.std.proofs.Common.{◌≡◌, ◌≢◌, refl, sym, ap, subst, ◌∙◌, Bool, true, false, ◌&&◌, cond, List, [], ◌∷◌, ◌++◌, ℕ, zero, suc, ◌+◌, ◌≤◌, ◌<◌, length, get_or, take, eqb, ltb, Some, None, add-one, arith}
use Rattle.std.specs.List.{filter}
use Rattle.std.specs.Option.{is_some}
use Rattle.std.proofs.lemmas.List.{append-nil, length-map, length_push, get_or-map}
use Rattle.std.proofs.lemmas.List.Elements.{filter_more}
use borrow.Author.Tests.{eq-eqb, ne_eqb, lt-ltb, le-ltb, ltb-true, ltb-false}
use mathlib.Core.Bool.{and-false}
use Rattle.model.specs.declared.Pair.{Pair}
use Rattle.model.specs.Lists.{bit}
use Rattle.model.proofs.Laws.{by, same?, and-made}
use Rattle.logs.specs.Comparison.{count_below}
use Rattle.laws.proofs.Below.{first-missing, first-is}
use Rattle.agreement.proofs.Counts.{count_next}
use Rattle.columns.specs.Ranks.{senders_of, targets_of, place_within, is_of, earlier, place_of_rank, mate_of}

module _ (senders targets : List ℕ) (s t : ℕ) where
  -- none before the first
  pub none-earlier : 0 ≡ earlier senders targets s t 0
  unfolding earlier count_below
  none-earlier = refl

  -- one more place
  next-earlier : (k : ℕ) → earlier senders targets s t (k + 1) ≡ bit (is_of senders targets s t k) + earlier senders targets s t k
  unfolding earlier
  next-earlier k = ap (λ (m : ℕ). count_below m (is_of senders targets s t)) (add-one k) ∙ count_next k (is_of senders targets s t)

  -- of them
  pub one_earlier : (k : ℕ) → is_of senders targets s t k ≡ true → earlier senders targets s t (k + 1) ≡ earlier senders targets s t k + 1
  one_earlier k e = omega (arith, next-earlier k, ap bit e)

  -- of others
  pub same-earlier : (k : ℕ) → is_of senders targets s t k ≡ false → earlier senders targets s t (k + 1) ≡ earlier senders targets s t k
  same-earlier k e = omega (arith, next-earlier k, ap bit e)

  module _ (rank : ℕ) where
    -- no place before k is the one of the rank
    abbrev pub NotBefore : ℕ → Type 0
    NotBefore k = (m : ℕ) → m < k → (is_of senders targets s t m && eqb (earlier senders targets s t m) rank) ≡ false

    -- place k is of others
    pub not-of : (k : ℕ) → NotBefore k → is_of senders targets s t k ≡ false → NotBefore (k + 1)
    not-of k before e m l = same? m k (λ i. rw (i, e) refl) (λ d. before m (omega arith))

    -- or of another rank
    pub not-rank : (k : ℕ) → NotBefore k → earlier senders targets s t k ≢ rank → NotBefore (k + 1)
    not-rank k before d m l = same? m k (λ i. rw (i, ne_eqb _ _ d) (and-false (is_of senders targets s t k))) (λ e. before m (omega arith))

    -- place k is the one
    pub place_found : (k : ℕ) → k < length senders → NotBefore k → is_of senders targets s t k ≡ true → earlier senders targets s t k ≡ rank
        → k ≡ place_of_rank senders targets s t rank
    unfolding place_of_rank
    place_found k low before e r = sym (first-is (length senders) _ k low (and-made _ _ e (eq-eqb _ _ r)) before)

    -- there is none
    pub place_none : (k : ℕ) → k ≡ length senders → NotBefore k → k ≡ place_of_rank senders targets s t rank
    unfolding place_of_rank
    place_none k all before = all ∙ sym (first-missing (length senders) _ (λ m l. before m (omega arith)))

-- ---- pairs
-- the pair past the last one
abbrev pub no_pair : Pair
no_pair = record { sender = 0; target = 0 }

-- a pair is another
abbrev pub is_pair : Pair → Pair → Bool
is_pair pair other = eqb other.sender pair.sender && eqb other.target pair.target

module _ (pairs : List Pair) (pair : Pair) where
  -- whether place k is of the pair's sender and target
  pub of_pair : (k : ℕ) → k < length pairs → is_of (senders_of pairs) (targets_of pairs) pair.sender pair.target k ≡ is_pair pair (get_or pairs k no_pair)
  unfolding is_of
  of_pair k l = rw (get_or-map (λ (p : Pair). p.sender) pairs k no_pair 0 l, get_or-map (λ (p : Pair). p.target) pairs k no_pair 0 l) refl

  -- one place more
  counted_more : (k : ℕ) → k < length pairs → earlier (senders_of pairs) (targets_of pairs) pair.sender pair.target k ≡ length (filter (is_pair pair) (take k pairs))
      → earlier (senders_of pairs) (targets_of pairs) pair.sender pair.target (k + 1) ≡ length (filter (is_pair pair) (take (k + 1) pairs))
  counted_more k l before = by (is_pair pair (get_or pairs k no_pair))
      (λ e. one_earlier _ _ _ _ k (of_pair k l ∙ e) ∙ ap (λ (m : ℕ). m + 1) before ∙ sym (ap length (filter_more (is_pair pair) pairs k no_pair l ∙ ap (λ (b : Bool). filter (is_pair pair) (take k pairs) ++ cond b (get_or pairs k no_pair ∷ []) []) e) ∙ length_push _ _))
      (λ e. same-earlier _ _ _ _ k (of_pair k l ∙ e) ∙ before ∙ sym (ap length (filter_more (is_pair pair) pairs k no_pair l ∙ ap (λ (b : Bool). filter (is_pair pair) (take k pairs) ++ cond b (get_or pairs k no_pair ∷ []) []) e ∙ append-nil _)))

  -- those before a place, kept and counted
  pub counted : (k : ℕ) → k ≤ length pairs → earlier (senders_of pairs) (targets_of pairs) pair.sender pair.target k ≡ length (filter (is_pair pair) (take k pairs))
  counted zero h = sym (none-earlier _ _ _ _)
  counted (suc k) h = subst (λ (m : ℕ). earlier (senders_of pairs) (targets_of pairs) pair.sender pair.target m ≡ length (filter (is_pair pair) (take m pairs))) (add-one k) (counted_more k (omega arith) (counted k (omega arith)))

-- the mate of entry i, by its pair
pub mate_read : (pairs others : List Pair) (i : ℕ) → i < length pairs → mate_of (senders_of pairs) (targets_of pairs) i (senders_of others) (targets_of others)
    ≡ place_of_rank (senders_of others) (targets_of others) (get_or pairs i no_pair).sender (get_or pairs i no_pair).target (earlier (senders_of pairs) (targets_of pairs) (get_or pairs i no_pair).sender (get_or pairs i no_pair).target i)
unfolding mate_of
mate_read pairs others i l = rw (get_or-map (λ (p : Pair). p.sender) pairs i no_pair 0 l, get_or-map (λ (p : Pair). p.target) pairs i no_pair 0 l) refl

-- as many senders as pairs
pub senders-many : (pairs : List Pair) → length (senders_of pairs) ≡ length pairs
senders-many pairs = length-map pairs (λ (p : Pair). p.sender)

-- ---- a place that may be missing
module _ (n k : ℕ) where
  pub within_found : k < n → Some k ≡ place_within n k
  within_found l = rw (lt-ltb k n l) refl

  pub within_none : n ≤ k → None ≡ place_within n k
  within_none h = rw (le-ltb k n h) refl

  pub found_within : (j : ℕ) → Some j ≡ place_within n k → (j ≡ k) × (k < n)
  found_within j e = by (ltb k n)
      (λ h. let same : Some j ≡ Some k = rw h at e in (cc, ltb-true k n h))
      (λ h. let none : Some j ≡ None = rw h at e in absurd (cc))

  pub some_within : is_some (place_within n k) ≡ true → k < n
  some_within e = by (ltb k n)
      (λ h. ltb-true k n h)
      (λ h. let clash : false ≡ true = rw h at e in absurd (cc))

  pub nothing_within : is_some (place_within n k) ≡ false → n ≤ k
  nothing_within e = by (ltb k n)
      (λ h. let clash : true ≡ false = rw h at e in absurd (cc))
      (λ h. ltb-false k n h)

  pub none_within : None ≡ place_within n k → n ≤ k
  none_within e = by (ltb k n)
      (λ h. let some : None ≡ Some k = rw h at e in absurd (cc))
      (λ h. ltb-false k n h)
