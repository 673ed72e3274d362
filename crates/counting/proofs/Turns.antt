-- The turns of the two functions: the lists of the later threads, and those that start with a step of this one.
use Rattle.std.proofs.Common.{◌≡◌, ℕ, suc, ◌+◌, ◌-◌, ◌<◌, ◌≤◌, Bool, eqb, ◌≢◌, List, length, get_or, set, sym, refl, ap, ◌∙◌, subst, arith, get_or-set_other, get_or-set_same, eq-eqb, ne_eqb}
use Rattle.model.specs.declared.Table.{Table}
use Rattle.model.specs.Lists.{bit}
use Rattle.model.specs.Counting.{after_step, place_of, count_places, count_of}
use Rattle.model.proofs.Laws.{same?}
use Rattle.step_lists.specs.Firsts.{count_from}
use Rattle.step_lists.proofs.Totals.{count-all, count_none}
use Rattle.few.specs.declared.Few.{Few}
use Rattle.few.specs.Front.{Whole}
use Rattle.counting.specs.Trying.{Trying, Counted}

-- one more at place q
pub one_more : (counts : List ℕ) (q p : ℕ) → q < length counts → get_or (set counts q (get_or counts q 0 + 1)) p 0 ≡ get_or counts p 0 + bit (eqb q p)
one_more counts q p l = same? p q
    (λ e. subst (λ (k : ℕ). get_or (set counts q (get_or counts q 0 + 1)) k 0 ≡ get_or counts k 0 + bit (eqb q k)) (sym e)
    (get_or-set_same counts q _ 0 l ∙ sym (ap (λ (b : Bool). get_or counts q 0 + bit b) (eq-eqb q q refl))))
    (λ d. get_or-set_other counts q p _ 0 d ∙ omega (arith, ap bit (ne_eqb q p (λ e. d (sym e)))))

-- the four threads g are those after a step of thread x of the four threads f
abbrev pub SteppedTo : Few → ℕ → Few → Type 0
SteppedTo f x g = (t : Table) → Whole f t → Whole g (after_step x t)

module _ {f : Few} {x left : ℕ} {counts : List ℕ} (T : Trying f x left counts) where
  -- no thread is left
  pub counted_none : f.n ≤ x → Counted f x left counts counts
  unfolding count_from
  counted_none over = record { gains = λ t F p l. let none : f.n - x ≡ 0 = omega arith in sym (ap (λ (m : ℕ). get_or counts p 0 + count_from t m x (left - 1) p) none ∙ omega arith) }

  module _ (below : x < f.n) where
    -- the first thread's lists, and those of the others
    first : (t : Table) (k p : ℕ) → count_from t (f.n - x) x k p ≡ count_of (after_step x t) k p + count_from t (f.n - (x + 1)) (x + 1) k p
    unfolding count_from
    first t k p =
        let more : f.n - x ≡ suc (f.n - (x + 1)) = omega arith in
        let next : suc x ≡ x + 1 = omega arith in
        ap (λ (m : ℕ). count_from t m x k p) more ∙ ap (λ (y : ℕ). count_of (after_step x t) k p + count_from t (f.n - (x + 1)) y k p) next

    -- the later threads' turn
    pub trying_later : Trying f (x + 1) left counts
    trying_later = record { whole = T.whole; front = T.front; some = T.some; long = T.long; room = λ p l. omega (arith, T.room p l, first T.whole (left - 1) p) }

    -- which has come
    module _ {after : List ℕ} (later : Counted f (x + 1) left counts after) (same : length after ≡ length counts) where
      -- the step was the last one, and led to place q, which gains one
      module _ (last : left ≡ 1) (q : ℕ) (leads : (t : Table) → Whole f t → q ≡ place_of (after_step x t)) (small : q < count_places) where
        one_list : (t : Table) → Whole f t → (p : ℕ) → count_of (after_step x t) (left - 1) p ≡ bit (eqb q p)
        one_list t F p =
            let none : left - 1 ≡ 0 = omega arith in
            ap (λ (k : ℕ). count_of (after_step x t) k p) none ∙ count_none (after_step x t) p ∙ ap (λ (k : ℕ). bit (eqb k p)) (sym (leads t F))

        pub one-fits : get_or after q 0 + 1 < 4294967296
        one-fits = omega (arith, T.room q small, first T.whole (left - 1) q, later.gains T.whole T.front q small, one_list T.whole T.front q, ap bit (eq-eqb q q refl))

        pub counted-last : Counted f x left counts (set after q (get_or after q 0 + 1))
        counted-last = record { gains = λ t F p l. let inside : q < length after = omega (arith, same, T.long) in one_more after q p inside ∙ omega (arith, first t (left - 1) p, later.gains t F p l, one_list t F p) }

      -- or lists go on from there
      module _ (more : left ≢ 1) {g : Few} (S : SteppedTo f x g) where
        rest-lists : (t : Table) → Whole f t → (p : ℕ) → count_from (after_step x t) (g.n - 0) 0 (left - 1 - 1) p ≡ count_of (after_step x t) (left - 1) p
        rest-lists t F p =
            let all : g.n - 0 ≡ (after_step x t).n = omega (arith, (S t F).front.size) in
            let here : suc (left - 1 - 1) ≡ left - 1 = omega (arith, T.some) in
            ap (λ (m : ℕ). count_from (after_step x t) m 0 (left - 1 - 1) p) all ∙ sym (count-all (after_step x t) (left - 1 - 1) p) ∙ ap (λ (k : ℕ). count_of (after_step x t) k p) here

        pub trying_on : Trying g 0 (left - 1) after
        trying_on = record {
          whole = after_step x T.whole;
          front = S T.whole T.front;
          some = omega (arith, T.some);
          long = same ∙ T.long;
          room = λ p l. omega (arith, T.room p l, first T.whole (left - 1) p, later.gains T.whole T.front p l, rest-lists T.whole T.front p);
        }

        pub counted_on : {end : List ℕ} → Counted g 0 (left - 1) after end → Counted f x left counts end
        counted_on on = record { gains = λ t F p l. omega (arith, on.gains (after_step x t) (S t F) p l, first t (left - 1) p, later.gains t F p l, rest-lists t F p) }
