-- The first four threads of a table of at most four: a step of two of them is the step of the table.
use Rattle.std.proofs.Common.{◌≡◌, ℕ, zero, suc, ◌*◌, ◌<◌, ◌≤◌, true, List, [], ◌∷◌, map, length, get_or, take, set, replicate, ℤ, sym, refl, ap, ◌∙◌, subst, arith, length-take-le, take_all, get_or-take, eqb-true}
use Rattle.std.specs.Prelude.{Option, Some, unwrap_or}
use lib.ListN.{length-replicate, get_or-map}
use lib.Seq.{take-set-lt, set-get_or, map-set_same}
use Rattle.model.specs.declared.Outcome.{Outcome}
use Rattle.model.specs.declared.Thread.{Thread}
use Rattle.model.specs.declared.Table.{Table}
use Rattle.model.specs.Codes.{codes, nobody}
use Rattle.model.specs.Threads.{zero_thread, at, put}
use Rattle.model.specs.Locks.{lock_free}
use Rattle.model.specs.WellFormed.{is_code}
use Rattle.model.specs.Phases.{phase_of}
use Rattle.model.specs.Step.{Action, decide_in, decide, own_after, other_after, act}
use Rattle.model.specs.Calls.{step, State}
use Rattle.model.specs.Counting.{after_step, counted_threads, count_places, place_from, place_of}
use Rattle.model.specs.Refusals.{refusal}
use Rattle.model.specs.Promise.{state}
use Rattle.model.proofs.Laws.{by}
use Rattle.model.proofs.Tested.{well_formed-told}
use Rattle.laws.proofs.Accepted.{step-accepted}
use Rattle.laws.proofs.Lists.{cond-false}
use Rattle.formed.proofs.Formed.{Formed}
use Rattle.formed.proofs.Facts.{queue-small}
use Rattle.actions.specs.declared.Change.{Change}
use Rattle.actions.specs.declared.Ending.{Ending}
use Rattle.actions.specs.Acted.{own_changed, other_changed, Acted}
use Rattle.endings.specs.Ended.{Waits, ends_send}
use Rattle.phases.specs.Fit.{partner, Fit}
use Rattle.unchecked.specs.Runnable.{Checked}
use Rattle.unchecked.proofs.Kept.{keeps_checked}
use Rattle.unchecked.proofs.Stepped.{place-below, put_back, decision, fits-here, ending-waits}
use Rattle.step_lists.proofs.Steps.{Steps, step_any_store, step-size, steps-well_formed}
use Rattle.step_lists.proofs.Places.{coded, place_same, place-below as place-small}
use Rattle.digits.specs.Coded.{code_at, Coded}
use Rattle.few.specs.declared.Few.{Few}
use Rattle.few.specs.Front.{Front, Whole, outcomes_in, outcomes_with, decide_here}
use Rattle.few.proofs.Stepping.{Leaves, here-free, not-held}

module _ {A : Type 0} where
  -- the first four of a list, one by one
  pub first-four : (l : List A) (d : A) → 4 ≤ length l → get_or l 0 d ∷ get_or l 1 d ∷ get_or l 2 d ∷ get_or l 3 d ∷ [] ≡ take 4 l
  first-four [] d long = absurd (omega arith)
  first-four (a ∷ []) d long = absurd (omega arith)
  first-four (a ∷ b ∷ []) d long = absurd (omega arith)
  first-four (a ∷ b ∷ c ∷ []) d long = absurd (omega arith)
  first-four (a ∷ b ∷ c ∷ e ∷ l) d long = refl

  -- a list of four, one by one
  pub whole_four : (l : List A) (d : A) → length l ≡ 4 → get_or l 0 d ∷ get_or l 1 d ∷ get_or l 2 d ∷ get_or l 3 d ∷ [] ≡ l
  whole_four l d long = first-four l d (omega arith) ∙ take_all 4 l (omega arith)

-- a function of each element, one of which is put there
map-set : {A B : Type 0} (f : A → B) (l : List A) (k : ℕ) (a : A) → map f (set l k a) ≡ set (map f l) k (f a)
map-set f [] k a = refl
map-set f (b ∷ l) zero a = refl
map-set f (b ∷ l) (suc k) a = ap (λ q. f b ∷ q) (map-set f l k a)

-- what a checked table tells of its threads
pub checked-steps : {t : Table} → Checked t → Steps t
checked-steps {t} c = steps-well_formed t (well_formed-told t c.formed) c.shaped

-- the first four threads of a table, with a place
abbrev pub first_four : Table → ℕ → Few
first_four t p = record { n = t.n; threads = get_or t.threads 0 zero_thread ∷ get_or t.threads 1 zero_thread ∷ get_or t.threads 2 zero_thread ∷ get_or t.threads 3 zero_thread ∷ []; place = p }

pub front_of : (t : Table) → Checked t → t.n ≤ counted_threads → (p : ℕ) → Front (first_four t p) t
front_of t checked few p = record { checked = checked; few = few; size = refl; threads = let whole = checked.shaped.threads in first-four t.threads zero_thread (omega arith) }

-- the four with h for thread x and r for thread j, and a place
abbrev pub put_both : ℕ → Thread → ℕ → Thread → ℕ → Few → Few
put_both x h j r p f = record { n = f.n; threads = set (set f.threads j r) x h; place = p }

-- their outcomes
pub outcomes-both : (x j : ℕ) (h r : Thread) (p : ℕ) (f : Few) → outcomes_in (put_both x h j r p f) ≡ outcomes_with f x h j r
outcomes-both x j h r p f =
    map-set (λ (g : Thread). g.outcome) (set f.threads j r) x h ∙ ap (λ (l : List Outcome). set l x h.outcome) (map-set (λ (g : Thread). g.outcome) f.threads j r)

-- where both have the outcome that they had, they are as they were
outcomes-same : (x j : ℕ) (h r : Thread) (p : ℕ) (f : Few) → h.outcome ≡ (get_or f.threads x zero_thread).outcome → r.outcome ≡ (get_or f.threads j zero_thread).outcome → outcomes_in (put_both x h j r p f) ≡ outcomes_in f
outcomes-same x j h r p f own other =
    let o : Thread → Outcome = λ g. g.outcome in
    let first : map o (set f.threads j r) ≡ map o f.threads = map-set_same o f.threads j r zero_thread other in
    map-set_same o (set f.threads j r) x h zero_thread
    (own ∙ sym (get_or-map o f.threads x zero_thread) ∙ ap (λ (l : List Outcome). get_or l x (o zero_thread)) (sym first) ∙ get_or-map o (set f.threads j r) x zero_thread)
    ∙ first

module _ {f : Few} {t : Table} (F : Front f t) where
  whole : length t.threads ≡ 32
  whole = F.checked.shaped.threads

  -- they are four
  pub four : length f.threads ≡ counted_threads
  four = ap length F.threads ∙ length-take-le 4 t.threads (omega (arith, whole))

  -- each is that of the table
  pub at_front : (k : ℕ) → k < counted_threads → get_or f.threads k zero_thread ≡ at t k
  unfolding at
  at_front k l = ap (λ (ts : List Thread). get_or ts k zero_thread) F.threads ∙ get_or-take 4 t.threads k zero_thread l

  -- so is each one's code
  code-front : (k : ℕ) → k < counted_threads → code_at (outcomes_in f) k ≡ (at t k).outcome.code
  code-front k l = ap (λ (o : Outcome). o.code) (get_or-map (λ (h : Thread). h.outcome) f.threads k zero_thread) ∙ ap (λ (h : Thread). h.outcome.code) (at_front k l)

  -- the outcomes of the four have codes of document 01, and the table's place
  pub coded-front : Coded f.n (outcomes_in f)
  coded-front = record {
    few = subst (λ (n : ℕ). n ≤ counted_threads) (sym F.size) F.few;
    coded = λ k below.
        let in_table = subst (λ (n : ℕ). k < n) F.size below in
        subst (λ (c : ℤ). is_code codes c ≡ true) (sym (code-front k (omega (arith, in_table, F.few)))) (coded t (checked-steps F.checked) k in_table);
  }

  pub place-front : place_from (code_at (outcomes_in f)) f.n 0 ≡ place_of t
  unfolding place_of
  place-front = ap (λ (n : ℕ). place_from (code_at (outcomes_in f)) n 0) F.size ∙ place_same _ _ t.n 0 (λ k l below. code-front k (omega (arith, F.few)))

-- ---- a step of one of them
module _ {f : Few} {t : Table} (F : Front f t) where
  module _ (x : ℕ) (below : x < f.n) where
    in_table : x < t.n
    in_table = subst (λ (n : ℕ). x < n) F.size below

    pub in_four : x < 4
    in_four = omega (arith, in_table, F.few)

    formed : Formed t.n (at t)
    formed = (checked-steps F.checked).formed

    -- the stepped thread
    abbrev own : Thread
    own = get_or f.threads x zero_thread

    own-front : own ≡ at t x
    own-front = at_front F x in_four

    -- its queue is not too long
    pub queue-front : own.queue.len ≤ 32
    queue-front = subst (λ (h : Thread). h.queue.len ≤ 32) (sym own-front) (queue-small (formed.own x in_table))

    -- a state with this table, in which the step is not refused
    abbrev zeros : State
    zeros = state t (replicate (8 * t.n) 0)

    accepted : refusal (step x) zeros ≡ 0
    accepted = step-accepted zeros F.checked.formed x in_table (length-replicate (8 * t.n) 0)

    -- the table after the step is checked
    after-checked : Checked (after_step x t)
    after-checked = subst Checked (step_any_store t x _ accepted) (keeps_checked (step x) zeros F.checked)

    module _ (o : Option ℕ) (j : ℕ) (finds : o ≡ partner own) (reads : j ≡ unwrap_or o x) where
      finds-front : o ≡ partner (at t x)
      finds-front = finds ∙ ap partner own-front

      -- the thread that is read as the other one, by the definition
      is : j ≡ unwrap_or (partner (at t x)) x
      is = reads ∙ ap (λ (k : Option ℕ). unwrap_or k x) finds-front

      other-in-table : j < t.n
      other-in-table = subst (λ (k : ℕ). k < t.n) (sym is) (place-below t formed x in_table)

      pub other-in-four : j < 4
      other-in-four = omega (arith, other-in-table, F.few)

      other-front : get_or f.threads j zero_thread ≡ at t j
      other-front = at_front F j other-in-four

      -- so a step on the two threads has what it relies on
      pub fits-front : Fit o own
      fits-front = subst (Fit o) (sym own-front) (fits-here x zeros accepted F.checked.shaped o j finds-front reads)

      -- it decides what the table's step decides
      decides : decide t x ≡ decide_here x (at t x) (at t j)
      unfolding decide decide_here lock_free
      decides = by (lock_free (at t x))
          (λ free. let unowned = eqb-true (at t x).owner nobody free in
          decision t formed x in_table unowned ∙ sym (here-free x (at t x) (at t (unwrap_or (partner (at t x)) x)) unowned) ∙ ap (λ (k : ℕ). decide_here x (at t x) (at t k)) (sym is))
          (λ held. cond-false _ _ _ held ∙ sym (cond-false _ _ _ held))

      -- a send part that ends had its sender in the other thread's queue
      pub waits_front : (e : Ending) (c : Change) → c.ending ≡ Some e → Acted (decide_here x own (get_or f.threads j zero_thread)) x own (get_or f.threads j zero_thread) c → ends_send e ≡ true → Waits x (get_or f.threads j zero_thread)
      waits_front e c ends acted sends =
          let free = not-held x own (get_or f.threads j zero_thread) c acted e ends in
          subst (Waits x) (sym other-front) (ending-waits x zeros accepted F.checked.shaped o j finds-front reads (subst (λ (h : Thread). h.owner ≡ nobody) own-front free) e c ends
          (subst (λ (h : Thread). Acted (decide_in (phase_of h.phase) x h (at t j)) x h (at t j) c) own-front (subst (λ (r : Thread). Acted (decide_in (phase_of own.phase) x own r) x own r c) other-front
          (subst (λ (a : Action). Acted a x own (get_or f.threads j zero_thread) c) (here-free x own (get_or f.threads j zero_thread) free) acted))) sends)

      module _ {mine theirs : Thread} (L : Leaves x own (get_or f.threads j zero_thread) mine theirs) where
        abbrev does : Action
        does = decide_here x (at t x) (at t j)

        -- both threads of the table
        leaves-front : Leaves x (at t x) (at t j) mine theirs
        leaves-front = subst (λ (h : Thread). Leaves x h (at t j) mine theirs) own-front (subst (λ (r : Thread). Leaves x own r mine theirs) other-front L)

        -- put back, they are the table after the step
        back : put x mine (put j theirs t) ≡ after_step x t
        unfolding after_step
        back =
            ap (λ (h : Thread). put x h (put j theirs t)) leaves-front.own
            ∙ ap (λ (r : Thread). put x (own_after does (at t x)) (put j r t)) leaves-front.other
            ∙ ap (λ (k : ℕ). put x (own_after does (at t x)) (put k (other_after does x (at t x) (at t k)) t)) is
            ∙ put_back t formed x in_table does (whole F)
            ∙ ap (λ (a : Action). act a x t) (sym decides)

        -- so are the four
        pub front-after : (p : ℕ) → Front (put_both x mine j theirs p f) (after_step x t)
        unfolding put
        front-after p = record {
          checked = after-checked;
          few = subst (λ (n : ℕ). n ≤ 4) (sym (step-size t x)) F.few;
          size = F.size ∙ sym (step-size t x);
          threads =
              ap (λ (ts : List Thread). set (set ts j theirs) x mine) F.threads
              ∙ ap (λ (ts : List Thread). set ts x mine) (sym (take-set-lt 4 t.threads j theirs other-in-four))
              ∙ sym (take-set-lt 4 (set t.threads j theirs) x mine in_four)
              ∙ ap (λ (u : Table). take 4 u.threads) back;
        }

        -- their outcomes have codes of document 01
        pub coded-ended : Coded f.n (outcomes_with f x mine j theirs)
        coded-ended = subst (Coded f.n) (outcomes-both x j mine theirs 0 f) (coded-front (front-after 0))

        -- and the place of the table after the step
        pub leads-ended : (p : ℕ) → p ≡ place_from (code_at (outcomes_with f x mine j theirs)) f.n 0 → p ≡ place_of (after_step x t)
        leads-ended p placed = placed ∙ ap (λ (l : List Outcome). place_from (code_at l) f.n 0) (sym (outcomes-both x j mine theirs 0 f)) ∙ place-front (front-after 0)

        pub whole-ended : (p : ℕ) → p ≡ place_from (code_at (outcomes_with f x mine j theirs)) f.n 0 → Whole (put_both x mine j theirs p f) (after_step x t)
        whole-ended p placed = record { front = front-after p; place = leads-ended p placed }

      -- a step that ends nothing leads to the same place
      module _ (c : Change) (L : Leaves x own (get_or f.threads j zero_thread) (own_changed c own) (other_changed c (get_or f.threads j zero_thread))) where
        same_place : place_of t ≡ place_of (after_step x t)
        unfolding own_changed other_changed
        same_place =
            sym (place-front F)
            ∙ ap (λ (l : List Outcome). place_from (code_at l) f.n 0) (sym (outcomes-same x j (own_changed c own) (other_changed c (get_or f.threads j zero_thread)) 0 f refl refl))
            ∙ place-front (front-after L 0)

        pub leads-on : f.place ≡ place_of t → f.place ≡ place_of (after_step x t)
        leads-on placed = placed ∙ same_place

        pub whole-changed : f.place ≡ place_of t → {mine theirs : Thread} → mine ≡ own_changed c own → theirs ≡ other_changed c (get_or f.threads j zero_thread) → Whole (put_both x mine j theirs f.place f) (after_step x t)
        whole-changed placed {mine} {theirs} own_is other-is =
            subst (λ (h : Thread). Whole (put_both x h j theirs f.place f) (after_step x t)) (sym own_is)
            (subst (λ (r : Thread). Whole (put_both x (own_changed c own) j r f.place f) (after_step x t)) (sym other-is) (record { front = front-after L f.place; place = leads-on placed }))

        -- by its answer it may leave the four as they were
        pub whole_same : f.place ≡ place_of t → Leaves x own (get_or f.threads j zero_thread) own (get_or f.threads j zero_thread) → Whole f (after_step x t)
        whole_same placed same = record {
          front = subst (λ (ts : List Thread). Front (record { n = f.n; threads = ts; place = f.place }) (after_step x t))
              (ap (λ (ts : List Thread). set ts x own) (set-get_or f.threads j zero_thread) ∙ set-get_or f.threads x zero_thread)
              (front-after same f.place);
          place = leads-on placed;
        }

-- the place of a table of at most four threads
pub place_in_counts : {f : Few} {t : Table} → Whole f t → f.place < count_places
place_in_counts {f} {t} W = subst (λ (p : ℕ). p < count_places) (sym W.place) (place-small t (checked-steps W.front.checked) W.front.few)
