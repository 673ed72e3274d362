-- Counts of the targets of a range, and of the rows of one sender.
use mathlib.Core.Path.{◌≡◌, refl, sym, ap, ◌∙◌}
use mathlib.Core.Logic.{◌⊎◌, ⊎_elim}
use mathlib.Core.Bool.{true, false, ◌&&◌, and-false}
use mathlib.Core.List.{List}
use Prim.Native.Nat.{ℕ, ◌+◌, ◌≤◌, ◌<◌}
use native.Mathlib.Omega.{arith}
use lib.ListN.{length, get_or, set, take, replicate, length-set, get_or-replicate}
use lib.Seq.{get_or-set_same, get_or-set_other}
use lib.Dec.{leb, ltb}
use borrow.Author.Tests.{le-leb, lt-ltb, le-ltb, leb-true, ltb-true}
use Rattle.model.specs.declared.Range.{Range}
use Rattle.model.specs.declared.Rule.{Rule}
use Rattle.model.specs.Lists.{bit}
use Rattle.model.specs.Rules.{in_range, holds_pair, falls, zero_rule}
use Rattle.model.proofs.Laws.{by, same?, and_left, and_right, and-made}
use Rattle.laws.proofs.Tests.{same_test}
use Rattle.rules.specs.Covers.{count_at, Covers, RoomFor, OneMore}
use Rattle.rules.proofs.Rows.{falls-more, falls_bound}

-- ---- the targets of a range
-- those up to t are counted
pub record CountedTo (n : ℕ) (range : Range) (t : ℕ) (before after : List ℕ) : Type 0 where
  pub whole : length after ≡ 32
  pub started : range.from ≤ t
  pub inside : (r : ℕ) → range.from ≤ r → r < t → r ≤ range.to
  pub read : (r : ℕ) → r < n → count_at after r ≡ count_at before r + bit (leb range.from r && ltb r t)

module _ (n : ℕ) (range : Range) where
  -- none yet
  pub counted_none : (before : List ℕ) → length before ≡ 32 → CountedTo n range range.from before before
  counted_none before whole = record {
    whole = whole;
    started = omega arith;
    inside = λ r first before. absurd (omega arith);
    read = λ r l. by (leb range.from r)
        (λ e. let first = leb-true range.from r e in rw (e, le-ltb r range.from first) (omega arith))
        (λ e. rw e (omega arith));
  }

  module _ {t : ℕ} {before after : List ℕ} (C : CountedTo n range t before after) where
    -- the next one is not counted yet
    pub next-count : t < n → count_at after t ≡ count_at before t
    next-count l = C.read t l ∙ rw (le-ltb t t (omega arith), and-false (leb range.from t)) (omega arith)

    -- one more
    pub counted-more : n ≤ 32 → t < n → t ≤ range.to → CountedTo n range (t + 1) before (set after t (count_at after t + 1))
    counted-more few l within = record {
      whole = length-set after t (count_at after t + 1) ∙ C.whole;
      started = omega (arith, C.started);
      inside = λ r first last. same? r t (λ e. omega arith) (λ d. C.inside r first (omega arith));
      read = λ r rn. same? r t
          (λ e. rw e (get_or-set_same after t (count_at after t + 1) 0 (omega (arith, C.whole))
          ∙ ap (λ k. k + 1) (next-count l) ∙ rw (le-leb range.from t C.started, lt-ltb t (t + 1) (omega arith)) refl))
          (λ d. get_or-set_other after t r (count_at after t + 1) 0 d ∙ C.read r rn ∙ ap (λ b. count_at before r + bit (leb range.from r && b)) (same_test (ltb r t) (ltb r (t + 1))
          (λ e. lt-ltb r (t + 1) (omega (arith, ltb-true r t e)))
          (λ e. lt-ltb r t (omega (arith, ltb-true r (t + 1) e)))));
    }

    -- no more targets of the range are below n
    pub counted-all : (range.to < t) ⊎ (n ≤ t) → OneMore n (in_range range) before after
    unfolding in_range
    counted-all end = record {
      whole = C.whole;
      read = λ r rn. C.read r rn ∙ ap (λ b. count_at before r + bit b) (same_test _ _
          (λ e. let first = and_left (leb range.from r) (ltb r t) e in
          and-made (leb range.from r) (leb r range.to) first (le-leb r range.to (C.inside r (leb-true range.from r first) (ltb-true r t (and_right (leb range.from r) (ltb r t) e)))))
          (λ e. let last = leb-true r range.to (and_right (leb range.from r) (leb r range.to) e) in
          and-made (leb range.from r) (ltb r t) (and_left (leb range.from r) (leb r range.to) e) (lt-ltb r t (⊎_elim (λ over. omega arith) (λ over. omega arith) end))));
    }

-- ---- one row
module _ (n : ℕ) (row : Rule) (s : ℕ) (before : List ℕ) where
  -- the sender is in its range: its targets count
  pub row_counts : in_range row.senders s ≡ true → (after : List ℕ) → OneMore n (in_range row.targets) before after → OneMore n (holds_pair row s) before after
  unfolding holds_pair
  row_counts e after M = record { whole = M.whole; read = λ r rn. M.read r rn ∙ sym (rw e refl) }

  -- it is not: nothing counts
  pub row-counts-not : in_range row.senders s ≡ false → length before ≡ 32 → OneMore n (holds_pair row s) before before
  unfolding holds_pair
  row-counts-not e whole = record { whole = whole; read = λ r rn. rw e (omega arith) }

-- ---- the rows of one sender
module _ (n : ℕ) (rows : List Rule) (s : ℕ) where
  -- no row yet
  pub covers-none : n ≤ 32 → Covers n (take 0 rows) s (replicate 32 0)
  unfolding falls
  covers-none few = record { whole = refl; read = λ r l. get_or-replicate 32 r 0 0 (omega arith) }

  module _ (k : ℕ) {counts : List ℕ} (C : Covers n (take k rows) s counts) (l : k < length rows) where
    -- a count is at most the number of rows
    pub covers_room : k ≤ 64 → RoomFor n counts
    covers_room few = record { whole = C.whole; room = λ r rn. omega (arith, C.read r rn, falls_bound rows k s r) }

    -- the next row is counted
    pub covers_more : (after : List ℕ) → OneMore n (holds_pair (get_or rows k zero_rule) s) counts after → Covers n (take (k + 1) rows) s after
    covers_more after M = record {
      whole = M.whole;
      read = λ r rn. M.read r rn ∙ ap (λ c. c + bit (holds_pair (get_or rows k zero_rule) s r)) (C.read r rn) ∙ sym (falls-more rows k l s r);
    }
