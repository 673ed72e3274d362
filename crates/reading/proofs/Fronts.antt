-- The record at the front of bytes that may go on past it: what it reads is read from the bytes, and what makes it lawful.
use mathlib.Core.Path.{◌≡◌, refl, sym, ◌∙◌}
use mathlib.Core.Logic.{◌≢◌}
use mathlib.Core.Bool.{Bool, true, false, beq, ◌&&◌, ◌||◌, and-true, and-false, false≢true}
use mathlib.Core.List.{List, [], ◌∷◌}
use Prim.Native.Nat.{ℕ, ◌+◌, ◌*◌, ◌≤◌, ◌<◌}
use native.Mathlib.Omega.{arith}
use lib.ListN.{length, take}
use lib.Seq.{length-take-le, take_all}
use Rattle.std.proofs.lemmas.List.{get_or-take}
use lib.Dec.{eqb, leb, ltb}
use borrow.Author.Tests.{ltb-true, eqb-true, eq-eqb, ne_eqb, le-leb, lt-leb, leb-true, leb-false}
use Rattle.model.specs.declared.Receive.{Receive}
use Rattle.model.specs.Lists.{implies, all_of}
use Rattle.model.specs.RecordBytes.{table_kind, begin_kind, set_kind, is_begin, record_length, byte, kind_byte, count_byte, word_at, set_word, lawful_begin, lawful_set, lawful}
use Rattle.model.specs.Decoding.{operation_of, set_operation_of, operation_by, front}
use Rattle.model.proofs.Laws.{by, same?, and_left, all_of-read}
use Rattle.laws.proofs.Below.{up_to-alike, all-below-alike}
use Rattle.laws.proofs.Schedule.{by_kind, no-begin, no-set, must_set, front-kind, record_begin, record_set, front-byte, head_byte, front-thread}
use Rattle.reading.specs.Heads.{lawful_head}
use Rattle.reading.proofs.Begins.{word_lawful}

-- ---- the two kinds of a begin
-- a begin has 42 bytes or more
pub begin-long : (kind : ℕ) → is_begin kind ≡ true → 42 ≤ record_length kind
begin-long kind b = same? kind begin_kind (λ e. omega (arith, record_begin kind e)) (λ d. omega (arith, record_set kind (must_set kind b d)))

-- its set is lawful, where it has one
with_set : (kind : ℕ) → is_begin kind ≡ true → (lawfully : Bool) → implies (eqb kind set_kind) lawfully ≡ (eqb kind begin_kind || lawfully)
unfolding implies is_begin
with_set kind b lawfully = same? kind begin_kind (λ e. rw e refl) (λ d. rw (must_set kind b d) refl)

-- ---- what is read
-- bytes with the same first 42
abbrev Alike : List ℕ → List ℕ → Type 0
Alike p q = (i : ℕ) → i < 42 → byte p i ≡ byte q i

-- bytes with the same bytes at its place have the same word
word-alike : (p q : List ℕ) (i : ℕ) → ((k : ℕ) → k < 14 + 4 * i → byte p k ≡ byte q k) → word_at p i ≡ word_at q i
unfolding word_at
word-alike p q i h = rw (h (10 + 4 * i) (omega arith), h (11 + 4 * i) (omega arith), h (12 + 4 * i) (omega arith), h (13 + 4 * i) (omega arith)) refl

module _ (p q : List ℕ) (h : Alike p q) where
  -- have the same eight words
  words-alike : (i : ℕ) → i < 8 → word_at p i ≡ word_at q i
  words-alike i l = word-alike p q i (λ k m. h k (omega arith))

  -- the same byte at each place that is written out
  byte-alike : (i : ℕ) → ltb i 42 ≡ true → byte p i ≡ byte q i
  byte-alike i l = h i (ltb-true i 42 l)

  -- the same operation
  operation-alike : operation_of p ≡ operation_of q
  unfolding operation_of
  operation-alike = simp (byte-alike, up_to-alike 8 (word_at p) (word_at q) words-alike)

  -- with a set too, where that is the same
  set-operation-alike : set_word p ≡ set_word q → set_operation_of p ≡ set_operation_of q
  unfolding set_operation_of
  set-operation-alike e = rw (operation-alike, e, byte-alike 9 refl) refl

  -- and are a lawful begin together
  begin-alike : lawful_begin p ≡ lawful_begin q
  unfolding lawful_begin
  begin-alike = simp (byte-alike, all-below-alike 8 (word_lawful p (count_byte q)) (word_lawful q (count_byte q)) (λ i l. rw (words-alike i l) refl))

  -- and lawful with a set
  set-alike : lawful_set p ≡ lawful_set q
  unfolding lawful_set
  set-alike = simp byte-alike

module _ (bytes : List ℕ) where
  -- the bytes of a record of 42 or more are those of the bytes
  long-front : 42 ≤ record_length (kind_byte bytes) → Alike (front bytes) bytes
  long-front long i l = front-byte bytes i (omega arith)

  -- and the operation, by its kind
  pub front-operation : operation_by (kind_byte bytes) (front bytes) ≡ operation_by (kind_byte bytes) bytes
  unfolding operation_by
  front-operation = by_kind (kind_byte bytes)
      (λ e. rw (e, operation-alike (front bytes) bytes (long-front (omega (arith, record_begin (kind_byte bytes) e)))) refl)
      (λ e. let long = record_set (kind_byte bytes) e in
      rw (e, set-operation-alike (front bytes) bytes (long-front (omega arith)) (word-alike (front bytes) bytes 8 (λ i l. front-byte bytes i (omega arith)))) refl)
      (λ d e. rw (ne_eqb _ _ d, ne_eqb _ _ e) refl)

  -- the first 42 bytes are the bytes of a begin
  first-bytes : Alike (take 42 bytes) bytes
  first-bytes i l = get_or-take 42 bytes i 0 l

  -- lawful as the bytes are
  pub first-begin : lawful_begin (take 42 bytes) ≡ lawful_begin bytes
  first-begin = begin-alike (take 42 bytes) bytes first-bytes

  pub first-set : lawful_set (take 42 bytes) ≡ lawful_set bytes
  first-set = set-alike (take 42 bytes) bytes first-bytes

  -- with the same operation; with a set it is in the first 46
  pub first-operation : operation_of (take 42 bytes) ≡ operation_of bytes
  first-operation = operation-alike (take 42 bytes) bytes first-bytes

  first-set_operation : set_operation_of (take 46 bytes) ≡ set_operation_of bytes
  first-set_operation = set-operation-alike (take 46 bytes) bytes (λ i l. get_or-take 46 bytes i 0 (omega arith)) (word-alike (take 46 bytes) bytes 8 (λ i l. get_or-take 46 bytes i 0 (omega arith)))

-- so is the receive part that is read from there
pub first-receive : (bytes first : List ℕ) (r : Receive) → first ≡ take 46 bytes → r ≡ (set_operation_of first).receive → r ≡ (set_operation_of bytes).receive
first-receive bytes first r e read = read ∙ rw (e, first-set_operation bytes) refl

-- ---- what is lawful
-- the tests of lawful bytes in another order
regrouped : (a b k f n t g s : Bool) → all_of (a ∷ b ∷ k ∷ f ∷ n ∷ t ∷ g ∷ s ∷ []) ≡ (all_of (a ∷ b ∷ k ∷ f ∷ t ∷ []) && (n && (g && s)))
unfolding all_of
regrouped true true true true true true g s = simp and-true
regrouped true true true true true false g s = refl
regrouped true true true true false true g s = refl
regrouped true true true true false false g s = refl
regrouped true true true false n t g s = refl
regrouped true true false f n t g s = refl
regrouped true false k f n t g s = refl
regrouped false b k f n t g s = refl

module _ (bytes : List ℕ) where
  -- the record is whole where there are as many bytes
  front-whole : eqb (length (front bytes)) (record_length (kind_byte bytes)) ≡ leb (record_length (kind_byte bytes)) (length bytes)
  unfolding front
  front-whole = by (leb (record_length (kind_byte bytes)) (length bytes))
      (λ e. rw e (eq-eqb _ _ (length-take-le (record_length (kind_byte bytes)) bytes (leb-true _ _ e))))
      (λ e. let short : length bytes < record_length (kind_byte bytes) = leb-false _ _ e in rw (e, take_all (record_length (kind_byte bytes)) bytes (omega arith)) (ne_eqb (length bytes) (record_length (kind_byte bytes)) (λ s. omega arith)))

  -- a begin is lawful as the bytes are
  front-begin : implies (is_begin (kind_byte bytes)) (lawful_begin (front bytes)) ≡ implies (is_begin (kind_byte bytes)) (lawful_begin bytes)
  unfolding implies
  front-begin = by (is_begin (kind_byte bytes)) (λ e. rw (begin-alike (front bytes) bytes (long-front bytes (begin-long (kind_byte bytes) e))) refl) (λ e. rw e refl)

  -- so is one with a set
  front-set : implies (eqb (kind_byte bytes) set_kind) (lawful_set (front bytes)) ≡ implies (eqb (kind_byte bytes) set_kind) (lawful_set bytes)
  unfolding implies
  front-set = by (eqb (kind_byte bytes) set_kind) (λ e. rw (set-alike (front bytes) bytes (long-front bytes (omega (arith, record_set (kind_byte bytes) (eqb-true _ _ e))))) refl) (λ e. rw e refl)

  module _ (first : Bool) where
    -- the record is lawful by its head, its length and, of a begin, the rest
    lawful-front : lawful first (front bytes) ≡ (lawful_head first bytes && (leb (record_length (kind_byte bytes)) (length bytes) && (implies (is_begin (kind_byte bytes)) (lawful_begin bytes) && implies (eqb (kind_byte bytes) set_kind) (lawful_set bytes))))
    unfolding lawful lawful_head
    lawful-front = rw (head_byte bytes 0 (omega arith), head_byte bytes 1 (omega arith), front-kind bytes, front-thread bytes, front-whole, front-begin, front-set) (regrouped _ _ _ _ _ _ _ _)

    -- one that is cut short is not lawful
    pub lawful_cut : length bytes < record_length (kind_byte bytes) → lawful first (front bytes) ≡ false
    lawful_cut short = lawful-front ∙ rw (lt-leb (record_length (kind_byte bytes)) (length bytes) short) (and-false (lawful_head first bytes))

    -- one whose head is not lawful is not either
    pub lawful-no-head : lawful_head first bytes ≡ false → lawful first (front bytes) ≡ false
    lawful-no-head e = lawful-front ∙ rw e refl

    module _ (head : lawful_head first bytes ≡ true) where
      -- one that is whole, and no begin, is lawful by its head
      pub lawful-other : 4 ≤ length bytes → is_begin (kind_byte bytes) ≡ false → lawful first (front bytes) ≡ true
      unfolding implies record_length is_begin
      lawful-other long d = lawful-front ∙ rw (head, no-begin (kind_byte bytes) d, no-set (kind_byte bytes) d, le-leb 4 (length bytes) long) refl

      -- a begin that is whole by its head and the rest
      pub lawful-whole : record_length (kind_byte bytes) ≤ length bytes → is_begin (kind_byte bytes) ≡ true → lawful first (front bytes) ≡ (lawful_begin bytes && (eqb (kind_byte bytes) begin_kind || lawful_set bytes))
      unfolding implies
      lawful-whole long e = lawful-front ∙ rw (head, le-leb (record_length (kind_byte bytes)) (length bytes) long, e, with_set (kind_byte bytes) e (lawful_set bytes)) refl

    module _ (e : lawful first (front bytes) ≡ true) where
      -- the head of a lawful record is lawful
      head_of_lawful : lawful_head first bytes ≡ true
      head_of_lawful = and_left (lawful_head first bytes) _ (sym lawful-front ∙ e)

      -- its kind is one of those there are, and the table's exactly if it is the first
      kind-lawful : (leb (kind_byte bytes) set_kind ≡ true) × (beq first (eqb (kind_byte bytes) table_kind) ≡ true)
      unfolding lawful_head
      kind-lawful = let tests = (all_of-read _ head_of_lawful).1.1 in (tests.0, tests.1.0)

      -- so it is at most the last
      pub lawful-kind : kind_byte bytes ≤ set_kind
      lawful-kind = leb-true _ _ kind-lawful.0

  -- a lawful record that is not the first makes no table
  pub lawful-later : lawful false (front bytes) ≡ true → kind_byte bytes ≢ table_kind
  lawful-later e is = absurd (false≢true (rw (eq-eqb (kind_byte bytes) table_kind is) at (kind-lawful false e).1))
