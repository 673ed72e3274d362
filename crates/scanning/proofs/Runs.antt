-- Runs of bytes that pass a test: how a loop finds the end of one, and what a run of blanks, a word and a line tell of the bytes.
use mathlib.Core.Path.{◌≡◌, refl, sym, ap, ◌∙◌}
use mathlib.Core.Bool.{Bool, true, false, ◌&&◌}
use mathlib.Core.List.{List, [], ◌∷◌, ◌++◌}
use Prim.Native.Nat.{ℕ, suc, ◌+◌, ◌-◌, ◌≤◌, ◌<◌}
use native.Mathlib.Omega.{arith}
use lib.Dec.{eqb, ltb}
use lib.Pointwise.{pointwise}
use Rattle.std.specs.List.{ends_with}
use Rattle.model.specs.Lists.{same_numbers}
use lib.ListN.{length, take, drop, get_or, length-take, length-drop, take-append-drop, drop_of_length-le}
use lib.Seq.{take_all, take-length, take-suc, drop-cons, drop-drop, get_or-drop}
use borrow.Author.Tests.{eqb-true, eqb-false, eq-eqb, ne_eqb, ltb-true, ltb-false, not-false}
use Rattle.model.proofs.Laws.{by}
use Rattle.laws.proofs.Records.{not-empty}
use Rattle.language.specs.Words.{newline, lines, without_return, is_blank, starts_word, words}
use Rattle.language.specs.Runs.{last_line}
use Rattle.language.proofs.Words.{each_none, each_more, words-none, words-blanks, words-word, lines-line, lines-last, return_kept, return_cut}
use Rattle.scanning.specs.Scanned.{between, Passing, Run, of_word, of_line, Found, LineEnd, Shortened}

-- ---- bytes between two places
-- with what stands behind them they are the rest
pub between-rest : (bytes : List ℕ) (from stop : ℕ) → from ≤ stop → between from stop bytes ++ drop stop bytes ≡ drop from bytes
between-rest bytes from stop le =
    let there : from + (stop - from) ≡ stop = omega arith in
    let same : drop (stop - from) (drop from bytes) ≡ drop stop bytes = drop-drop (stop - from) from bytes ∙ ap (λ (k : ℕ). drop k bytes) there in
    ap (λ (l : List ℕ). between from stop bytes ++ l) (sym same) ∙ take-append-drop (stop - from) (drop from bytes)

-- one byte more
pub between_more : (bytes : List ℕ) (from stop : ℕ) → from ≤ stop → stop < length bytes → between from (stop + 1) bytes ≡ between from stop bytes ++ (get_or bytes stop 0 ∷ [])
between_more bytes from stop le lt =
    let next : stop + 1 - from ≡ suc (stop - from) = omega arith in
    let there : from + (stop - from) ≡ stop = omega arith in
    let inside : stop - from < length (drop from bytes) = simp length-drop (omega arith) in
    rw (next, take-suc (drop from bytes) (stop - from) 0 inside, get_or-drop from bytes (stop - from) 0, there)

-- there are as many as the places say
pub between-length : (bytes : List ℕ) (from stop : ℕ) → from ≤ stop → stop ≤ length bytes → length (between from stop bytes) ≡ stop - from
between-length bytes from stop le lt = simp (length-take, length-drop) (omega arith)

-- ---- a run
module _ (test : ℕ → Bool) (bytes : List ℕ) (from : ℕ) where
  -- it starts with no byte
  pub passing-start : from ≤ length bytes → Passing test bytes from from
  passing-start le = let none : from - from ≡ 0 = omega arith in record { after = omega arith; within = le; pass = rw none (each_none test) }

  -- one byte more
  pub passing-more : {stop : ℕ} → Passing test bytes from stop → stop < length bytes → test (get_or bytes stop 0) ≡ true → Passing test bytes from (stop + 1)
  passing-more {stop} p lt t = record {
    after = omega arith;
    within = omega arith;
    pass = rw (between_more bytes from stop p.after lt) (each_more test _ _ p.pass t);
  }

  -- it ends at a byte that does not pass
  pub run-here : {stop : ℕ} → Passing test bytes from stop → test (get_or bytes stop 0) ≡ false → Run test bytes from stop
  run-here p t = record { passing = p; stops = λ _. t }

  -- or where the bytes end
  pub run_end : {stop : ℕ} → Passing test bytes from stop → length bytes ≤ stop → Run test bytes from stop
  run_end p le = record { passing = p; stops = λ lt. absurd (omega arith) }

-- ---- words
-- behind a word stands nothing or a blank
word-ends : (line : List ℕ) (from stop : ℕ) → Run of_word line from stop → starts_word (drop stop line) ≡ false
unfolding starts_word
word-ends line from stop r = by (ltb stop (length line))
    (λ e. let lt = ltb-true _ _ e in rw (drop-cons line stop 0 lt) (r.stops lt))
    (λ e. rw (drop_of_length-le line (ltb-false _ _ e)))

module _ (line : List ℕ) (from start end : ℕ) (blanks : Run is_blank line from start) (word : Run of_word line start end) where
  -- blanks make no difference to the words behind them
  skipped : words (drop from line) ≡ words (drop start line)
  skipped = ap words (sym (between-rest line from start blanks.passing.after)) ∙ words-blanks _ _ blanks.passing.pass

  -- a word that is empty stands at the end
  at-end : start ≡ end → words (drop start line) ≡ []
  at-end e = by (ltb start (length line))
      (λ t. let lt = ltb-true _ _ t in
      let blank = rw (sym e) at (word.stops (rw (sym e) lt)) in
      let clash : true ≡ false = sym (not-false _ blank) ∙ blanks.stops lt in cc)
      (λ t. rw (drop_of_length-le line (ltb-false _ _ t)) words-none)

  -- another is the first
  first_word : (start ≡ end → ⊥) → words (drop start line) ≡ between start end line ∷ words (drop end line)
  first_word d =
      let inside : 0 < length (between start end line) = rw (between-length line start end word.passing.after word.passing.within) (omega (arith, word.passing.after)) in
      ap words (sym (between-rest line start end word.passing.after))
      ∙ words-word _ _ (not-empty (between start end line) inside) word.passing.pass (word-ends line start end word)

  -- so the first word from a place on is found
  pub word-found : Found line from start end
  word-found = record {
    after = blanks.passing.after;
    ordered = word.passing.after;
    within = word.passing.within;
    found = by (eqb start end) (λ e. rw e (skipped ∙ at-end (eqb-true _ _ e))) (λ e. rw e (skipped ∙ first_word (eqb-false _ _ e)));
  }

module _ (line : List ℕ) (from start end : ℕ) (f : Found line from start end) where
  -- no word is found
  pub found_none : start ≡ end → words (drop from line) ≡ []
  found_none e = rw (eq-eqb start end e) at f.found

  -- or one is
  pub found_word : (start ≡ end → ⊥) → words (drop from line) ≡ between start end line ∷ words (drop end line)
  found_word d = rw (ne_eqb start end d) at f.found

-- ---- lines
module _ (bytes : List ℕ) (from stop : ℕ) (r : Run of_line bytes from stop) where
  -- what ends a line stands behind it
  line-ended : stop < length bytes → lines (drop from bytes) ≡ between from stop bytes ∷ lines (drop (suc stop) bytes)
  line-ended lt =
      let newline-there = eqb-true (get_or bytes stop 0) newline (not-false _ (r.stops lt)) in
      let behind : drop stop bytes ≡ newline ∷ drop (suc stop) bytes = rw newline-there at (drop-cons bytes stop 0 lt) in
      ap lines (sym (rw behind at (between-rest bytes from stop r.passing.after))) ∙ lines-line _ _ r.passing.pass

  -- or nothing does
  line-unended : stop ≡ length bytes → lines (drop from bytes) ≡ last_line (drop from bytes)
  line-unended e =
      let whole : between from stop bytes ≡ drop from bytes = take_all (stop - from) (drop from bytes) (simp length-drop (omega arith)) in
      lines-last (drop from bytes) (rw whole at r.passing.pass)

  -- the end of a line is found
  pub line-found : LineEnd bytes from stop
  line-found = record { after = r.passing.after; within = r.passing.within; whole = r.passing.pass; ended = line-ended; unended = line-unended }

-- ---- the end of a line
module _ (line : List ℕ) (some : 0 < length line) where
  -- a line is its bytes but the last, and that
  all_but_last : line ≡ take (length line - 1) line ++ (get_or line (length line - 1) 0 ∷ [])
  all_but_last =
      let last : suc (length line - 1) ≡ length line = omega arith in
      sym (take-length line) ∙ ap (λ (k : ℕ). take k line) (sym last) ∙ take-suc line (length line - 1) 0 (omega arith)

  -- it ends with a CR where the last is one
  last-byte : ends_with eqb line (13 ∷ []) ≡ eqb 13 (get_or line (length line - 1) 0)
  last-byte =
      let inside : length line - 1 < length line = omega arith in
      let behind : drop (suc (length line - 1)) line ≡ [] = drop_of_length-le line {i = suc (length line - 1)} (omega arith) in
      rw (drop-cons line (length line - 1) 0 inside, behind) (by (eqb 13 (get_or line (length line - 1) 0)) (λ e. rw e) (λ e. rw e))

-- a CR is left out
pub shortened_return : (line : List ℕ) → 1 ≤ length line → ends_with eqb line (13 ∷ []) ≡ true → Shortened line (length line - 1)
shortened_return line some e =
    let last : get_or line (length line - 1) 0 ≡ 13 = sym (eqb-true _ _ (sym (last-byte line (omega arith)) ∙ e)) in
    record { within = omega arith; front = sym (ap without_return (rw last at (all_but_last line (omega arith))) ∙ return_cut _) }

-- another line stays
pub shortened_other : (line : List ℕ) → ends_with eqb line (13 ∷ []) ≡ false → Shortened line (length line)
unfolding without_return
shortened_other [] e = record { within = omega arith; front = refl }
shortened_other (byte ∷ front) e =
    let line : List ℕ = byte ∷ front in
    let some : 0 < length line = omega arith in
    let other : get_or line (length line - 1) 0 ≡ 13 → ⊥ = λ z. eqb-false _ _ (sym (last-byte line some) ∙ e) (sym z) in record {
      within = omega arith;
      front = take-length line ∙ sym (ap without_return (all_but_last line some) ∙ return_kept (take (length line - 1) line) _ other ∙ sym (all_but_last line some));
    }

-- ---- words that are compared
-- they are the same where each byte is
pub same-pointwise : (word name : List ℕ) → pointwise eqb word name ≡ same_numbers word name
unfolding same_numbers
same-pointwise [] [] = refl
same-pointwise [] (b ∷ name) = refl
same-pointwise (a ∷ word) [] = refl
same-pointwise (a ∷ word) (b ∷ name) = ap (λ (later : Bool). eqb a b && later) (same-pointwise word name)
