-- Words put into the bytes of a begin one after the other, low byte first, and a set behind them.
use mathlib.Core.Path.{◌≡◌, refl, sym, ◌∙◌, subst}
use mathlib.Core.List.{List, [], ◌∷◌, ◌++◌, map, append-nil, append_assoc}
use Prim.Native.Nat.{ℕ, zero, suc, ◌+◌, ◌*◌, ◌≤◌, ◌<◌}
use native.Mathlib.Numerals.{add-one}
use native.Mathlib.Omega.{arith}
use lib.ListN.{length, get_or, take, drop, set, length-append, take-append-drop, drop_of_length-le, replicate}
use lib.Seq.{length-take-le, take_all, take_at, drop-append-add, drop-drop}
use Rattle.model.specs.Lists.{concat}
use Rattle.model.specs.Encoding.{word_bytes}
use Rattle.laws.proofs.Schedule.{words-length}

-- ---- several
-- the bytes of words, one after the other
abbrev pub bytes_of : List ℕ → List ℕ
bytes_of words = concat (map word_bytes words)

-- those of one word more come behind
bytes-more : (words : List ℕ) (i : ℕ) → i < length words → bytes_of (take i words) ++ word_bytes (get_or words i 0) ≡ bytes_of (take (suc i) words)
unfolding concat
bytes-more [] i h = absurd (omega arith)
bytes-more (a ∷ l) zero h = sym (append-nil (word_bytes a))
bytes-more (a ∷ l) (suc i) h = append_assoc (word_bytes a) (bytes_of (take i l)) _ ∙ rw (bytes-more l i (omega arith)) refl

-- where p stands in the place of the first n of q, q past them is as it was
drop_past : (p q : List ℕ) (n k : ℕ) → length p ≡ n → drop (n + k) (p ++ drop n q) ≡ drop (n + k) q
drop_past p q n k e = subst (λ (m : ℕ). drop (m + k) (p ++ drop m q) ≡ drop (m + k) q) e (drop-append-add p (drop (length p) q) k ∙ drop-drop k (length p) q)

-- ---- the words of a begin, from place 10 on
-- the bytes when the first i words are put
unfoldable pub words_put : List ℕ → List ℕ → ℕ → List ℕ
words_put bytes words i = take 10 bytes ++ bytes_of (take i words) ++ drop (10 + 4 * i) bytes

module _ (bytes words : List ℕ) (room : 42 ≤ length bytes) (eight : length words ≡ 8) where
  -- at first none is
  pub none-put : bytes ≡ words_put bytes words 0
  unfolding words_put concat
  none-put = sym (rw append-nil (take-append-drop 10 bytes))

  -- one more
  pub more-put : (i : ℕ) → i < 8 → take (10 + 4 * i) (words_put bytes words i) ++ word_bytes (get_or words i 0) ++ drop (10 + 4 * i + 4) (words_put bytes words i) ≡ words_put bytes words (i + 1)
  unfolding words_put
  more-put i h =
      let next : 10 + 4 * i + 4 ≡ 10 + 4 * (i + 1) = omega arith in
      rw (take_at before (drop (10 + 4 * i) bytes) (10 + 4 * i) long, drop_past before bytes (10 + 4 * i) 4 long, next, append_assoc (take 10 bytes) (bytes_of (take i words)) (word_bytes (get_or words i 0)), bytes-more words i (omega arith), add-one i) refl
    where
      before : List ℕ
      before = take 10 bytes ++ bytes_of (take i words)

      long : length before ≡ 10 + 4 * i
      long = omega (arith, length-append (take 10 bytes) (bytes_of (take i words)), length-take-le 10 bytes (omega arith), words-length (take i words), length-take-le i words (omega arith))

  -- at last all eight are
  pub all-put : words_put bytes words 8 ≡ take 10 bytes ++ bytes_of words ++ drop 42 bytes
  unfolding words_put
  all-put = rw (take_all 8 words (omega arith)) refl

-- ---- the set behind them
-- a set put over the last four of 46 bytes
pub set-put : (before put : List ℕ) (set : ℕ) → length before ≡ 42 → put ≡ before ++ replicate 4 0 → take 42 put ++ word_bytes set ++ drop 46 put ≡ before ++ word_bytes set
set-put before put set long is = rw (is, take_at before (replicate 4 0) 42 long, drop_of_length-le (before ++ replicate 4 0) {i = 46} (omega (arith, length-append before (replicate 4 0)))) (append-nil _)
