-- A word as four bytes, "low byte first", and back.
use mathlib.Core.Path.{◌≡◌, refl, sym, ap, ◌∙◌}
use mathlib.Core.List.{List, [], ◌∷◌, ◌++◌, map, map-append, append_assoc, append-nil}
use Prim.Native.Nat.{ℕ, zero, suc, ◌+◌, ◌*◌, ◌/◌, ◌%◌, ◌≤◌, ◌<◌}
use native.Mathlib.Omega.{arith}
use native.Mathlib.Nat.{div-div-eq-div-mul}
use lib.ListN.{length, get_or, take, drop, length-drop}
use Rattle.laws.proofs.Schedule.{words-length}
use lib.Seq.{drop-append_seam, get_or-drop, drop-append-add, drop-drop, take_all, take-add}
use Rattle.model.specs.Lists.{concat, up_to}
use Rattle.model.specs.RecordBytes.{byte, word_at}
use Rattle.model.specs.Encoding.{word_bytes}
use Rattle.laws.proofs.Below.{take-up-to}
use Rattle.laws.proofs.Joined.{concat_snoc}
use Rattle.roundtrip.specs.Fits.{AllUnder, Bytes}
use Rattle.roundtrip.proofs.Lists.{drop-under, append-under, nil-under}

-- the word of the first four bytes
abbrev first_word : List ℕ → ℕ
first_word bytes = byte bytes 0 + 256 * byte bytes 1 + 65536 * byte bytes 2 + 16777216 * byte bytes 3

-- a word is put together again from its bytes
word_read : (word : ℕ) (rest : List ℕ) → word < 0x1_0000_0000 → first_word (word_bytes word ++ rest) ≡ word
unfolding word_bytes
word_read word rest small = rw (← div-div-eq-div-mul word 256 256, ← div-div-eq-div-mul word 65536 256) (omega arith)

-- bytes are the bytes of their word
word-written : (a b c d : ℕ) → a < 256 → b < 256 → c < 256 → d < 256 → word_bytes (a + 256 * b + 65536 * c + 16777216 * d) ≡ a ∷ b ∷ c ∷ d ∷ []
unfolding word_bytes
word-written a b c d i j k l =
    let word : ℕ = a + 256 * b + 65536 * c + 16777216 * d in
    let second : word / 256 ≡ b + 256 * c + 65536 * d = omega arith in
    let third : word / 65536 ≡ c + 256 * d = sym (div-div-eq-div-mul word 256 256) ∙ rw second (omega arith) in
    let fourth : word / 16777216 ≡ d = sym (div-div-eq-div-mul word 65536 256) ∙ rw third (omega arith) in
    let e0 : word % 256 ≡ a = omega arith in
    let e1 : word / 256 % 256 ≡ b = rw second (omega arith) in
    let e2 : word / 65536 % 256 ≡ c = rw third (omega arith) in
    let e3 : word / 16777216 % 256 ≡ d = rw fourth (omega arith) in
    rw (e0, e1, e2, e3) refl

-- the bytes of a word are bytes
pub word-bytes : (word : ℕ) → Bytes (word_bytes word)
unfolding word_bytes
word-bytes word zero = omega arith
word-bytes word (suc zero) = omega arith
word-bytes word (suc (suc zero)) = omega arith
word-bytes word (suc (suc (suc zero))) = omega arith
word-bytes word (suc (suc (suc (suc i)))) = omega arith

-- a byte of what is left past n bytes
byte_past : (n k m : ℕ) (bytes : List ℕ) → n + k ≡ m → byte (drop n bytes) k ≡ byte bytes m
byte_past n k m bytes e = get_or-drop n bytes k 0 ∙ ap (byte bytes) e

-- the i-th word stands past ten bytes and i words
word-place : (bytes : List ℕ) (i : ℕ) → word_at bytes i ≡ first_word (drop (10 + 4 * i) bytes)
unfolding word_at
word-place bytes i =
    let n : ℕ = 10 + 4 * i in
    rw (byte_past n 0 n bytes (omega arith), byte_past n 1 (11 + 4 * i) bytes (omega arith), byte_past n 2 (12 + 4 * i) bytes (omega arith), byte_past n 3 (13 + 4 * i) bytes (omega arith))

-- ---- words in a row
-- past a word comes what follows it
past_word : (word n : ℕ) (rest : List ℕ) → drop (4 + n) (word_bytes word ++ rest) ≡ drop n rest
unfolding word_bytes
past_word word n rest = drop-append-add (word_bytes word) rest n

-- past i words comes the i-th
words-past : (words rest : List ℕ) (i : ℕ) → i < length words → drop (4 * i) (concat (map word_bytes words) ++ rest) ≡ word_bytes (get_or words i 0) ++ (concat (map word_bytes (drop (suc i) words)) ++ rest)
unfolding concat
words-past [] rest i l = absurd (omega arith)
words-past (w ∷ words) rest zero l = append_assoc (word_bytes w) (concat (map word_bytes words)) rest
words-past (w ∷ words) rest (suc i) l =
    let e : 4 * suc i ≡ 4 + 4 * i = omega arith in
    rw (e, append_assoc (word_bytes w) (concat (map word_bytes words)) rest) (past_word w (4 * i) (concat (map word_bytes words) ++ rest) ∙ words-past words rest i (omega arith))

-- the bytes of words are bytes
pub words-bytes : (words : List ℕ) → Bytes (concat (map word_bytes words))
unfolding concat
words-bytes [] = nil-under 256 (omega arith)
words-bytes (w ∷ words) = append-under 256 (word_bytes w) (concat (map word_bytes words)) (word-bytes w) (words-bytes words)

-- words that were written past ten bytes are read
module _ (head words rest : List ℕ) (ten : length head ≡ 10) where
  abbrev written : List ℕ
  written = head ++ (concat (map word_bytes words) ++ rest)

  -- one of them
  word_of : (i : ℕ) → i < length words → get_or words i 0 < 0x1_0000_0000 → word_at written i ≡ get_or words i 0
  word_of i l u = word-place written i ∙ ap first_word (ap (λ (n : ℕ). drop (n + 4 * i) written) (sym ten) ∙ drop-append-add head (concat (map word_bytes words) ++ rest) (4 * i) ∙ words-past words rest i l)
      ∙ word_read (get_or words i 0) (concat (map word_bytes (drop (suc i) words)) ++ rest) u

  -- all of them
  pub words-read : (k : ℕ) → length words ≡ k → AllUnder 0x1_0000_0000 words → up_to k (word_at written) ≡ words
  words-read k long u = sym (take-up-to words 0 k (word_at written) (omega arith) (λ i l. sym (word_of i (omega arith) (u i)))) ∙ take_all k words (omega arith)

  -- the one behind them
  pub word-behind : (word : ℕ) → rest ≡ word_bytes word → word < 0x1_0000_0000 → (k : ℕ) → length words ≡ k → word_at written k ≡ word
  word-behind word e u k long =
      word-place written k ∙ ap first_word (ap (λ (n : ℕ). drop (n + 4 * k) written) (sym ten) ∙ drop-append-add head (concat (map word_bytes words) ++ rest) (4 * k)
      ∙ ap (λ (n : ℕ). drop n (concat (map word_bytes words) ++ rest)) (ap (λ (n : ℕ). 4 * n) (sym long) ∙ sym (words-length words)) ∙ drop-append_seam (concat (map word_bytes words)) rest ∙ e ∙ sym (append-nil (word_bytes word)))
      ∙ word_read word [] u

-- the first four bytes, one by one
pub four_bytes : (bytes : List ℕ) → 4 ≤ length bytes → take 4 bytes ≡ byte bytes 0 ∷ byte bytes 1 ∷ byte bytes 2 ∷ byte bytes 3 ∷ []
unfolding up_to
four_bytes bytes long = take-up-to bytes 0 4 (byte bytes) long (λ j l. refl)

-- they are those of their word
first-written : (bytes : List ℕ) → Bytes bytes → 4 ≤ length bytes → word_bytes (first_word bytes) ≡ take 4 bytes
first-written bytes u long = word-written (byte bytes 0) (byte bytes 1) (byte bytes 2) (byte bytes 3) (u 0) (u 1) (u 2) (u 3) ∙ sym (four_bytes bytes long)

-- words that were read past ten bytes are written
pub words-written : (bytes : List ℕ) → Bytes bytes → (k : ℕ) → 10 + 4 * k ≤ length bytes → concat (map word_bytes (up_to k (word_at bytes))) ≡ take (4 * k) (drop 10 bytes)
unfolding concat up_to
words-written bytes u zero long = refl
words-written bytes u (suc k) long =
    let e : 4 * suc k ≡ 4 * k + 4 = omega arith in
    rw (e, take-add (4 * k) 4 (drop 10 bytes), map-append, concat_snoc, words-written bytes u k (omega arith), drop-drop (4 * k) 10 bytes, word-place)
    (ap (λ q. take (4 * k) (drop 10 bytes) ++ q) (first-written (drop (10 + 4 * k) bytes) (drop-under 256 (10 + 4 * k) bytes u) (rw length-drop (omega arith))))

-- a word of bytes is within 32 bits
pub word_small : (bytes : List ℕ) → Bytes bytes → (i : ℕ) → word_at bytes i < 0x1_0000_0000
unfolding word_at
word_small bytes u i = omega (arith, u (10 + 4 * i), u (11 + 4 * i), u (12 + 4 * i), u (13 + 4 * i))
