-- The words of a playback's store are the first of an array that is long enough for every table.
use mathlib.Core.Path.{◌≡◌, sym, ap, ◌∙◌}
use mathlib.Core.List.{List, ◌++◌}
use Prim.Native.Nat.{ℕ, ◌+◌, ◌-◌, ◌*◌, ◌≤◌}
use native.Mathlib.Omega.{arith}
use lib.ListN.{length, take, drop, replicate, length-append, length-drop, length-replicate, replicate-append-replicate}
use lib.Seq.{length-take-le, take-append_seam}
use Rattle.opening.specs.declared.Playback.{Playback}
use Rattle.opening.specs.Opened.{Steady}
use Rattle.playing.specs.Playback.{Carries}
use Rattle.played_text.proofs.Known.{steady-few}

-- the first `size` words of an array of 256 are the store of a playback that can go on
pub record Stored (t : Playback) (size : ℕ) (words : List ℕ) : Type 0 where
  pub steady : Steady t
  pub sized : size ≡ 8 * t.table.n
  pub array : length words ≡ 256

-- as many zeros
abbrev pub zeros : ℕ → List ℕ
zeros k = replicate k 0

-- an array of zeros is so
pub stored-first : (t : Playback) (size : ℕ) → Steady t → size ≡ 8 * t.table.n → Stored t size (zeros 256)
stored-first t size steady sized = record { steady = steady; sized = sized; array = length-replicate {A = ℕ} 256 0 }

module _ {t : Playback} {size : ℕ} {words : List ℕ} (S : Stored t size words) where
  -- there are at most as many words as the array has
  pub words-there : size ≤ 256
  words-there = omega (arith, steady-few t S.steady, S.sized)

  -- they are as many as the table asks for
  pub words-length : length (take size words) ≡ size
  words-length = length-take-le size words (omega (arith, words-there, S.array))

-- the first of many zeros
pub zeros-taken : (t : Playback) (size : ℕ) → Stored t size (zeros 256) → take size (zeros 256) ≡ zeros (8 * t.table.n)
zeros-taken t size S =
    let all : 256 ≡ size + (256 - size) = omega (arith, words-there S) in
    ap (λ (l : List ℕ). take size l) (ap zeros all ∙ sym (replicate-append-replicate size (256 - size) 0))
    ∙ ap (λ (k : ℕ). take k (zeros size ++ zeros (256 - size))) (sym (length-replicate size 0))
    ∙ take-append_seam (zeros size) (zeros (256 - size)) ∙ ap zeros S.sized

-- ---- after some records more
module _ {t : Playback} {size : ℕ} {words : List ℕ} (S : Stored t size words) (to : Playback) (store : List ℕ) (bytes : ℕ) (carries : Carries t bytes to store) where
  -- the words are as many as before
  words-kept : length store ≡ size
  words-kept = carries.words ∙ ap (λ (k : ℕ). 8 * k) carries.size ∙ sym S.sized

  -- and stand in the array again
  abbrev pub array : List ℕ
  array = store ++ drop size words

  -- whose first words are the store
  pub stored_on : Stored to size array
  stored_on = record {
    steady = carries.steady;
    sized = S.sized ∙ ap (λ (k : ℕ). 8 * k) (sym carries.size);
    array = length-append store (drop size words) ∙ omega (arith, length-drop size words, words-kept, words-there S, S.array);
  }

  -- they are what playing left
  pub array_starts : take size array ≡ store
  array_starts = ap (λ (k : ℕ). take k array) (sym words-kept) ∙ take-append_seam store (drop size words)
