-- Playing goes on record by record, with enough records allowed for.
use mathlib.Core.Path.{◌≡◌, sym, ap, ◌∙◌, subst}
use mathlib.Core.Bool.{true, false}
use mathlib.Core.List.{List}
use Prim.Native.Nat.{ℕ, zero, suc, ◌+◌, ◌<◌}
use native.Mathlib.Omega.{arith}
use lib.ListN.{length, drop}
use lib.Seq.{drop-drop}
use Rattle.model.specs.Decoding.{front, record_of}
use Rattle.model.specs.RecordBytes.{lawful}
use Rattle.model.specs.Bondtrace.{Tally, record_played}
use Rattle.model.proofs.Laws.{by}
use Rattle.laws.proofs.Lists.{cond-true, cond-false}
use Rattle.roundtrip.proofs.Reading.{enough}
use Rattle.pieces.specs.Playing.{Progress, whole_record, ahead, play_from, played_on}

-- what stands behind the front
abbrev pub behind : List ℕ → List ℕ
behind input = drop (length (front input)) input

-- the tally with the record at the front played
abbrev pub further : Tally → List ℕ → Tally
further p input = record_played (record_of (front input)) p

-- nothing is played of this input
abbrev pub stopped_at : Tally → List ℕ → Progress
stopped_at p input = record { tally = p; taken = 0; bad = whole_record input }

module _ (most : ℕ) (p : Tally) (input : List ℕ) where
  -- where no lawful record stands at the front, playing stops
  plays-none : lawful false (front input) ≡ false → play_from (suc most) p input ≡ stopped_at p input
  unfolding play_from
  plays-none e = cond-false _ _ _ e

  -- past a lawful record it goes on
  plays-one : lawful false (front input) ≡ true → play_from (suc most) p input ≡ ahead (length (front input)) (play_from most (further p input) (behind input))
  unfolding play_from
  plays-one e = cond-true _ _ _ e

-- any two bounds above the length of the input play the same
enough-allowed : (most more : ℕ) (p : Tally) (input : List ℕ) → length input < most → length input < more → play_from most p input ≡ play_from more p input
enough-allowed zero more p input h k = absurd (omega arith)
enough-allowed (suc most) zero p input h k = absurd (omega arith)
enough-allowed (suc most) (suc more) p input h k =
    by (lawful false (front input))
    (λ e. plays-one most p input e
    ∙ ap (ahead (length (front input))) (enough-allowed most more (further p input) (behind input) (enough most false 0 input e h) (enough more false 0 input e k))
    ∙ sym (plays-one more p input e))
    (λ e. plays-none most p input e ∙ sym (plays-none more p input e))

-- playing stops where no lawful record stands at the front
pub played-stops : (p : Tally) (input : List ℕ) → lawful false (front input) ≡ false → played_on p input ≡ stopped_at p input
unfolding played_on
played-stops p input e = plays-none (length input) p input e

-- a lawful record at the front is played, and playing goes on behind it
pub played-more : (p : Tally) (input : List ℕ) → lawful false (front input) ≡ true → played_on p input ≡ ahead (length (front input)) (played_on (further p input) (behind input))
unfolding played_on
played-more p input e =
    plays-one (length input) p input e
    ∙ ap (ahead (length (front input)))
    (enough-allowed (length input) (suc (length (behind input))) (further p input) (behind input) (enough (length input) false 0 input e (omega arith)) (omega arith))

-- ---- from the first byte on
-- no byte further
pub ahead_none : (q : Progress) → q ≡ ahead 0 q
unfolding ahead
ahead_none q = let none : q.taken ≡ 0 + q.taken = omega arith in λ i. record { tally = q.tally; taken = none i; bad = q.bad }

-- some bytes further, and some more
pub ahead-again : (k j : ℕ) (q : Progress) → ahead k (ahead j q) ≡ ahead (k + j) q
unfolding ahead
ahead-again k j q = let more : k + (j + q.taken) ≡ k + j + q.taken = omega arith in λ i. record { tally = q.tally; taken = more i; bad = q.bad }

-- the first k bytes of an input were played, and left this tally
abbrev pub PlayedTo : Tally → List ℕ → ℕ → Tally → Type 0
PlayedTo p input k now = played_on p input ≡ ahead k (played_on now (drop k input))

-- at first no byte was played
pub played-to-none : (p : Tally) (input : List ℕ) → PlayedTo p input 0 p
played-to-none p input = ahead_none (played_on p input)

-- past a lawful record, more were
pub played-to-more : (p : Tally) (input : List ℕ) (k : ℕ) (now : Tally) → PlayedTo p input k now → let bytes = front (drop k input) in
    lawful false bytes ≡ true → PlayedTo p input (k + length bytes) (record_played (record_of bytes) now)
played-to-more p input k now so_far e =
    so_far ∙ ap (ahead k) (played-more now (drop k input) e) ∙ ahead-again k (length (front (drop k input))) _
    ∙ ap (λ (left : List ℕ). ahead (k + length (front (drop k input))) (played_on (further now (drop k input)) left)) (drop-drop (length (front (drop k input))) k input)

-- where no lawful record stands behind them, all were that are played
pub played-to-end : (p : Tally) (input : List ℕ) (k : ℕ) (now : Tally) → PlayedTo p input k now → lawful false (front (drop k input)) ≡ false
    → played_on p input ≡ record { tally = now; taken = k; bad = whole_record (drop k input) }
unfolding ahead
played-to-end p input k now so_far e =
    let all : k + 0 ≡ k = omega arith in
    so_far ∙ ap (ahead k) (played-stops now (drop k input) e) ∙ λ i. record { tally = now; taken = all i; bad = whole_record (drop k input) }

-- ---- every input
-- what holds where playing stops, and past a record where it holds behind it, holds of all that is played
module _ (P : Tally → List ℕ → Progress → Type 0)
    (stops : (p : Tally) (input : List ℕ) → lawful false (front input) ≡ false → P p input (stopped_at p input))
    (goes : (p : Tally) (input : List ℕ) (q : Progress) → lawful false (front input) ≡ true → P (further p input) (behind input) q → P p input (ahead (length (front input)) q)) where
  -- of inputs below a length
  bounded : (most : ℕ) (p : Tally) (input : List ℕ) → length input < most → P p input (played_on p input)
  bounded zero p input h = absurd (omega arith)
  bounded (suc most) p input h =
      by (lawful false (front input))
      (λ e. subst (P p input) (sym (played-more p input e)) (goes p input _ e (bounded most (further p input) (behind input) (enough most false 0 input e h))))
      (λ e. subst (P p input) (sym (played-stops p input e)) (stops p input e))

  -- of every input
  pub of_all-played : (p : Tally) (input : List ℕ) → P p input (played_on p input)
  of_all-played p input = bounded (suc (length input)) p input (omega arith)
