-- A schedule that stands whole in memory: its table record, and all that stands behind it.
use mathlib.Core.Path.{◌≡◌, refl, sym, ap, ◌∙◌}
use mathlib.Core.Bool.{Bool, true, false}
use mathlib.Core.List.{List, [], ◌++◌}
use Prim.Native.Nat.{ℕ, ◌-◌, ◌*◌, ◌≤◌, ◌<◌}
use native.Mathlib.Omega.{arith}
use lib.ListN.{length, take, drop, replicate, length-drop, take-append-drop}
use lib.Seq.{take_all}
use Rattle.model.specs.Refusals.{make_refusal}
use Rattle.model.specs.RecordBytes.{thread_byte, lawful}
use Rattle.model.specs.Decoding.{front}
use Rattle.model.specs.Bondtrace.{bondtrace}
use Rattle.model.proofs.Laws.{by}
use Rattle.laws.proofs.Schedule.{front-thread}
use Rattle.pieces.proofs.WholeText.{front-four}
use Rattle.text.specs.Writing.{Printed}
use Rattle.text.proofs.Writing.{printed_as}
use Rattle.opening.specs.declared.Playback.{Playback}
use Rattle.opening.specs.Opened.{open_refusal, open_size, opened, Steady}
use Rattle.opening.proofs.Opening.{not_opened, opens, opened-size, opened-words}
use Rattle.playing.specs.Playback.{Playable, PlayPromise, Carries}
use Rattle.played_text.specs.Known.{Reached, Starts, longest_end}
use Rattle.played_text.proofs.Known.{reached-first, reached-more}
use Rattle.played_text.proofs.Stores.{Stored, zeros, stored-first, words-length, zeros-taken, array, array_starts}

-- what opening returned is the playback of the table record, if it is not refused
pub opening_starts : (bytes : List ℕ) (t : Playback) → open_refusal bytes ≡ 0 → t ≡ opened (open_size bytes) → 4 ≤ length bytes → Starts t bytes
opening_starts bytes t accepted is four = by (lawful true (front bytes))
    (λ good. record { reached = reached good; four = four; place = ap (λ (u : Playback). u.place) is ∙ opened-place (open_size bytes) })
    (λ bad. let none : ◌≡◌ {A = ℕ} 12 0 = sym (not_opened bytes bad) ∙ accepted in absurd (omega arith))
  where
    opened-place : (n : ℕ) → (opened n).place ≡ 4
    opened-place n = unfold opened in refl

    -- the table's size is the thread byte of the first four bytes
    size : lawful true (front bytes) ≡ true → open_size bytes ≡ thread_byte (take 4 bytes)
    size good = opened-size bytes accepted ∙ sym (front-thread bytes) ∙ ap thread_byte (sym (front-four bytes good))

    reached : lawful true (front bytes) ≡ true → Reached (take 4 bytes) [] false t (replicate (8 * t.table.n) 0) []
    reached good =
        let n = thread_byte (take 4 bytes) in
        let t_is : t ≡ opened n = is ∙ ap opened (size good) in
        let words : 8 * t.table.n ≡ 8 * n = ap (λ (u : Playback). 8 * u.table.n) t_is ∙ opened-words n in
        rw (words, t_is) (reached-first (take 4 bytes) (ap (lawful true) (front-four bytes good) ∙ good)
        (ap make_refusal (sym (size good) ∙ opened-size bytes accepted) ∙ sym (opens bytes good) ∙ accepted))

-- with a store that is the first of the zeros
pub opening_begins : (bytes : List ℕ) (t : Playback) → 0 ≡ open_refusal bytes → t ≡ opened (open_size bytes) → (4 ≤ length bytes) × Steady t → Starts t bytes × Stored t (8 * t.table.n) (zeros 256)
opening_begins bytes t accepted is (four, steady) = (opening_starts bytes t (sym accepted) is four, stored-first t (8 * t.table.n) steady refl)

-- the bytes behind the table record, as the code takes them
abbrev pub behind : List ℕ → List ℕ
behind bytes = take (length bytes - 4) (drop 4 bytes)

module _ {bytes : List ℕ} {t : Playback} {size : ℕ} (starts : Starts t bytes) (S : Stored t size (zeros 256)) where
  -- they are all that is left
  behind-all : behind bytes ≡ drop 4 bytes
  behind-all = take_all (length bytes - 4) (drop 4 bytes) (omega (arith, length-drop 4 bytes))

  -- so many
  behind-length : length (behind bytes) ≡ length bytes - 4
  behind-length = ap (λ (l : List ℕ). length l) behind-all ∙ length-drop 4 bytes

  -- they can be played
  pub playable : length bytes < 18446744073709551616 → Playable t (take size (zeros 256)) (length (behind bytes))
  playable fits = record { steady = S.steady; words = words-length S ∙ S.sized; room = omega (arith, starts.place, starts.four, behind-length) }

  module _ (to : Playback) (store : List ℕ) (bad : Bool) (played : PlayPromise t (take size (zeros 256)) (behind bytes) to store bad)
      (carries : Carries t (length (behind bytes)) to store) where
    -- playing ends within the bytes
    pub place-within : to.place ≤ length bytes
    place-within = omega (arith, carries.within, starts.place, starts.four, behind-length)

    -- what all of them have come to
    reached : Reached (take 4 bytes) (behind bytes) bad to (take size (array S to store _ carries)) (drop (to.place - t.place) (behind bytes))
    reached = rw (array_starts S to store _ carries)
        (reached-more (take 4 bytes) [] (behind bytes) t to (take size (zeros 256)) store [] bad (rw (zeros-taken t size S) starts.reached) played)

    -- so the text that ends it is the text of them all
    pub whole-written : (left stop : ℕ) (before after : List ℕ) → left ≡ length bytes - to.place
        → ((head input rest : List ℕ) (bad : Bool) → Reached head input bad to (take size (array S to store _ carries)) rest → length rest ≡ left → Printed (bondtrace (head ++ input)) longest_end before after stop)
        → Printed (bondtrace bytes) longest_end before after stop
    whole-written left stop before after is ends =
        printed_as (ap bondtrace (ap (λ (l : List ℕ). take 4 bytes ++ l) behind-all ∙ take-append-drop 4 bytes)) (omega arith)
        (ends (take 4 bytes) (behind bytes) _ bad reached (length-drop (to.place - t.place) (behind bytes) ∙ omega (arith, is, starts.place, starts.four, behind-length, carries.onward)))
