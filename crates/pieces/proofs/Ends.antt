-- Where playing ends, and what is left there.
use mathlib.Core.Path.{◌≡◌}
use mathlib.Core.Bool.{true, false}
use mathlib.Core.List.{List}
use Prim.Native.Nat.{ℕ, ◌≤◌, ◌<◌}
use native.Mathlib.Omega.{arith}
use lib.ListN.{length, drop}
use lib.Seq.{drop-drop}
use Rattle.model.specs.RecordBytes.{longest_record}
use Rattle.model.specs.Schedule.{is_empty}
use Rattle.model.specs.Bondtrace.{Tally}
use Rattle.laws.proofs.Schedule.{front_length}
use Rattle.roundtrip.proofs.Reading.{not-at-end}
use Rattle.pieces.specs.Playing.{ahead, played_on}
use Rattle.pieces.proofs.Playing.{of_all-played}
use Rattle.pieces.proofs.Fronts.{whole-least, cut_short}

-- no more bytes are taken than there are
pub taken-at-most : (p : Tally) (input : List ℕ) → (played_on p input).taken ≤ length input
taken-at-most = of_all-played (λ p input q. q.taken ≤ length input)
    (λ p input e. omega arith)
    (λ p input q e h. unfold ahead in omega (arith, front_length input))

-- an unlawful record is still there, with its kind
bad-left : (p : Tally) (input : List ℕ) → (played_on p input).bad ≡ true → 4 ≤ length (drop (played_on p input).taken input)
bad-left = of_all-played (λ p input q. q.bad ≡ true → 4 ≤ length (drop q.taken input))
    (λ p input e bad. whole-least input bad)
    (λ p input q e h bad. unfold ahead in rw (← drop-drop) (h bad))

-- so something is left
pub bad-not-empty : (p : Tally) (input : List ℕ) → (played_on p input).bad ≡ true → is_empty (drop (played_on p input).taken input) ≡ false
bad-not-empty p input bad = not-at-end false (drop (played_on p input).taken input) (omega (arith, bad-left p input bad))

-- where there is none, what is left is shorter than the longest record
pub left-short : (p : Tally) (input : List ℕ) → (played_on p input).bad ≡ false → length (drop (played_on p input).taken input) < longest_record
left-short = of_all-played (λ p input q. q.bad ≡ false → length (drop q.taken input) < longest_record)
    (λ p input e fine. cut_short input fine)
    (λ p input q e h fine. unfold ahead in rw (← drop-drop) (h fine))
