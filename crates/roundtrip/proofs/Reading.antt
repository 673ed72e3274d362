-- Reading goes on record by record, with enough records allowed for.
use mathlib.Core.Path.{◌≡◌, refl, ap, ◌∙◌}
use mathlib.Core.Bool.{Bool, true, false, not, ◌&&◌}
use mathlib.Core.Option.{none, some}
use mathlib.Core.List.{List, [], ◌∷◌, ◌++◌, map}
use Prim.Native.Nat.{ℕ, zero, suc, ◌+◌, ◌<◌}
use native.Mathlib.Omega.{arith}
use lib.ListN.{length, drop, length-append}
use lib.Seq.{drop-append_seam}
use Rattle.model.specs.Lists.{concat}
use Rattle.model.specs.Refusals.{unless}
use Rattle.model.specs.Decoding.{front, record_of}
use Rattle.model.specs.RecordBytes.{lawful}
use Rattle.model.specs.Schedule.{AllLawful, is_empty, Reading, read_from}
use Rattle.laws.proofs.Schedule.{front_length, lawful-least, lawful-head-long}
use Rattle.laws.proofs.Records.{read-accepted, read-refused, not-empty}
use Rattle.roundtrip.proofs.Records.{front-lawful}

-- reading is at its end: "a lawful schedule has at least its table record"
abbrev pub at_end : Bool → List ℕ → Bool
at_end first input = not first && is_empty input

-- where something is left reading is not at its end
pub not-at-end : (first : Bool) (input : List ℕ) → 0 < length input → at_end first input ≡ false
not-at-end true input h = refl
not-at-end false input h = not-empty input h

module _ (most : ℕ) (first : Bool) (place : ℕ) (input : List ℕ) where
  -- at the end reading stops with no fault
  pub reads_none : at_end first input ≡ true → read_from (suc most) first place input ≡ record { records = []; fault = none }
  unfolding read_from
  reads_none e = rw e refl

  -- at what is no lawful record it stops with a fault
  pub reads-fault : at_end first input ≡ false → lawful first (front input) ≡ false → read_from (suc most) first place input ≡ record { records = []; fault = some (record { number = 12; place = place }) }
  unfolding read_from unless
  reads-fault e f = rw (e, read-refused first input f) refl

  -- what is read past the front
  abbrev pub later : Reading
  later = read_from most false (place + length (front input)) (drop (length (front input)) input)

  module _ (rules : lawful first (front input) ≡ true) where
    -- past a lawful record it goes on
    pub reads-one : read_from (suc most) first place input ≡ record { records = record_of (front input) ∷ later.records; fault = later.fault }
    unfolding read_from unless
    reads-one = rw (not-at-end first input (omega (arith, lawful-head-long input first rules)), read-accepted first input rules) refl

    -- and as many records are allowed for as may be left
    pub enough : length input < suc most → length (drop (length (front input)) input) < most
    enough h = omega (arith, lawful-least first (front input) rules, front_length input)

-- lawful records in a row are read to the end
pub reads-lawful : (pieces : List (List ℕ)) (most : ℕ) (first : Bool) (place : ℕ) → length (concat pieces) < most → AllLawful lawful first pieces
    → read_from most first place (concat pieces) ≡ record { records = map record_of pieces; fault = none }
unfolding concat
reads-lawful pieces zero first place h rules = absurd (omega arith)
reads-lawful [] (suc most) first place h rules = reads_none most first place [] (rw rules refl)
reads-lawful (bytes ∷ pieces) (suc most) first place h rules =
    let taken : front (bytes ++ concat pieces) ≡ bytes = front-lawful first bytes rules.0 (concat pieces) in
    (rw (taken, drop-append_seam bytes (concat pieces)) at (reads-one most first place (bytes ++ concat pieces) (rw taken rules.0)))
    ∙ ap {B = Reading} (λ (later : Reading). record { records = record_of bytes ∷ later.records; fault = later.fault })
    (reads-lawful pieces most false (place + length bytes) (omega (arith, length-append bytes (concat pieces), lawful-least first bytes rules.0)) rules.1)
