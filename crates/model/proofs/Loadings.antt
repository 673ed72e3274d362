-- Document 02, #102: who may send to whom. How rules fit a table; by which number a begin is refused under rules; and a trace with loadings.
use mathlib.Core.Path.{◌≡◌, refl}
use mathlib.Core.Bool.{true, false}
use mathlib.Core.List.{List, [], ◌∷◌, ◌++◌, map}
use Prim.Native.Nat.{ℕ}
use lib.ListN.{replicate}
use Rattle.model.specs.declared.Receive.TheVariants.{Absent}
use Rattle.model.specs.declared.Operation.{Operation}
use Rattle.model.specs.declared.Rule.{Rule}
use Rattle.model.specs.declared.Rules.{Rules}
use Rattle.model.specs.declared.Pair.{Pair}
use Rattle.model.specs.declared.Misfit.{Misfit}
use Rattle.model.specs.declared.Misfit.TheVariants.{Fits, TooMany, Gap, Overlap}
use Rattle.model.specs.Answers.{accepted, moved, refused, replied}
use Rattle.model.specs.Codes.{running, never_begun, code_only}
use Rattle.model.specs.Rules.{misfit, pair_of}
use Rattle.model.specs.Threads.{new_table, with_rules}
use Rattle.model.specs.Calls.{Call, begin, spark_begin, load, State}
use Rattle.model.specs.Refusals.{refusal}
use Rattle.model.specs.Promise.{state, load_misfit}
use Rattle.model.specs.Atomic.{first_machine}
use Rattle.model.specs.Examples.{first_state, send_to, receive_only, open_for, closed_for, rule, rules_of, steps, received_from}
use Rattle.model.proofs.Replay.{agree}
use Rattle.model.proofs.Answered.{Shown, showing, receiving}
use Rattle.model.proofs.PartnerSets.{after_partner_sets}

-- ---- short forms that the rows are written in
-- every pair may
abbrev everyone : Rule
everyone = rule 0 255 0 255 true

-- a sender and its target
abbrev pair : ℕ → ℕ → Pair
pair sender target = record { sender = sender; target = target }

-- ---- loadings: "each ordered pair of different threads below N must fall in one row exactly"
-- so many threads, rules, and how they fit
pub record RulesRow : Type 0 where
  pub n : ℕ
  pub rows : List Rule
  pub fits : Misfit

-- the rows, named by what they show
pub data Name : Type 0 where
  nobody-else none_for_two one_for_all ends_included pair-with_itself from-above-to sender-beyond target-beyond : Name
  gap_first overlap_first sender-before-target same-row_twice rows_64 rows_65 : Name

-- each loading, and how it fits
unfoldable pub row : Name → RulesRow
-- of one thread there is no pair
row nobody-else = record { n = 1; rows = []; fits = Fits }
row none_for_two = record { n = 2; rows = []; fits = Gap (pair 0 1) }
-- "from..to, .. ends included"
row one_for_all = record { n = 3; rows = everyone ∷ []; fits = Fits }
row ends_included = record { n = 3; rows = rule 0 1 0 1 true ∷ rule 0 1 2 2 false ∷ rule 2 2 0 1 true ∷ []; fits = Fits }
-- "pair of different threads below N"
row pair-with_itself = record { n = 3; rows = everyone ∷ rule 1 1 1 1 false ∷ []; fits = Fits }
row sender-beyond = record { n = 3; rows = rule 0 2 0 2 true ∷ rule 3 9 0 255 false ∷ rule 9 9 0 2 true ∷ []; fits = Fits }
row target-beyond = record { n = 3; rows = rule 0 2 0 2 true ∷ rule 0 2 3 9 false ∷ rule 0 2 9 9 true ∷ []; fits = Fits }
-- "a row with a from above its to holds no pair"
row from-above-to = record { n = 3; rows = rule 2 1 0 2 false ∷ rule 0 2 0 2 true ∷ rule 0 2 2 1 false ∷ []; fits = Fits }
-- "the lowest sender first, then the lowest target", whether it is a gap or an overlap
row gap_first = record { n = 3; rows = rule 0 2 0 1 true ∷ rule 2 2 1 2 true ∷ []; fits = Gap (pair 0 2) }
row overlap_first = record { n = 3; rows = rule 0 0 0 1 true ∷ rule 0 0 1 1 false ∷ []; fits = Overlap (pair 0 1) }
row sender-before-target = record { n = 3; rows = rule 0 0 0 2 true ∷ rule 1 2 1 2 true ∷ rule 1 1 2 2 true ∷ rule 2 2 0 0 true ∷ rule 0 0 2 2 true ∷ []; fits = Overlap (pair 0 2) }
row same-row_twice = record { n = 3; rows = rule 0 2 0 2 true ∷ rule 1 1 2 2 true ∷ []; fits = Overlap (pair 1 2) }
-- "up to 64 rows"
row rows_64 = record { n = 2; rows = replicate 63 (rule 1 0 0 1 true) ++ (everyone ∷ []); fits = Fits }
row rows_65 = record { n = 2; rows = replicate 65 (rule 1 0 0 1 true); fits = TooMany }

-- so they fit
pub fitted : (name : Name) → misfit (row name).n (rules_of (row name).rows) ≡ (row name).fits
unfolding after_partner_sets row
fitted nobody-else = refl
fitted none_for_two = refl
fitted one_for_all = refl
fitted ends_included = refl
fitted pair-with_itself = refl
fitted from-above-to = refl
fitted sender-beyond = refl
fitted target-beyond = refl
fitted gap_first = refl
fitted overlap_first = refl
fitted sender-before-target = refl
fitted same-row_twice = refl
fitted rows_64 = refl
fitted rows_65 = refl

-- "with the pair, or with 255 255 for more than 64 rows"
pub pairs-told : map pair_of (Gap (pair 0 2) ∷ Overlap (pair 1 2) ∷ TooMany ∷ []) ≡ pair 0 2 ∷ pair 1 2 ∷ pair 255 255 ∷ []
unfolding after_partner_sets
pairs-told = refl

-- ---- loaded rules
-- only 1 may send to 2; to the others all may
abbrev guarded : Rules
guarded = rules_of (rule 0 3 0 1 true ∷ rule 1 1 2 2 true ∷ rule 0 0 2 2 false ∷ rule 3 3 2 2 false ∷ rule 0 3 3 3 true ∷ [])

-- a new table of four threads under these rules
abbrev ruled : State
ruled = state (with_rules guarded (new_table 4)) (replicate 32 7)

-- tables to load into: of no thread, with rules that do not fit, with rules that fit, and of one thread
abbrev found : List State
found = first_state 0 ∷ state (with_rules (rules_of (everyone ∷ everyone ∷ [])) (new_table 4)) [] ∷ ruled ∷ first_state 1 ∷ []

-- by which number a loading is refused, and what is told: 14 is behind 1 and 2
pub loaded : (map (λ (s : State). refusal (load (rules_of [])) s) found ≡ 1 ∷ 2 ∷ 14 ∷ 0 ∷ [])
    × (map (λ (s : State). load_misfit s.table (rules_of [])) found ≡ Fits ∷ Fits ∷ Gap (pair 0 1) ∷ Fits ∷ [])
unfolding after_partner_sets
loaded = (refl, refl)

-- operations that thread 0 begins: a send of some words to a target with a time code
abbrev sends : ℕ → ℕ → ℕ → Operation
sends target count time = send_to target (replicate count 5) time Absent

-- "13, pair not permitted, at begin after 10"; "a target of N or more still ends with -2"; without a send part, and of partners, nothing is asked
pub begun : map (λ (o : Operation). refusal (begin 0 o) ruled)
    (sends 1 1 15 ∷ sends 2 1 15 ∷ sends 2 9 15 ∷ sends 2 1 16 ∷ sends 0 1 15 ∷ sends 4 1 15 ∷ sends 255 1 15 ∷ receive_only (open_for 15) ∷ receive_only (closed_for 2 15) ∷ [])
    ≡ 0 ∷ 13 ∷ 9 ∷ 10 ∷ 7 ∷ 0 ∷ 0 ∷ 0 ∷ 0 ∷ []
unfolding after_partner_sets
begun = refl

-- so through the spark entry; and the target of a part that is not there is none
pub spark-begun : map (λ (o : Operation). refusal (spark_begin 0 o) ruled)
    (sends 1 1 15 ∷ sends 2 1 15 ∷ sends 2 4 15 ∷ record { send = record { present = false; target = 2; count = 0; time = 0; words = replicate 8 0 }; receive = open_for 15 } ∷ [])
    ≡ 0 ∷ 13 ∷ 16 ∷ 0 ∷ []
unfolding after_partner_sets
spark-begun = refl

-- ---- "Loadings, later ones too, may stand in the list of demand 3"
-- 0 is queued at 2 when it is no longer permitted, and a loading that is refused keeps the rules; 0 still delivers, and then is refused; to a target beyond it is not; later rules permit all again
unfoldable pub loadings : List Call
loadings =
    begin 0 (sends 2 1 15) ∷ load guarded ∷ load (rules_of []) ∷ receiving 2 (open_for 15) ∷ steps 5 0
    ++ begin 0 (sends 2 1 15) ∷ begin 0 (sends 4 1 15) ∷ load (rules_of (everyone ∷ [])) ∷ begin 0 (sends 2 0 15) ∷ steps 3 0

-- what they show
unfoldable pub loadings_shown : Shown
loadings_shown = record {
  answers = map replied (accepted ∷ accepted ∷ []) ++ refused 14 ∷ map replied (accepted ∷ replicate 5 moved) ++ refused 13 ∷ map replied (accepted ∷ accepted ∷ accepted ∷ replicate 3 moved);
  outcomes = code_only running ∷ code_only never_begun ∷ received_from 0 1 ∷ code_only never_begun ∷ [];
}

-- they show this, and on them both machines go together
pub later_ones_too : (showing loadings ≡ loadings_shown) × (agree 4 (first_state 4) first_machine loadings ≡ true)
unfolding after_partner_sets showing loadings loadings_shown
later_ones_too = (refl, refl)

-- opens what the rows of the next file are worked out from, once those of this file hold
unfoldable pub after_loadings : ℕ
unfolding after_partner_sets
after_loadings = let fit = fitted in let told = pairs-told in let load = loaded in let main = begun in let spark = spark-begun in let trace = later_ones_too in 0
