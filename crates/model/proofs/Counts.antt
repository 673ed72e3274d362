-- Document 02, #105: how many lists of steps end how. Digits and places; all lists; how the lists of one or two steps end; by which number counting is refused.
use mathlib.Core.Path.{◌≡◌, refl}
use mathlib.Core.List.{[], ◌∷◌, map}
use Prim.Native.Nat.{ℕ}
use lib.IntN.{ℤ, pos, neg_ℤ}
use Rattle.model.specs.declared.Table.{Table}
use Rattle.model.specs.Codes.{code_only}
use Rattle.model.specs.Threads.{new_table, edit, ended, entering}
use Rattle.model.specs.Phases.{sleep}
use Rattle.model.specs.Calls.{begin}
use Rattle.model.specs.Counting.{digit_of, step_lists, length_used, place_of, places, count_of}
use Rattle.model.specs.Refusals.{count_refusal}
use Rattle.model.specs.Examples.{first_state, receive_only, open_for, worked}
use Rattle.model.proofs.Loadings.{after_loadings}

-- ---- "codes are digits 0 to 7 in document 01's order"
pub digits_in_order : map digit_of (pos 0 ∷ pos 1 ∷ pos 2 ∷ neg_ℤ (pos 2) ∷ neg_ℤ (pos 3) ∷ neg_ℤ (pos 4) ∷ neg_ℤ (pos 5) ∷ neg_ℤ (pos 6) ∷ []) ≡ 0 ∷ 1 ∷ 2 ∷ 3 ∷ 4 ∷ 5 ∷ 6 ∷ 7 ∷ []
unfolding after_loadings
digits_in_order = refl

-- ---- "read to base 8: thread 0 is the lowest digit .. a missing thread is 0"
-- a new table of n threads, in which 0 has ended with code a, 1 with b and 2 with c
abbrev ended_with : ℕ → ℤ → ℤ → ℤ → Table
ended_with n a b c = edit 0 (ended (code_only a)) (edit 1 (ended (code_only b)) (edit 2 (ended (code_only c)) (new_table n)))

-- of new tables, and of four, three and two threads with other codes
pub placed : (map (λ (n : ℕ). place_of (new_table n)) (1 ∷ 2 ∷ 3 ∷ 4 ∷ []) ≡ 2 ∷ 18 ∷ 146 ∷ 1170 ∷ [])
    × (map (λ (n : ℕ). place_of (ended_with n (neg_ℤ (pos 6)) (pos 0) (neg_ℤ (pos 2)))) (4 ∷ 3 ∷ 2 ∷ []) ≡ 1223 ∷ 199 ∷ 7 ∷ [])
unfolding after_loadings
placed = (refl, refl)

-- ---- "the lists of steps"
pub all-lists : (step_lists 2 2 ≡ (0 ∷ 0 ∷ []) ∷ (0 ∷ 1 ∷ []) ∷ (1 ∷ 0 ∷ []) ∷ (1 ∷ 1 ∷ []) ∷ []) × (step_lists 3 1 ≡ (0 ∷ []) ∷ (1 ∷ []) ∷ (2 ∷ []) ∷ []) × (step_lists 4 0 ≡ [] ∷ [])
unfolding after_loadings
all-lists = (refl, refl, refl)

-- "a greater length is taken as 10"
pub lengths : map length_used (0 ∷ 9 ∷ 10 ∷ 11 ∷ 18446744073709551615 ∷ []) ≡ 0 ∷ 9 ∷ 10 ∷ 10 ∷ 10 ∷ []
unfolding after_loadings
lengths = refl

-- ---- how lists end
-- thread 1 receives with no time left, and 0 is idle: a step of 1 ends it with -3, one of 0 changes nothing and counts
unfoldable pub late : Table
late = (worked (first_state 2) (begin 1 (receive_only (open_for 0)) ∷ [])).last.table

-- of no step, of one and of two, to which places they lead; and how many of two lead to a place
pub counted : (map (places late) (0 ∷ 1 ∷ 2 ∷ []) ≡ (10 ∷ []) ∷ (10 ∷ 34 ∷ []) ∷ (10 ∷ 34 ∷ 34 ∷ 34 ∷ []) ∷ []) × (map (count_of late 2) (9 ∷ 10 ∷ 34 ∷ []) ≡ 0 ∷ 1 ∷ 3 ∷ [])
unfolding after_loadings late
counted = (refl, refl)

-- ---- refusals: "Here refusal 1 also covers N above 4"; "a lent run of 4096, else 11"
-- a new table of n threads, in which an idle thread sleeps: it is not well-formed
abbrev broken : ℕ → Table
broken n = edit 0 (entering sleep) (new_table n)

pub refused : (map (λ (n : ℕ). count_refusal (new_table n) 4096) (0 ∷ 1 ∷ 4 ∷ 5 ∷ 32 ∷ 33 ∷ []) ≡ 1 ∷ 0 ∷ 0 ∷ 1 ∷ 1 ∷ 1 ∷ [])
    × (map (λ (n : ℕ). count_refusal (broken n) 4095) (4 ∷ 5 ∷ []) ≡ 2 ∷ 1 ∷ [])
    × (map (count_refusal (new_table 4)) (0 ∷ 4095 ∷ 4096 ∷ 4097 ∷ []) ≡ 11 ∷ 11 ∷ 0 ∷ 11 ∷ [])
unfolding after_loadings
refused = (refl, refl, refl)

-- opens what the rows of the next file are worked out from, once those of this file hold
unfoldable pub after_counts : ℕ
unfolding after_loadings
after_counts = let digits = digits_in_order in let place = placed in let all = all-lists in let length = lengths in let count = counted in let refuse = refused in 0
