-- Document 01, "The table" and "Calls": the nine phases and their numbers.
use Rattle.std.specs.Prelude.{Bool, false, ◌||◌, List, [], ◌∷◌, ℕ, eqb, get_or}

-- the nine phases, and one for every other number
pub data Phase : Type 0 where
  idle lock check copy release sleep look wake unlock unknown : Phase

-- the phases in the order of their numbers, 0 to 8
abbrev pub phases : List Phase
phases = idle ∷ lock ∷ check ∷ copy ∷ release ∷ sleep ∷ look ∷ wake ∷ unlock ∷ []

-- the phase that a number stands for
unfoldable pub phase_of : ℕ → Phase
phase_of number = get_or phases number unknown

-- the number that a phase has in a thread
abbrev pub phase_number : Phase → ℕ
phase_number idle = 0
phase_number lock = 1
phase_number check = 2
phase_number copy = 3
phase_number release = 4
phase_number sleep = 5
phase_number look = 6
phase_number wake = 7
phase_number unlock = 8
phase_number unknown = 9

-- a number is that of one of these phases
unfoldable pub is_one_of : List Phase → ℕ → Bool
is_one_of [] number = false
is_one_of (p ∷ ps) number = eqb number (phase_number p) || is_one_of ps number
