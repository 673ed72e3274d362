-- Document 02, #105: how many lists of steps lead to each combination of final codes.
use Rattle.std.specs.Prelude.{cond, List, [], ◌∷◌, map, ℕ, zero, suc, ◌+◌, ◌*◌, min, ℤ}
use Rattle.model.specs.declared.Table.{Table}
use Rattle.model.specs.Lists.{up_to, concat, occurs}
use Rattle.model.specs.Codes.{codes, same_code}
use Rattle.model.specs.Threads.{at}
use Rattle.model.specs.Step.{decide, act}

-- ---- lists of steps
-- the table after a step of thread x: "Words are not followed and no store is lent"
unfoldable pub after_step : ℕ → Table → Table
after_step x t = act (decide t x) x t

-- the table after a list of steps, the first one first
unfoldable pub after_steps : List ℕ → Table → Table
after_steps [] t = t
after_steps (x ∷ xs) t = after_steps xs (after_step x t)

-- all lists of k steps of n threads: "A thread of which a step changes nothing still counts as a choice"
unfoldable pub step_lists : ℕ → ℕ → List (List ℕ)
step_lists n zero = [] ∷ []
step_lists n (suc k) = concat (up_to n (λ x. map (λ xs. x ∷ xs) (step_lists n k)))

-- "a length of up to 10 steps", "a greater length is taken as 10"
unfoldable pub length_used : ℕ → ℕ
length_used k = min k 10

-- ---- "places read to base 8"
-- where a code stands in a list of codes; past its end where it does not
unfoldable pub standing : List ℤ → ℤ → ℕ
standing [] c = 0
standing (d ∷ ds) c = cond (same_code d c) 0 (suc (standing ds c))

-- "codes are digits 0 to 7 in document 01's order"
unfoldable pub digit_of : ℤ → ℕ
digit_of c = standing codes c

-- the codes of m threads from thread x on, read to base 8, the first of them the lowest digit
unfoldable pub place_from : (ℕ → ℤ) → ℕ → ℕ → ℕ
place_from code zero x = 0
place_from code (suc m) x = digit_of (code x) + 8 * place_from code m (suc x)

-- "thread 0 is the lowest digit .. a missing thread is 0"
unfoldable pub place_of : Table → ℕ
place_of t = place_from (λ x. (at t x).outcome.code) t.n 0

-- ---- counts
-- "a sound table of up to 4 threads"
abbrev pub counted_threads : ℕ
counted_threads = 4

-- "a lent run of 4096": a place for each combination of four codes
abbrev pub count_places : ℕ
count_places = 4096

-- the places to which the lists of k steps lead
unfoldable pub places : Table → ℕ → List ℕ
places t k = map (λ xs. place_of (after_steps xs t)) (step_lists t.n k)

-- "count for each combination of final codes the lists of steps that lead to it": of k steps, to place p
unfoldable pub count_of : Table → ℕ → ℕ → ℕ
count_of t k p = occurs p (places t k)

-- the numbers of a list, added up
unfoldable pub total : List ℕ → ℕ
total [] = 0
total (a ∷ l) = a + total l
