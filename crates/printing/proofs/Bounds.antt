-- How long the printed texts are at most, by the widths of what is printed.
use Prim.Native.Nat.{ℕ, ◌+◌, ◌*◌, ◌^◌, ◌≤◌, ◌<◌}
use native.Mathlib.Omega.{arith}
use native.Mathlib.Numerals.{add-one}
use lib.ListN.{length, take, drop, length-append, length-take}
use lib.IntN.{nat_abs}
use Rattle.model.specs.declared.Outcome.{Outcome}
use Rattle.model.specs.Lists.{up_to, concat}
use Rattle.model.specs.Threads.{at}
use Rattle.model.specs.Store.{words_at}
use Rattle.model.specs.Calls.{State}
use Rattle.model.specs.Promise.{view}
use Rattle.model.specs.Bondtrace.{ascii, spaced, Tally, thread_line, final_text, bad_line}
use Rattle.laws.proofs.Joined.{concat_snoc}
use Rattle.text.specs.Texts.{longest_word}
use Rattle.laws.proofs.Digits.{decimal-short}
use Rattle.text.proofs.Signs.{signed-short}
use Rattle.printing.specs.Texts.{outcome_text, threads_text, longest_outcome, longest_line, longest_text, longest_bad_line}
use Rattle.printing.proofs.Texts.{threads-none, line-parts}

-- ---- a thread's line
-- its number, and its code, source and count
pub outcome-short : (x : ℕ) (u : Outcome) → x < 2 ^ 8 → nat_abs u.code < 2 ^ 32 → u.source < 2 ^ 8 → u.count < 2 ^ 8 → length (outcome_text x u) ≤ longest_outcome
unfolding outcome_text ascii up_to
outcome-short x u number code source count =
    simp length-append
    (omega (arith, decimal-short 2 x (omega arith), signed-short 9 u.code (omega arith), decimal-short 2 u.source (omega arith), decimal-short 2 u.count (omega arith)))

-- its words are at most eight
few_words : (s : State) (x : ℕ) → length (view s x).words ≤ 8
unfolding view words_at
few_words s x =
    let own = take 8 (drop (8 * x) s.store) in
    omega (arith, length-take (at s.table x).outcome.count own, length-take 8 (drop (8 * x) s.store))

-- the line of such an outcome and such words
pub line-short : (s : State) (x : ℕ) → length (outcome_text x (at s.table x).outcome) ≤ longest_outcome → length (spaced (view s x).words) ≤ longest_word * length (view s x).words
    → length (thread_line s x) ≤ longest_line
line-short s x outcome words = rw line-parts (simp length-append (omega (arith, few_words s x)))

-- ---- the whole text
-- no line
pub none-short : (s : State) → length (threads_text s 0) ≤ longest_line * 0
none-short s = rw threads-none (omega arith)

-- one line more
pub one-more-short : (s : State) (x : ℕ) → length (threads_text s x) ≤ longest_line * x → length (thread_line s x) ≤ longest_line → length (threads_text s (x + 1)) ≤ longest_line * (x + 1)
unfolding threads_text up_to
one-more-short s x lines line = rw (add-one x, concat_snoc) (omega (arith, length-append (concat (up_to x (thread_line s))) (thread_line s x)))

-- the first line and n lines
pub final_short : (p : Tally) → p.records < 2 ^ 64 → p.refused < 2 ^ 64 → length (threads_text p.now p.now.table.n) ≤ longest_line * p.now.table.n → length (final_text p) ≤ longest_text p.now.table.n
unfolding final_text threads_text ascii up_to
final_short p records refused lines = simp length-append (omega (arith, decimal-short 19 p.records (omega arith), decimal-short 19 p.refused (omega arith)))

-- the bad line
pub bad-short : (number place : ℕ) → number < 2 ^ 8 → place < 2 ^ 64 → length (bad_line number place) ≤ longest_bad_line
unfolding bad_line ascii up_to
bad-short number place small near = simp length-append (omega (arith, decimal-short 2 number (omega arith), decimal-short 19 place (omega arith)))

-- ---- a buffer of 4096 bytes
-- it holds the final text of as many threads as a table has
pub text-fits : (n : ℕ) → n ≤ 32 → longest_text n ≤ 4096
text-fits n few = omega arith

-- and the bad line
pub bad-line-fits : longest_bad_line ≤ 4096
bad-line-fits = omega arith
