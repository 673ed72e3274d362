-- Laws of the lines of threads, of one line behind the others, and of the whole text.
use Rattle.std.proofs.Common.{◌≡◌, refl, ap, ℕ, ◌+◌, ◌≤◌, [], ◌∷◌, ◌++◌, length, add-one}
use Rattle.std.proofs.Math.ListN.{get_or-eq_default}
use Rattle.model.specs.Lists.{up_to, concat}
use Rattle.model.specs.declared.Thread.{Thread}
use Rattle.model.specs.declared.Table.{Table}
use Rattle.model.specs.Threads.{at, zero_thread}
use Rattle.model.specs.Calls.{State}
use Rattle.model.specs.Promise.{view}
use Rattle.model.specs.Bondtrace.{ascii, spaced, Tally, thread_line, final_text}
use Rattle.laws.proofs.Joined.{concat_snoc}
use Rattle.text.specs.Texts.{numbers_line}
use Rattle.printing.specs.Texts.{outcome_text, threads_text}

-- ---- threads
-- a thread's line by its parts
pub line-parts : (s : State) (x : ℕ) → thread_line s x ≡ outcome_text x (at s.table x).outcome ++ spaced (view s x).words ++ (10 ∷ [])
unfolding thread_line outcome_text spaced ascii up_to view
line-parts s x = refl

-- no thread is no text
pub threads-none : (s : State) → threads_text s 0 ≡ []
unfolding threads_text concat up_to
threads-none s = refl

-- the lines of the first x threads and then that of thread x are those of the first x + 1
pub threads_more : (s : State) (x : ℕ) → threads_text s (x + 1) ≡ threads_text s x ++ thread_line s x
unfolding threads_text up_to
threads_more s x = rw (add-one, concat_snoc) refl

-- past the table's threads the outcome is zero
pub outcome-past : (t : Table) (x : ℕ) → length t.threads ≤ x → (at t x).outcome ≡ zero_thread.outcome
unfolding at
outcome-past t x past = ap (λ (h : Thread). h.outcome) (get_or-eq_default t.threads zero_thread past)

-- ---- the whole text
-- the first line and then the lines of all threads
pub final_parts : (p : Tally) → final_text p ≡ numbers_line (ascii "records ") p.records (ascii " refused ") p.refused ++ threads_text p.now p.now.table.n
unfolding final_text numbers_line threads_text
final_parts p = refl

-- what a function that writes lines of threads needs
pub ruleset lines = (line-parts, threads-none, threads_more, outcome-past)
