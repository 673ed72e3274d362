-- Four threads for a table, and what a step of two of them decides.
use Rattle.std.specs.Prelude.{◌≡◌, ℕ, ◌≤◌, Bool, true, false, cond, List, map, take, slice_set}
use Rattle.model.specs.declared.Outcome.{Outcome}
use Rattle.model.specs.declared.Thread.{Thread}
use Rattle.model.specs.declared.Table.{Table}
use Rattle.model.specs.declared.Answer.{Answer}
use Rattle.model.specs.declared.Answer.TheVariants.{Refused, Accepted, Marked, NothingToCancel, Moved, Idle, Held, Wants, Asleep}
use Rattle.model.specs.Answers.{held}
use Rattle.model.specs.Phases.{phase_of}
use Rattle.model.specs.Locks.{lock_free}
use Rattle.model.specs.Step.{Action, stay, decide_in}
use Rattle.model.specs.Counting.{counted_threads, place_of}
use Rattle.unchecked.specs.Runnable.{Checked}
use Rattle.few.specs.declared.Few.{Few}

-- f has the first four threads of t, a checked table of at most four
pub record Front (f : Few) (t : Table) : Type 0 where
  pub checked : Checked t
  pub few : t.n ≤ counted_threads
  pub size : f.n ≡ t.n
  pub threads : f.threads ≡ take counted_threads t.threads

-- and with them the place of its codes
pub record Whole (f : Few) (t : Table) : Type 0 where
  pub front : Front f t
  pub place : f.place ≡ place_of t

-- the outcomes of the four
abbrev pub outcomes_in : Few → List Outcome
outcomes_in f = map (λ (h : Thread). h.outcome) f.threads

-- the same with thread i, which is h, and thread j, which is r
abbrev pub outcomes_with : Few → ℕ → Thread → ℕ → Thread → List Outcome
outcomes_with f i h j r = slice_set (slice_set (outcomes_in f) j r.outcome) i h.outcome

-- a step with this answer changes nothing
abbrev pub changes_nothing : Answer → Bool
changes_nothing (Refused number) = true
changes_nothing Accepted = true
changes_nothing Marked = true
changes_nothing NothingToCancel = true
changes_nothing Moved = false
changes_nothing Idle = true
changes_nothing Held = true
changes_nothing Wants = true
changes_nothing Asleep = true

-- what thread x, which is h, does with r for the other thread: "if another owns t's lock, answer held, nothing changes. Else by phase"
unfoldable pub decide_here : ℕ → Thread → Thread → Action
decide_here x h r = cond (lock_free h) (decide_in (phase_of h.phase) x h r) (stay held)
