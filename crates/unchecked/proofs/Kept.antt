-- A table that is checked once needs no check again: every call leaves a checked table.
use Rattle.std.specs.Prelude.{◌≡◌, ℕ, ◌*◌}
use mathlib.Core.Path.{sym, ap, ◌∙◌, subst}
use Rattle.model.specs.declared.Answer.{Answer}
use Rattle.model.specs.Threads.{new_table}
use Rattle.model.specs.WellFormed.{WellFormed}
use Rattle.model.specs.Calls.{Call, State}
use Rattle.model.specs.Refusals.{unless, make_refusal}
use Rattle.model.specs.Promise.{next, Promise, made_table}
use Rattle.model.proofs.Tested.{well_formed-tested}
use Rattle.laws.proofs.Refusals.{making_accepted}
use Rattle.laws.proofs.Calls.{rules_after}
use Rattle.invariant.proofs.New.{new-shaped, made-well_formed}
use Rattle.invariant.proofs.Frames.{next-size, next-rules, next-store-length}
use Rattle.invariant.proofs.Keeps.{keeps_shaped, keeps_test}
use Rattle.unchecked.specs.Runnable.{Checked, Runnable}

-- ---- checked tables
module _ (n : ℕ) (made : make_refusal n ≡ 0) where
  -- a new table of a lawful size is well-formed
  new-formed : WellFormed (new_table n)
  unfolding made_table unless
  new-formed = rw made at (made-well_formed n made)

  -- so it counts as checked
  pub new-checked : Checked (new_table n)
  new-checked = record { formed = well_formed-tested (new_table n) new-formed; shaped = new-shaped n (making_accepted n made).1 }

-- every call, refused or not, leaves a checked table where it found one
pub keeps_checked : (c : Call) (s : State) → Checked s.table → Checked (next c s).table
keeps_checked c s k = record { formed = keeps_test c s k.shaped k.formed; shaped = keeps_shaped c s k.shaped }

-- every call, refused or not, leaves such a state where it found one
pub next-runnable : (c : Call) (s : State) → Runnable s → Runnable (next c s)
next-runnable c s r = record {
  checked = keeps_checked c s r.checked;
  words = next-store-length c s ∙ r.words ∙ ap (λ (k : ℕ). 8 * k) (sym (next-size c s));
}

-- and so does one that keeps its promise: a loop that has such a state needs no check
pub keeps_runnable : (c : Call) (s : State) (a : Answer) (after : State) → Promise c s a after → Runnable s → Runnable after
keeps_runnable c s a after kept r = subst Runnable (sym kept.leaves) (next-runnable c s r)

-- and as many threads
pub keeps_size : (c : Call) (s : State) (a : Answer) (after : State) → Promise c s a after → after.table.n ≡ s.table.n
keeps_size c s a after kept = ap (λ (u : State). u.table.n) kept.leaves ∙ next-size c s

-- and, but for a loading, the same rules
pub keeps_rules : (c : Call) (s : State) (a : Answer) (after : State) → Promise c s a after → rules_after c s.table.rules ≡ s.table.rules → after.table.rules ≡ s.table.rules
keeps_rules c s a after kept same = ap (λ (u : State). u.table.rules) kept.leaves ∙ next-rules c s same
