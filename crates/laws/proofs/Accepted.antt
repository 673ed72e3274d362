-- On a well-formed table the cheap tests alone show that a call is not refused, or by which rows.
use mathlib.Core.Path.{◌≡◌, ap, ◌∙◌}
use mathlib.Core.Bool.{true, not}
use mathlib.Core.List.{[]}
use Prim.Native.Nat.{ℕ, ◌*◌, ◌<◌}
use lib.ListN.{length}
use borrow.Author.Tests.{lt-leb}
use Rattle.model.specs.declared.Operation.{Operation}
use Rattle.model.specs.declared.EntryPoint.{EntryPoint}
use Rattle.model.specs.Threads.{at}
use Rattle.model.specs.Locks.{lock_free}
use Rattle.model.specs.WellFormed.{well_formed}
use Rattle.model.specs.Calls.{begin_via, step, cancel, tick, State}
use Rattle.model.specs.Refusals.{first_refusal, no_thread, lock_owned, argument_rows, begin_rows, later_rows, refusal}
use Rattle.model.proofs.Laws.{◌and◌}
use Rattle.laws.proofs.Rows.{first-none, rows-passed}
use Rattle.laws.proofs.Groups.{later-refusal, place-passed}

module _ (s : State) (formed : well_formed s.table ≡ true) where
  -- a tick is not refused
  pub tick-accepted : refusal tick s ≡ 0
  unfolding later_rows first_refusal
  tick-accepted = later-refusal tick s formed

  module _ (x : ℕ) (below : x < s.table.n) where
    -- a cancel of a thread whose lock is free is not refused
    pub cancel-accepted : lock_free (at s.table x) ≡ true → refusal (cancel x) s ≡ 0
    unfolding later_rows no_thread lock_owned
    cancel-accepted free = later-refusal (cancel x) s formed ∙ rows-passed (later_rows (cancel x) s) [] (lt-leb s.table.n x below and ap not free and tt) ∙ first-none

    module _ (fit : length s.store ≡ 8 * s.table.n) where
      -- a step is not refused
      pub step-accepted : refusal (step x) s ≡ 0
      unfolding later_rows argument_rows
      step-accepted = later-refusal (step x) s formed ∙ rows-passed (argument_rows s.table x (length s.store)) [] (place-passed s.table x (length s.store) below fit) ∙ first-none

      -- a begin is refused by the rows on the thread and its operation alone
      pub begin-number : (via : EntryPoint) (o : Operation) → refusal (begin_via via x o) s ≡ first_refusal (begin_rows via s.table x o)
      unfolding later_rows
      begin-number via o = later-refusal (begin_via via x o) s formed ∙ rows-passed (argument_rows s.table x (length s.store)) (begin_rows via s.table x o) (place-passed s.table x (length s.store) below fit)
