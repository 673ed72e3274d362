-- Whether a step is a rendezvous.
use Rattle.std.specs.Prelude.{◌≡◌, Bool, true, false, ℕ}
use Rattle.std.proofs.Math.Option.{none, some}
use Rattle.model.specs.declared.Thread.{Thread}
use Rattle.model.specs.declared.Table.{Table}
use Rattle.model.specs.Threads.{at}
use Rattle.model.specs.Step.{decide}
use Rattle.model.specs.Atomic.{begins, cancels, ticks, rendezvous, aborts}
use Rattle.model.specs.Linearization.{Entry}
use Rattle.model.specs.Linearized.{event_of}

-- an entry of a linearization is one
abbrev pub is_rendezvous : Entry → Bool
is_rendezvous none = false
is_rendezvous (some (begins x o)) = false
is_rendezvous (some (cancels x)) = false
is_rendezvous (some ticks) = false
is_rendezvous (some (rendezvous s r)) = true
is_rendezvous (some (aborts x c)) = false

-- r tells whether a step of thread h is one, in every table in which it is a thread
abbrev pub TellsRendezvous : Thread → Bool → Type 0
TellsRendezvous h r = (t : Table) (x : ℕ) → at t x ≡ h → r ≡ is_rendezvous (event_of (decide t x) x h)
