-- A new table stands for the atomic machine in which nothing has run yet.
use mathlib.Core.Path.{◌≡◌, refl}
use mathlib.Core.List.{List}
use Prim.Native.Nat.{ℕ, ◌≤◌}
use native.Mathlib.Omega.{arith}
use Rattle.model.specs.Codes.{nobody}
use Rattle.model.specs.Threads.{new_thread, new_table, at}
use Rattle.model.specs.Atomic.{first_machine}
use Rattle.model.specs.Phases.{is_one_of}
use Rattle.formed.specs.Groups.{copies_to}
use Rattle.invariant.proofs.New.{new-at}
use Rattle.simulation.proofs.Abstraction.{abstraction, Copied, copies-nowhere}
use Rattle.simulation.proofs.Leads.{Like}

-- a new thread copies to nobody
new-copies : copies_to new_thread ≡ nobody
unfolding copies_to is_one_of new_thread
new-copies = refl

module _ (n : ℕ) (small : n ≤ 32) (store : List ℕ) where
  -- each thread is as the atomic machine has it at first
  pub first-like : Like n first_machine (at (new_table n)) store
  unfolding abstraction new_thread
  first-like y yn = rw (new-at n y (omega arith)) refl

  -- no word has been copied
  pub first-copied : Copied n (at (new_table n)) store
  first-copied y yn = rw (new-at n y (omega arith)) (copies-nowhere n store new_thread (omega arith) new-copies)
