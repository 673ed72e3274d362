-- What the code tests between threads, over what it reads of each thread.
use Rattle.std.specs.Prelude.{Bool, not, List, [], ◌∷◌, ℕ, suc, get_or, eqb, ltb}
use Rattle.model.specs.declared.Thread.{Thread}
use Rattle.model.specs.declared.Table.{Table}
use Rattle.model.specs.Lists.{implies, all_of, all_below}
use Rattle.model.specs.Threads.{at}
use Rattle.model.specs.Queues.{ready}
use Rattle.model.specs.Locks.{lock_held}
use Rattle.model.specs.WellFormed.{chain, within}
use Rattle.formed.specs.Groups.{copies_to}
use Rattle.clauses.specs.Alone.{target_of}

-- the number that an array has for thread x
abbrev pub number_at : List ℕ → ℕ → ℕ
number_at l x = get_or l x 0

-- to whom thread x of a table sends, who owns its lock, and whose lock it holds
abbrev pub target_at : Table → ℕ → ℕ
target_at t x = target_of (at t x)

abbrev pub owner_at : Table → ℕ → ℕ
owner_at t x = (at t x).owner

abbrev pub held_at : Table → ℕ → ℕ
held_at t x = lock_held (at t x)

-- a thread of the table to which r points, there, points back to r
unfoldable pub points_back : ℕ → (ℕ → ℕ) → ℕ → ℕ → Bool
points_back n back there r = implies (ltb there n) (eqb (back there) r)

-- the chain of lock owners from r does not come back within n owners
unfoldable pub chain_ends : ℕ → (ℕ → ℕ) → ℕ → Bool
chain_ends n owner r = all_below n (λ k. not (eqb (chain (within n owner) (suc k) r) r))

-- thread r waits where it sends to; the owner of its lock holds it, and it owns the lock that it holds; its chain of owners ends
unfoldable pub link_fits : ℕ → (ℕ → ℕ) → (ℕ → ℕ) → (ℕ → ℕ) → (ℕ → ℕ) → ℕ → Bool
link_fits n waits target owner holds r = all_of (
    eqb (waits r) (target r)
    ∷ points_back n holds (owner r) r
    ∷ points_back n owner (holds r) r
    ∷ chain_ends n owner r
    ∷ []
    )

-- the thread to which thread x, which is h, copies is ready for x, if it is one of the table
abbrev pub copy_ready : Table → ℕ → Thread → Bool
copy_ready t x h = implies (ltb (copies_to h) t.n) (ready (at t (copies_to h)) x)
