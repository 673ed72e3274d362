-- Places in a queue: the first place of a sender, and the queue with one place gone.
use Rattle.std.specs.Prelude.{List, ◌++◌, ℕ, suc, ◌-◌, take, drop, eqb}
use Rattle.std.proofs.Math.Seq.{slice}
use Rattle.model.specs.declared.Queue.{Queue}
use Rattle.model.specs.Lists.{place_where}

-- the first place of s in a list; the list's length where it has none
abbrev pub place_of : ℕ → List ℕ → ℕ
place_of s l = place_where (λ a. eqb a s) l

-- a list with what stands after place p, up to place last, moved up by one; place last and those after it are as they were
unfoldable pub moved_up : ℕ → ℕ → List ℕ → List ℕ
moved_up p last l = take p l ++ slice (suc p) (suc last) l ++ drop last l

-- a queue with place p gone
unfoldable pub gap_closed : ℕ → Queue → Queue
gap_closed p q = record { items = moved_up p (q.len - 1) q.items; len = q.len - 1 }
