use Rattle.std.proofs.Common.{◌≡◌, true}
use Rattle.model.specs.Lists.{all_below}
use Rattle.wellformed.specs.Links.{number_at, target_at, owner_at, held_at, link_fits}
use Rattle.wellformed.proofs.links_fit.Given as goal

-- the first r threads fit together with the others
abbrev pub invariant-loop-r : goal.invariant-loop-r
invariant-loop-r l = all_below l.r (link_fits l.table.n (number_at l.waits) (target_at l.table) (owner_at l.table) (held_at l.table)) ≡ true
