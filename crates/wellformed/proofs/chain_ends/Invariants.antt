use Rattle.wellformed.specs.Links.{owner_at}
use Rattle.wellformed.proofs.Chains.{Followed}
use Rattle.wellformed.proofs.chain_ends.Given as goal

-- as many owners were followed as the loop has turns behind it
abbrev pub invariant-loop : goal.invariant-loop
invariant-loop l = Followed l.table.n (owner_at l.table) l.r l.counter l.owner
