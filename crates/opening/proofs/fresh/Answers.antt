use Rattle.std.proofs.Common.{ap}
use Rattle.model.specs.declared.Table.{Table}
use Rattle.opening.specs.Opened.{opened}
use Rattle.opening.proofs.fresh.Goals as goal

pub returns : goal.returns
unfolding opened
returns c = ap (λ (t : Table). record { table = t; records = 1; refused = 0; place = 4 }) c.new_table.ensures
