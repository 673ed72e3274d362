use Rattle.std.proofs.Common.{◌+◌, ◌*◌, ap, get_or}
use Rattle.language.specs.Grammar.{column}
use Rattle.commands.proofs.Table.{table-grammar}
use Rattle.commands.proofs.rows.byte_of_row.Goals as goal

-- it is that of the table
pub returns : goal.returns
unfolding column
returns c = ap (λ table. get_or table (21 * c.args.row.place + c.args.i) 0) table-grammar
