use Rattle.commands.specs.declared.rows.TheConstants.{GRAMMAR}
use Rattle.commands.proofs.Table.{table-grammar, letters_found}
use Rattle.commands.proofs.rows.letters_of.Goals as goal

-- they stand before the first blank
pub returns : goal.returns
returns c = letters_found c.args.row.place _ c.args.row.is_row GRAMMAR table-grammar c.word_end.ensures
