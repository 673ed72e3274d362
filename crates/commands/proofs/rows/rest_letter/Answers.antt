use Rattle.language.specs.Grammar.{rest_letter}
use Rattle.commands.proofs.rows.rest_letter.Goals as goal

-- it is in the last column
pub returns : goal.returns
unfolding rest_letter
returns c = c.byte_of_row.ensures
