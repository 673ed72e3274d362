use Rattle.std.proofs.Common.{◌∙◌}
use Rattle.scanning.proofs.Pieces.{has-comma}
use Rattle.scanning.proofs.has_comma.Goals as goal

-- a comma is one of its bytes
pub returns : goal.returns
returns c = c.contains.ensures.value ∙ has-comma _
