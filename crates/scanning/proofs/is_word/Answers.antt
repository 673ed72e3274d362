use Rattle.std.proofs.Common.{◌∙◌}
use Rattle.scanning.proofs.Runs.{same-pointwise}
use Rattle.scanning.proofs.is_word.Goals as goal

-- words are the same byte by byte
pub returns : goal.returns
returns c = c.eq.ensures ∙ same-pointwise _ _
