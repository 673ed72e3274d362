use Rattle.played_text.proofs.Refusing.{refused-written}
use Rattle.played_text.proofs.refused_text.Goals as goal

pub returns : goal.returns
returns c = refused-written _ _ _ _ _ c.requires.number_value c.requires.number_nonzero c.bad_line.ensures
