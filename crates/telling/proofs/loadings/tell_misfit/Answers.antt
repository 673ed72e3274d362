use Rattle.std.proofs.Common.{sym}
use Rattle.model.specs.Lists.{up_to}
use Rattle.model.specs.Bondtrace.{ascii}
use Rattle.text.proofs.Writing.{written_none, written_joined}
use Rattle.telling.specs.Texts.{misfit_text}
use Rattle.telling.proofs.loadings.tell_misfit.Goals as goal

-- the rules fit: nothing is told
pub returns-in-Fits : goal.returns-in-Fits
unfolding misfit_text
returns-in-Fits c = rw c.in-Fits.is (sym (written_none _))

pub returns-in-TooMany : goal.returns-in-TooMany
unfolding misfit_text ascii up_to
returns-in-TooMany c = rw (c.tell_pair.ensures, c.bytes.ensures, c.pair_of-pair.ensures, c.in-TooMany.is) (simp written_joined)

pub returns-in-Gap : goal.returns-in-Gap
unfolding misfit_text ascii up_to
returns-in-Gap c = rw (c.tell_pair-in-Gap.ensures, c.bytes-in-Gap.ensures, c.pair_of-pair.ensures, c.in-Gap.is) (simp written_joined)

pub returns-in-Overlap : goal.returns-in-Overlap
unfolding misfit_text ascii up_to
returns-in-Overlap c = rw (c.tell_pair-in-Overlap.ensures, c.bytes-in-Overlap.ensures, c.pair_of-pair.ensures, c.in-Overlap.is) (simp written_joined)
