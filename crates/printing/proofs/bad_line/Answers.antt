use Rattle.std.proofs.Common.{rules}
use Rattle.model.specs.Lists.{up_to}
use Rattle.model.specs.Bondtrace.{ascii, bad_line}
use Rattle.text.specs.Texts.{numbers_line}
use Rattle.text.proofs.Writing.{printed, writing}
use Rattle.printing.proofs.Bounds.{bad-short}
use Rattle.printing.proofs.bad_line.Goals as goal

pub returns : goal.returns
unfolding bad_line numbers_line ascii up_to
returns c = let short = bad-short _ _ c.ranges.number.fits c.ranges.place.fits in printed (search (rules, writing)) short
