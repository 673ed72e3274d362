use Rattle.std.proofs.Common.{rules}
use Rattle.model.specs.Lists.{up_to}
use Rattle.model.specs.Bondtrace.{ascii}
use Rattle.text.proofs.Writing.{written_joined}
use mir.Facts.{to_z-of_z}
use mir.Syntax.{w32}
use mir.Val.{SFits}
use Rattle.showing.specs.Shown.{outcome_text}
use Rattle.showing.proofs.put_outcome.Goals as goal

pub returns : goal.returns
unfolding outcome_text ascii up_to
returns c =
    let code : SFits w32 c.args.outcome.code = search rules in
    rw (c.number-2.ensures, c.byte-2.ensures, c.number.ensures, c.byte.ensures, c.signed.ensures, c.bytes.ensures, c.from.ensures, c.from-2.ensures, to_z-of_z code) (simp written_joined)
