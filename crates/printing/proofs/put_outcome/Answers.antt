use Rattle.std.proofs.Common.{rules}
use mir.Facts.{Fits-nat_abs}
use mir.Val.{SFits}
use mir.Syntax.{w32}
use Rattle.printing.proofs.Bounds.{outcome-short}
use Rattle.printing.proofs.put_outcome.Goals as goal

-- each number fits its width
pub returns-clause-shown_len_bound : goal.returns-clause-shown_len_bound
returns-clause-shown_len_bound c =
    let code : SFits w32 c.args.shown.code = search rules in
    outcome-short _ _ (search rules) (Fits-nat_abs {w' = w32} tt code).fits (search rules) (search rules)
