use Rattle.std.proofs.Common.{◌≡◌, ◌∙◌, ap, min, get_or, pos, arith}
use Rattle.model.specs.Codes.{codes}
use Rattle.model.specs.Counting.{digit_of}
use Rattle.digits.proofs.Codes.{digit_at}
use Rattle.digits.proofs.code_of.Goals as goal

pub returns : goal.returns
returns c small =
    let low : c.min.result ≡ c.args.digit = omega arith in
    rw low (digit_at c.args.digit small)
