use Rattle.std.proofs.Common.{arith}
use Rattle.std.proofs.lemmas.Result.{err_from_is_err_and}
use Rattle.commands.proofs.Reading.{lettered_more, lettered_stop, lettered_end}
use Rattle.commands.proofs.cursors.read_numbers.Goals as goal

-- reading stops
pub returns-in_err-last : goal.returns-in_err-last
returns-in_err-last c =
    let p = err_from_is_err_and c.from_residual.result c.from_residual.ensures.1 in
    rw (p.1, p.2) (lettered_stop c.loop-letter.invariant c.loop-letter-test.true c.in_err-last.ensures)

-- one letter more
pub loop-letter-preserved : goal.loop-letter-preserved
loop-letter-preserved c = lettered_more c.loop-letter.invariant c.loop-letter-test.true c.in_ok-last.ensures

-- every letter
pub returns : goal.returns
returns c = lettered_end c.loop-letter.invariant (omega arith)
