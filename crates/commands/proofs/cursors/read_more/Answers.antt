use Rattle.std.proofs.Common.{◌+◌, ◌-◌, arith}
use Rattle.std.proofs.lemmas.Result.{err_from_is_err_and}
use Rattle.commands.proofs.Reading.{more-end, more-full, more-stop, more-word}
use Rattle.commands.proofs.cursors.read_more.Goals as goal

-- no word is left
pub returns-then-word : goal.returns-then-word
returns-then-word c = more-end c.loop-read.invariant _ c.next_word-word.ensures c.if-word.true

-- it is no such number
pub returns-in_err-last : goal.returns-in_err-last
returns-in_err-last c =
    let p = err_from_is_err_and c.from_residual.result c.from_residual.ensures.1 in
    rw (p.1, p.2) (more-stop c.loop-read.invariant _ c.next_word-word.ensures c.if-word.false {fewer = c.args.most - (c.loop-read._read + 1)} (omega arith) c.in_err-last.ensures)

-- one more
pub loop-read-preserved : goal.loop-read-preserved
loop-read-preserved c =
    more-word c.loop-read.invariant _ c.next_word-word.ensures c.if-word.false {fewer = c.args.most - (c.loop-read._read + 1)} (omega arith) c.in_ok-last.ensures

-- nothing more stands there
pub returns-then-word-2 : goal.returns-then-word-2
returns-then-word-2 c = more-end c.loop-read.invariant _ c.next_word-word-2.ensures c.if-word-2.true

-- too much does
pub returns : goal.returns
returns c = more-full c.loop-read.invariant _ c.next_word-word-2.ensures c.if-word-2.false (omega arith)
