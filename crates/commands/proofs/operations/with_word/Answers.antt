use Rattle.std.proofs.Common.{◌≡◌, suc, min, arith}
use Rattle.language.specs.Commands.{with_word}
use Rattle.commands.proofs.operations.with_word.Goals as goal

-- its words and their number
pub returns : goal.returns
unfolding with_word
returns c =
    let more : c.saturating_add.result ≡ min 255 (suc c.args.send.count) = omega arith in
    rw (more, c.put_word.ensures)
