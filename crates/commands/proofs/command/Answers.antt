use Rattle.std.proofs.Common.{[]}
use Rattle.commands.proofs.Returned.{line-long, front-parses}
use Rattle.commands.proofs.command.Goals as goal

-- the line is too long
pub returns-then-end-gt-LINE_LIMIT-clause-parses : goal.returns-then-end-gt-LINE_LIMIT-clause-parses
returns-then-end-gt-LINE_LIMIT-clause-parses c = line-long _ [] _ c.without_return-end.ensures c.if-end-gt-LINE_LIMIT.true

-- its front is read
pub returns-clause-parses : goal.returns-clause-parses
returns-clause-parses c = front-parses _ _ _ c.without_return-end.ensures c.if-end-gt-LINE_LIMIT.false _ c.read_line.ensures
