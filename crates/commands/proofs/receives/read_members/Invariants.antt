use Rattle.std.proofs.Common.{◌+◌, ◌-◌}
use Rattle.commands.proofs.Partners.{Members}
use Rattle.commands.proofs.receives.read_members.Given as goal

-- the partners before a place are in the set
abbrev pub invariant-loop-value : goal.invariant-loop-value
invariant-loop-value l = Members l.line l.word.start l.word.end l.set l.start

-- how many bytes are left
abbrev pub decreases-loop-value : goal.decreases-loop-value
decreases-loop-value l = l.word.end + 1 - l.start
