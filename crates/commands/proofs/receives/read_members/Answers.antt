use Rattle.std.proofs.lemmas.Result.{err_from_is_err_and}
use Rattle.std.proofs.Common.{arith, ap}
use Rattle.language.specs.Commands.{read_one_of}
use Rattle.commands.proofs.Spelling.{spells_as}
use Rattle.commands.proofs.Partners.{thread-small, members-wrong, members-last, members-more}
use Rattle.commands.proofs.receives.read_members.Goals as goal

-- the next is no thread
pub returns-in_err-value : goal.returns-in_err-value
returns-in_err-value c =
    let p = err_from_is_err_and c.from_residual.result c.from_residual.ensures.1 in
    rw (p.1, p.2) (members-wrong _ _ _ c.requires.within c.loop-value.invariant _ c.piece_end-end.ensures _ _ c.in_err-value.ensures)

-- it is one, below 32
pub with_member-set-requires : goal.with_member-set-requires
with_member-set-requires c = omega (arith, c.low_byte.ensures, thread-small _ _ c.in_ok-value.ensures)

-- it is the last
pub returns-then-end-word : goal.returns-then-end-word
returns-then-end-word c =
    let last = members-last _ _ _ c.requires.within c.loop-value.invariant _ c.piece_end-end.ensures _ c.in_ok-value.ensures _ _ c.low_byte.ensures c.with_member-set.ensures c.if-end-word.true in
    spells_as _ _ (ap (read_one_of c.args.send) last) c.read_one_of.ensures

-- more follow
pub loop-value-preserved : goal.loop-value-preserved
loop-value-preserved c =
    members-more _ _ _ c.requires.within c.loop-value.invariant _ c.piece_end-end.ensures _ c.in_ok-value.ensures _ _ c.low_byte.ensures c.with_member-set.ensures c.if-end-word.false
