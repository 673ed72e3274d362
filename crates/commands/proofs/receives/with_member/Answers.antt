use Rattle.std.proofs.Common.{◌<◌, ◌^◌, sym, rules}
use Rattle.laws.proofs.Sets.{with_one-more}
use Rattle.commands.proofs.Members.{member-kept, member_added, member-bit}
use Rattle.commands.proofs.receives.with_member.Goals as goal

-- a member that the set has
pub returns-then-is_member : goal.returns-then-is_member
returns-then-is_member c = member-kept _ _ (sym c.if-is_member.ensures)

-- with another it has no more bits
pub overflow_add-result : goal.overflow_add-result
overflow_add-result c =
    let small : c.args.set < 2 ^ 32 = search rules in
    rw (member-bit c.args.s c.requires) (record { fits = with_one-more c.args.set c.args.s 32 small c.requires (sym c.if-is_member.ensures) })

-- it is added
pub returns : goal.returns
returns c = rw (member-bit c.args.s c.requires) (member_added c.args.set c.args.s (sym c.if-is_member.ensures))
