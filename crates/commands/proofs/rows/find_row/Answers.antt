use Rattle.std.proofs.Common.{◌≡◌, ◌+◌, sym, ◌∙◌, arith}
use Rattle.commands.proofs.Table.{find-here, find-next, find_none}
use Rattle.commands.proofs.rows.find_row.Goals as goal

-- the word names the row
pub returns-then-is_name : goal.returns-then-is_name
returns-then-is_name c = (sym c.loop-place.invariant ∙ find-here _ _ _ c.loop-place-test.true (sym c.if-is_name.ensures), c.loop-place-test.true)

-- or a later one
pub loop-place-preserved : goal.loop-place-preserved
loop-place-preserved c = find-next _ _ _ c.loop-place-test.true (sym c.if-is_name.ensures) ∙ c.loop-place.invariant

-- or none
pub returns : goal.returns
returns c =
    let all : c.loop-place.place ≡ c.args.first + c.args.count = omega arith in
    sym c.loop-place.invariant ∙ find_none _ _ _ c.loop-place-test.false ∙ all
