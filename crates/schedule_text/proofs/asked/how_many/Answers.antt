use Rattle.std.proofs.Common.{◌≡◌, length, get_or, sym, ap, arith, ◌∙◌}
use Rattle.std.proofs.lemmas.Grind.{common_steps}
use Rattle.schedule_text.proofs.Named.{named-threads, tick-many}
use Rattle.schedule_text.proofs.asked.how_many.Goals as goal

-- as many as the numbers
pub returns-then-row-ne-TICK_ROW : goal.returns-then-row-ne-TICK_ROW
returns-then-row-ne-TICK_ROW c = sym (ap length (named-threads _ _ c.if-row-ne-TICK_ROW.true))

-- as many as the first of them says, or one
pub returns : goal.returns
returns c =
    let first : c.unwrap_or.result ≡ get_or c.args.numbers.now 0 1 = grind (arith, common_steps) in
    first ∙ sym (tick-many _ _ c.if-row-ne-TICK_ROW.false)
