use Rattle.std.proofs.Common.{◌&&◌, take, sym, ◌∙◌, rules}
use Rattle.std.proofs.lemmas.Iterator.{YieldsList-from_slice}
use Rattle.std.proofs.lemmas.Iterator.Search.{any_from_yields_List}
use borrow.Author.Tests.{tests, eq-eqb}
use Rattle.model.specs.Rules.{holds_pair}
use Rattle.rules.proofs.Rows.{permits-none, permits_any}
use Rattle.rules.proofs.permit.Goals as goal

pub returns-then-rules-eq0 : goal.returns-then-rules-eq0
returns-then-rules-eq0 c = eq-eqb _ _ c.if-rules-eq0.true ∙ sym (permits-none _ _ _ c.if-rules-eq0.true)

pub returns-else-rules-eq0 : goal.returns-else-rules-eq0
returns-else-rules-eq0 c =
    any_from_yields_List (λ row. holds_pair row c.args.s c.args.r && row.permits) _ _ c.any.result c.any.ensures.ran (YieldsList-from_slice (take c.args.rules.len c.args.rules.rows) (cc)) (λ x b f k. search (rules, tests))
    ∙ sym (permits_any c.args.rules c.args.s c.args.r c.if-rules-eq0.false)
