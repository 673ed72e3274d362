use Rattle.std.proofs.Common.{sym, ◌∙◌}
use Rattle.rules.proofs.Counting.{row_counts, row-counts-not}
use Rattle.rules.proofs.count_row.Goals as goal

pub returns-then-in_range : goal.returns-then-in_range
returns-then-in_range c = row_counts c.args.n c.args.row c.args.s c.args.counts.now (sym c.in_range.ensures ∙ c.if-in_range.true) _ c.count_range.ensures

pub returns-else-in_range : goal.returns-else-in_range
returns-else-in_range c = row-counts-not c.args.n c.args.row c.args.s c.args.counts.now (sym c.in_range.ensures ∙ c.if-in_range.false) c.told-counts
