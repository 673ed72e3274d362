use Rattle.std.proofs.Common.{◌≡◌, ◌∙◌, sym, length, rules}
use Rattle.comparison.proofs.Entries.{good-read, bad-sends, bad-receives, both-good}
use Rattle.comparison.proofs.compare.Goals as goal

-- a bad log of sends
pub returns-then-not-is_good : goal.returns-then-not-is_good
returns-then-not-is_good c = bad-sends _ _ (sym c.is_good.ensures ∙ c.if-not-is_good.true)

-- of receives
pub returns-then-not-is_good-2 : goal.returns-then-not-is_good-2
returns-then-not-is_good-2 c = bad-receives _ _ (sym c.is_good.ensures ∙ c.if-not-is_good.false) (sym c.is_good-2.ensures ∙ c.if-not-is_good-2.true)

pub compare_good-requires-clause-good : goal.compare_good-requires-clause-good
compare_good-requires-clause-good c =
    let whole : length c.args.sends.entries ≡ 512 = search rules in
    good-read c.args.sends whole (sym c.is_good.ensures ∙ c.if-not-is_good.false)

pub compare_good-requires-clause-good_2 : goal.compare_good-requires-clause-good_2
compare_good-requires-clause-good_2 c =
    let whole : length c.args.receives.entries ≡ 512 = search rules in
    good-read c.args.receives whole (sym c.is_good-2.ensures ∙ c.if-not-is_good-2.false)

-- both are good
pub returns : goal.returns
returns c = c.compare_good.ensures ∙ both-good _ _ (sym c.is_good.ensures ∙ c.if-not-is_good.false) (sym c.is_good-2.ensures ∙ c.if-not-is_good-2.false)
