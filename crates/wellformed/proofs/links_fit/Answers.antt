use Rattle.std.proofs.Common.{refl, sym, ◌∙◌, arith}
use Rattle.model.specs.Lists.{all_below}
use Rattle.laws.proofs.Below.{all-below-fails, all-below-more, all-below-end}
use Rattle.wellformed.proofs.links_fit.Goals as goal

pub loop-r-init : goal.loop-r-init
unfolding all_below
loop-r-init c = refl

pub returns-then-not-link_fits : goal.returns-then-not-link_fits
returns-then-not-link_fits c = all-below-fails _ _ c.loop-r.r c.loop-r-test.true (sym c.link_fits.ensures ∙ c.if-not-link_fits.true)

pub loop-r-preserved : goal.loop-r-preserved
loop-r-preserved c = all-below-more _ _ c.loop-r.invariant (sym c.link_fits.ensures ∙ c.if-not-link_fits.false)

pub returns : goal.returns
returns c = all-below-end _ _ c.loop-r.r c.loop-r.invariant (omega arith)
