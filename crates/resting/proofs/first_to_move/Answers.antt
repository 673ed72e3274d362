use Rattle.std.proofs.Common.{sym, ◌∙◌}
use Rattle.resting.proofs.Trying.{none_tried, all-tried, goes_on, stops-here}
use Rattle.resting.proofs.first_to_move.Goals as goal

pub loop-x-init : goal.loop-x-init
loop-x-init c = none_tried _ c.requires

pub would_stay-requires : goal.would_stay-requires
would_stay-requires c = record { table_value = c.loop-x.invariant.formed; x_lt_n = c.loop-x-test.true }

pub loop-x-preserved : goal.loop-x-preserved
loop-x-preserved c = goes_on c.loop-x.invariant c.loop-x-test.true (sym c.would_stay.ensures ∙ c.if-not-would_stay.false)

pub returns-then-not-would_stay : goal.returns-then-not-would_stay
returns-then-not-would_stay c = (stops-here c.loop-x.invariant c.loop-x-test.true (sym c.would_stay.ensures ∙ c.if-not-would_stay.true), c.loop-x-test.true)

pub returns : goal.returns
returns c = all-tried c.loop-x.invariant c.loop-x-test.false
