use Rattle.std.proofs.Common.{refl, sym, ◌∙◌, eq-eqb, ne_eqb, arith}
use Rattle.model.specs.Lists.{all_below}
use Rattle.language.specs.Grammar.{is_name}
use Rattle.laws.proofs.Below.{all-below-fails, all-below-more, all-below-end}
use Rattle.commands.proofs.rows.is_name.Goals as goal

-- no column so far
pub loop-i-init : goal.loop-i-init
unfolding all_below
loop-i-init c = refl

-- another byte
pub returns-then-byte_or_space-byte_of_row : goal.returns-then-byte_or_space-byte_of_row
unfolding is_name
returns-then-byte_or_space-byte_of_row c =
    all-below-fails _ _ _ c.loop-i-test.true (ne_eqb _ _ (λ e. c.if-byte_or_space-byte_of_row.true (c.byte_or_space.ensures ∙ e ∙ sym c.byte_of_row.ensures)))

-- the same byte
pub loop-i-preserved : goal.loop-i-preserved
loop-i-preserved c =
    all-below-more _ _ c.loop-i.invariant (eq-eqb _ _ (sym c.byte_or_space.ensures ∙ c.if-byte_or_space-byte_of_row.false ∙ c.byte_of_row.ensures))

-- every column
pub returns : goal.returns
unfolding is_name
returns c = all-below-end _ _ _ c.loop-i.invariant (omega arith)
