use Rattle.std.proofs.Common.{sym, eq-eqb, ne_eqb}
use Rattle.language.specs.Grammar.{takes_choice}
use Rattle.letters.proofs.Measures.{negative_some, digits-chosen, digits-behind, digits-whole}
use Rattle.letters.proofs.amount_of.Goals as goal

-- yes or no
pub returns-then-letter-eq-CHOICE : goal.returns-then-letter-eq-CHOICE
unfolding takes_choice
returns-then-letter-eq-CHOICE c = rw (digits-chosen _ _ (eq-eqb _ _ c.if-letter-eq-CHOICE.true)) c.chosen.ensures

-- a word with a sign has a first byte
pub slice_bounds-measured-count : goal.slice_bounds-measured-count
slice_bounds-measured-count c = negative_some _ _ (sym c.if-is_negative.ensures)

-- and what stands behind it
pub slice_bounds-measured-start : goal.slice_bounds-measured-start
slice_bounds-measured-start c = negative_some _ _ (sym c.if-is_negative.ensures)

-- the digits stand behind the sign
pub returns-then-is_negative : goal.returns-then-is_negative
unfolding takes_choice
returns-then-is_negative c =
    rw (digits-behind _ _ (ne_eqb _ _ c.if-letter-eq-CHOICE.false) (sym c.if-is_negative.ensures)) c.measured.ensures

-- or are the whole word
pub returns : goal.returns
unfolding takes_choice
returns c = rw (digits-whole _ _ (ne_eqb _ _ c.if-letter-eq-CHOICE.false) (sym c.if-is_negative.ensures)) c.measured-2.ensures
