use Rattle.played_text.proofs.Ending.{bad-written, end-written}
use Rattle.played_text.proofs.end_text.Goals as goal

-- bytes are left
pub returns-then-left-ne0 : goal.returns-then-left-ne0
returns-then-left-ne0 c = bad-written _ _ _ _ _ _ c.if-left-ne0.true c.bad_line.ensures

-- none is
pub returns : goal.returns
returns c = end-written _ _ _ _ _ _ c.if-left-ne0.false c.requires c.final_text.ensures
