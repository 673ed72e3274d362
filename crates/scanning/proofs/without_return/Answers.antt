use Rattle.std.proofs.Common.{sym, refl}
use Rattle.scanning.proofs.Runs.{shortened_return, shortened_other}
use Rattle.scanning.proofs.without_return.Goals as goal

-- a CR at the end
pub returns-then-ends_with : goal.returns-then-ends_with
returns-then-ends_with c = shortened_return _ (c.if-ends_with.ensures.bound refl) (sym c.if-ends_with.ensures.value)

-- none
pub returns-else-ends_with : goal.returns-else-ends_with
returns-else-ends_with c = shortened_other _ (sym c.if-ends_with.ensures.value)
