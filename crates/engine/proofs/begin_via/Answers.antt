use Rattle.std.proofs.Common.{refl, sym}
use Rattle.laws.proofs.EntryPoints.{main-takes, promised_via}
use Rattle.engine.proofs.begin_via.Goals as goal

-- the core may run, as through the main entry
pub begin-requires : goal.begin-requires
begin-requires c = main-takes _ _ _ _ (sym (c.in-Ok.ensures _ refl))

-- what it promises is promised
pub returns-in-Ok : goal.returns-in-Ok
returns-in-Ok c = promised_via _ _ _ _ (sym (c.in-Ok.ensures _ refl)) _ _ c.begin.ensures
