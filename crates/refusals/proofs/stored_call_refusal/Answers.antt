use Rattle.std.proofs.Common.{refl}
use Rattle.refusals.proofs.Calls.{stored_there}
use Rattle.refusals.proofs.stored_call_refusal.Goals as goal

pub returns-clause-there : goal.returns-clause-there
returns-clause-there c = stored_there c.args.table _ c.in_ok-table_refusal.ensures _ _ (c.argument_refusal.ensures c.args.table refl)
