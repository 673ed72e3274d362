use Rattle.std.proofs.Common.{refl, rules}
use Rattle.model.proofs.Tested.{well_formed-told}
use Rattle.model.specs.Threads.{at}
use Rattle.laws.proofs.Rules.{fitting_few}
use Rattle.engine.proofs.Beginning.{begin-refuses, rules-decide}
use Rattle.engine.proofs.begin_refusal.Goals as goal

-- a well-formed table has at most 64 rows of rules
pub permit_refusal-requires : goal.permit_refusal-requires
permit_refusal-requires c = fitting_few c.args.table.n c.args.table.rules (well_formed-told c.args.table c.in_ok-stored_call_refusal.ensures.there.formed).rules

pub returns-in_err-begin_refusal : goal.returns-in_err-begin_refusal
unfolding at
returns-in_err-begin_refusal c = λ store fit. let e = begin-refuses _ _ _ _ _ _ fit c.in_ok-stored_call_refusal.ensures.number _ (c.in_err-begin_refusal.ensures _ refl refl) in search rules

pub returns : goal.returns
unfolding at
returns c = λ store fit. rules-decide _ _ _ _ _ _ fit c.in_ok-stored_call_refusal.ensures.number _ (c.in_ok-begin_refusal.ensures _ refl refl) (c.permit_refusal.ensures _ refl refl)
