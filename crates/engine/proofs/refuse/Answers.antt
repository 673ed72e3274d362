use Rattle.engine.proofs.Refused.{refused_promise}
use Rattle.engine.proofs.refuse.Goals as goal

pub returns-clause-promised : goal.returns-clause-promised
returns-clause-promised c = λ k store e. refused_promise k c.args.table store c.args.by _ c.into.ensures e
