use Rattle.std.proofs.Common.{arith}
use Rattle.clauses.proofs.Held.{held-target, held-woken, held-none}
use Rattle.clauses.proofs.lock_held.Goals as goal

pub returns-in-2 : goal.returns-in-2
returns-in-2 c = held-target c.args.h (omega arith) (omega arith)

pub returns-in-7 : goal.returns-in-7
returns-in-7 c = held-woken c.args.h (omega arith) (omega arith)

pub returns-in_default : goal.returns-in_default
returns-in_default c = held-none c.args.h (λ l. omega arith) (λ l. omega arith)

pub returns-in_default-2 : goal.returns-in_default-2
returns-in_default-2 c = held-none c.args.h (λ l. omega arith) (λ l. omega arith)

pub returns-in_default-3 : goal.returns-in_default-3
returns-in_default-3 c = held-none c.args.h (λ l. omega arith) (λ l. omega arith)
