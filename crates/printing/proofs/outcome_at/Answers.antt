use Rattle.std.proofs.Common.{ap, arith}
use Rattle.model.specs.declared.Thread.{Thread}
use Rattle.model.specs.Threads.{at, zero_thread}
use Rattle.printing.proofs.outcome_at.Goals as goal

pub returns-in-Some : goal.returns-in-Some
unfolding at
returns-in-Some c =
    let read = c.in-Some.ensures.lookup.4 (omega arith) zero_thread in
    ap (λ (h : Thread). h.outcome) (rw c.from.ensures at read)
