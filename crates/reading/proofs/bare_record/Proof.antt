use borrow.Author.Rules.{rules}
use Rattle.reading.proofs.bare_record.Statement.{statement}
use Rattle.reading.proofs.bare_record.Tie as tie

returns : tie.Need-returns
returns c = rw c.no_operation.ensures

pub bare_record_spec : {M : Type 1} → statement M
bare_record_spec = tie.close (tie.spec (λ c κs. search rules) returns)
