use Rattle.std.proofs.Common.{◌≡◌, length}
use Rattle.model.specs.RecordBytes.{longest_record}
use Rattle.vectors.proofs.cases.operation.Given as goal

-- the record keeps its length
abbrev pub invariant-loop-i : goal.invariant-loop-i
invariant-loop-i l = longest_record ≡ length l.bytes
