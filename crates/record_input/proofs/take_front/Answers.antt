use Rattle.std.proofs.Common.{arith, ◌≤◌, length}
use Rattle.model.specs.RecordBytes.{record_length}
use Rattle.laws.proofs.Schedule.{record_head, record_longest}
use Rattle.record_input.proofs.Accepted.{accepts-other, record_whole}
use Rattle.record_input.proofs.take_front.Goals as goal

-- a record that was read has all its bytes, four or more
pub returns : goal.returns
returns c =
    let kind = c.read-decoded.result.item.kind in
    let whole : record_length kind ≤ length c.args.bytes.now = record_whole _ _ _ _ c.read-decoded.ensures (accepts-other _ c.in_default.not-Refused) in (
      c.read-decoded.ensures.reads,
      omega (arith, c.record_length.ensures, record_head kind),
      omega (arith, c.record_length.ensures, whole),
      omega (arith, c.record_length.ensures, record_longest kind),
    )
