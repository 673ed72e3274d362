use Rattle.std.proofs.Common.{arith, ◌≡◌, eq-eqb, ne_eqb}
use Rattle.model.specs.RecordBytes.{set_kind, kind_byte}
use Rattle.model.specs.Decoding.{operation_of, set_operation_of, operation_by}
use Rattle.laws.proofs.Schedule.{record_set, must_set}
use Rattle.reading.proofs.Fronts.{begin-long, first-operation, first-receive}
use Rattle.reading.proofs.operation_at.Goals as goal

pub first_of-begin-requires : goal.first_of-begin-requires
first_of-begin-requires c = omega (arith, c.requires.bytes_in_bounds, begin-long _ c.requires.bytes_value)

pub bounds-bytes-2 : goal.bounds-bytes-2
bounds-bytes-2 c = omega (arith, c.requires.bytes_in_bounds, begin-long _ c.requires.bytes_value)

pub returns-then-bytes-eq-BEGIN : goal.returns-then-bytes-eq-BEGIN
unfolding operation_by operation_of
returns-then-bytes-eq-BEGIN c =
    rw (c.send_at-send.ensures, c.receive_at-receive.ensures, c.first_of-begin.ensures, eq-eqb _ _ c.if-bytes-eq-BEGIN.true) (first-operation c.args.bytes.now)

pub first_of-requires : goal.first_of-requires
first_of-requires c =
    omega (arith, c.requires.bytes_in_bounds, record_set _ (must_set _ c.requires.bytes_value c.if-bytes-eq-BEGIN.false))

pub returns : goal.returns
unfolding operation_by set_operation_of
returns c =
    let is_set : kind_byte c.args.bytes.now ≡ set_kind = must_set _ c.requires.bytes_value c.if-bytes-eq-BEGIN.false in
    rw (c.send_at-send.ensures, first-receive _ _ _ c.first_of.ensures c.set_at-receive.ensures, c.first_of-begin.ensures, first-operation c.args.bytes.now, ne_eqb _ _ c.if-bytes-eq-BEGIN.false, eq-eqb _ _ is_set)
