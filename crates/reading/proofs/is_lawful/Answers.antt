use Rattle.std.proofs.Common.{arith, sym, ◌∙◌, ◌≤◌, length}
use Rattle.model.specs.RecordBytes.{record_length, kind_byte}
use Rattle.laws.proofs.Schedule.{record_head}
use Rattle.reading.proofs.Fronts.{begin-long, lawful_cut, lawful-no-head, lawful-other, lawful-whole, first-begin, first-set}
use Rattle.reading.proofs.is_lawful.Goals as goal

pub returns-then-bytes-lt-HEAD_BYTES : goal.returns-then-bytes-lt-HEAD_BYTES
returns-then-bytes-lt-HEAD_BYTES c = sym (lawful_cut _ _ (omega (arith, record_head (kind_byte c.args.bytes.now))))

pub returns-then-not-lawful_head : goal.returns-then-not-lawful_head
returns-then-not-lawful_head c = sym (lawful-no-head _ _ (sym c.lawful_head.ensures ∙ c.if-not-lawful_head.true))

pub returns-then-not-is_begin : goal.returns-then-not-is_begin
returns-then-not-is_begin c =
    sym (lawful-other _ _ (sym c.lawful_head.ensures ∙ c.if-not-lawful_head.false) c.if-bytes-lt-HEAD_BYTES.false (sym c.is_begin.ensures ∙ c.if-not-is_begin.true))

pub returns-then-bytes-record_length : goal.returns-then-bytes-record_length
returns-then-bytes-record_length c = sym (lawful_cut _ _ (omega (arith, c.record_length.ensures, c.if-bytes-record_length.true)))

pub first_of-begin-requires : goal.first_of-begin-requires
first_of-begin-requires c =
    omega (arith, c.record_length.ensures, c.if-bytes-record_length.false, begin-long _ (sym c.is_begin.ensures ∙ c.if-not-is_begin.false))

pub returns : goal.returns
returns c =
    let bytes = c.args.bytes.now in
    let whole : record_length (kind_byte bytes) ≤ length bytes = omega (arith, c.record_length.ensures, c.if-bytes-record_length.false) in
    rw (c.lawful_begin.ensures, c.lawful_set.ensures, c.first_of-begin.ensures, first-begin bytes, first-set bytes)
    (sym (lawful-whole _ _ (sym c.lawful_head.ensures ∙ c.if-not-lawful_head.false) whole (sym c.is_begin.ensures ∙ c.if-not-is_begin.false)))
