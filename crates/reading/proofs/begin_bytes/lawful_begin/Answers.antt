use Rattle.model.specs.RecordBytes.{parts_byte, send_bit, lawful_begin}
use Rattle.reading.proofs.Begins.{begin-joined}
use Rattle.reading.proofs.begin_bytes.lawful_begin.Goals as goal

pub returns : goal.returns
unfolding lawful_begin
returns c =
    let sends = send_bit (parts_byte c.args.bytes.now) in
    rw (c.send_bit-sends.ensures, c.receive_bit-receives.ensures, c.open_bit-open.ensures, c.no_word_past.ensures) (begin-joined _ _ _ sends _ _ _ _)
