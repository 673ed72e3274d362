use Rattle.model.specs.RecordBytes.{lawful_set}
use Rattle.laws.proofs.Tests.{all-joined}
use Rattle.reading.proofs.begin_bytes.lawful_set.Goals as goal

pub returns : goal.returns
unfolding lawful_set
returns c = rw (c.receive_bit.ensures, c.open_bit.ensures) (all-joined _ _)
