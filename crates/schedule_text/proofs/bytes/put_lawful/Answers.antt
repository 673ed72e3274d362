use Rattle.roundtrip.proofs.Typed.{record_typed}
use Rattle.record_input.proofs.Accepted.{accepts-other}
use Rattle.schedule_text.proofs.Lawful.{accepted-lawful, refused-unlawful}
use Rattle.schedule_text.proofs.bytes.put_lawful.Goals as goal

-- a record that is refused, though there is room for it
pub returns-in-Refused : goal.returns-in-Refused
returns-in-Refused c = refused-unlawful c.write.ensures c.in-Refused.is (record_typed c.args.item _ c.well_formed.1.0).op.eight c.requires

-- one that is not
pub returns-in_default : goal.returns-in_default
returns-in_default c = accepted-lawful c.write.ensures (accepts-other _ c.in_default.not-Refused)
