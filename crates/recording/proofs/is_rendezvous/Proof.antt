use Rattle.recording.proofs.Copied.{tells-own}
use Rattle.recording.proofs.is_rendezvous.Statement.{statement}
use Rattle.recording.proofs.is_rendezvous.Tie as tie

returns : tie.Need-returns
returns c = tells-own _

pub is_rendezvous_spec : {M : Type 1} → statement M
is_rendezvous_spec = tie.close (tie.spec returns)
