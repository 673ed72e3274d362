use Rattle.comparison.proofs.Entries.{column_read}
use Rattle.comparison.proofs.compare_good.Goals as goal

pub invariant_of-ours : goal.invariant_of-ours
invariant_of-ours c = record { good = c.requires.good; column = column_read c.args.sends.now c.pairs_of-sent.result c.pairs_of-sent.ensures }

pub invariant_of-theirs : goal.invariant_of-theirs
invariant_of-theirs c = record { good = c.requires.good_2; column = column_read c.args.receives.now c.pairs_of-received.result c.pairs_of-received.ensures }
