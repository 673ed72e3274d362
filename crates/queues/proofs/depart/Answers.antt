use Rattle.std.proofs.Common.{refl}
use Rattle.model.specs.Queues.{senders, departed}
use Rattle.queues.specs.Places.{gap_closed}
use Rattle.queues.proofs.Laws.{place-there, moved-without}
use Rattle.queues.proofs.depart.Goals as goal

-- s stands in the queue
pub close_gap-shorter-requires-clause-place_lt_len : goal.close_gap-shorter-requires-clause-place_lt_len
unfolding senders
close_gap-shorter-requires-clause-place_lt_len c = rw c.place_of-place.ensures (place-there c.args.s c.args.h.queue.len c.args.h.queue.items c.requires.bound)

pub returns : goal.returns
unfolding departed senders gap_closed
returns c =
    let q = c.args.h.queue in
    rw (c.close_gap-shorter.ensures, c.place_of-place.ensures, moved-without c.args.s q.len q.items c.requires.bound) refl
