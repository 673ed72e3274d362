use Rattle.std.proofs.Common.{◌≤◌, ◌<◌, length, sym, ◌∙◌, arith, rules}
use Rattle.model.specs.Queues.{senders, search_place, find_sender}
use Rattle.laws.proofs.Queues.{senders-length}
use Rattle.laws.proofs.Search.{places-to, places-all}
use Rattle.queues.proofs.Laws.{read-inside, read_past}
use Rattle.queues.proofs.first_acceptable.Goals as goal

-- no sender fits
pub returns-then-n-place-clause-sender : goal.returns-then-n-place-clause-sender
unfolding find_sender senders
returns-then-n-place-clause-sender c = rw (← c.search-place.ensures) (read_past _ _ _ c.if-n-place.true)

pub returns-then-n-place-clause-read : goal.returns-then-n-place-clause-read
returns-then-n-place-clause-read c =
    let h = c.args.h in
    let long = senders-length h (search rules) c.requires in
    let end : length (senders h) ≤ search_place h = omega (arith, c.if-n-place.true, c.search-place.ensures) in
    sym (places-all h end ∙ long)

-- one does
pub returns-clause-sender : goal.returns-clause-sender
unfolding find_sender senders
returns-clause-sender c = rw (← c.search-place.ensures) (read-inside c.args.h.queue.items c.args.h.queue.len c.search-place.result c.if-n-place.false (search rules))

pub returns-clause-read : goal.returns-clause-read
returns-clause-read c =
    let h = c.args.h in
    let long = senders-length h (search rules) c.requires in
    let inside : search_place h < length (senders h) = omega (arith, c.if-n-place.false, c.search-place.ensures) in
    rw (places-to h inside) (omega arith)
