use Rattle.std.proofs.Common.{sym, arith, ◌<◌, length}
use Rattle.std.proofs.lemmas.List.{get_or-take, length-take}
use Rattle.text.proofs.Words.{spaced_none, spaced_more}
use Rattle.text.proofs.Writing.{written_none, written_append}
use Rattle.showing.proofs.put_senders.Goals as goal

pub loop-sender-init : goal.loop-sender-init
loop-sender-init c = rw spaced_none (sym (written_none _))

pub loop-sender-preserved : goal.loop-sender-preserved
loop-sender-preserved c =
    let i = c.loop-sender.sender-index in
    let items = c.args.items.now in
    let first : i < c.min-most.result = omega (arith, length-take c.min-most.result items) in
    let there : i < length items = omega (arith, length-take c.min-most.result items) in
    let number = rw (c.from-in-loop-sender.ensures, get_or-take _ items i 0 first) at c.number.ensures in
    rw (spaced_more items i there, written_append, written_append, ← c.loop-sender.invariant, ← c.byte.ensures) number
