use Rattle.std.proofs.Common.{◌≡◌, sym, arith}
use Rattle.text.proofs.Writing.{written_none, written_append}
use Rattle.record_text.proofs.Texts.{sent-none, sent_more, sent_all}
use Rattle.record_text.proofs.put_sent.Goals as goal

pub loop-i-init : goal.loop-i-init
loop-i-init c = rw sent-none (sym (written_none _))

pub loop-i-preserved : goal.loop-i-preserved
loop-i-preserved c = rw (sent_more, written_append, ← c.loop-i.invariant, ← c.from.ensures, ← c.word_at.ensures) c.words.ensures.written

pub returns : goal.returns
returns c =
    let all : c.loop-i.i ≡ c.args.send.count = omega arith in
    let told = rw all at c.loop-i.invariant in
    rw (← sent_all c.args.send) told
