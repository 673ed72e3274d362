use Rattle.std.proofs.Common.{sym}
use Rattle.text.proofs.Writing.{written_none, written_append}
use Rattle.printing.proofs.Bounds.{none-short, one-more-short}
use Rattle.printing.proofs.Texts.{threads-none, threads_more}
use Rattle.printing.proofs.put_threads.Goals as goal

pub loop-x-init : goal.loop-x-init
loop-x-init c = record {
  told = rw threads-none (sym (written_none _));
  short = none-short _;
}

pub loop-x-preserved : goal.loop-x-preserved
loop-x-preserved c =
    let own = sym c.outcome_at.ensures in
    let lines = c.loop-x.invariant in
    record {
      told = rw (threads_more, written_append, ← lines.told) (c.put_thread.ensures.written c.args.table own);
      short = one-more-short _ _ lines.short (c.put_thread.ensures.x_len_bound c.args.table own);
    }
