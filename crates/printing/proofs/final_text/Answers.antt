use Rattle.std.proofs.Common.{rules, refl}
use Rattle.model.specs.Bondtrace.{ascii}
use Rattle.model.specs.Lists.{up_to}
use Rattle.text.proofs.Writing.{printed, written_joined, written_front}
use Rattle.printing.proofs.Bounds.{final_short}
use Rattle.printing.proofs.Texts.{final_parts}
use Rattle.printing.proofs.final_text.Goals as goal

pub returns : goal.returns
unfolding ascii up_to
returns c =
    let short = final_short _ c.ranges.records.fits c.ranges.refused.fits c.put_threads.ensures.n_len_bound in
    printed (written_front c.put_threads.new.out c.len.ensures c.new-text.ensures (search rules) (rw (c.put_threads.ensures.written, c.numbers.ensures, written_joined, final_parts) refl)) short
