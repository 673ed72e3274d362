use Rattle.std.proofs.Common.{rules, arith}
use Rattle.std.proofs.lemmas.List.{length-append}
use Rattle.model.specs.Lists.{up_to}
use Rattle.model.specs.Bondtrace.{ascii}
use Rattle.language.specs.RecordText.{record_text}
use Rattle.text.proofs.Writing.{printed, written_front, written_joined}
use Rattle.schedule_text.proofs.texts.put_line.Goals as goal

pub returns : goal.returns
unfolding record_text ascii up_to
returns c =
    printed (written_front c.byte.new.self c.len.ensures c.new-line.ensures (search rules) (rw (c.byte.ensures, c.put_record.ensures.written) (simp written_joined)))
    (rw length-append (omega (arith, c.put_record.ensures.item_len_bound)))
