use Rattle.std.proofs.Common.{◌≡◌, ◌≤◌, length}
use Rattle.model.specs.RecordBytes.{longest_record}
use Rattle.language.specs.RecordText.{threads_of, records_asked, lawful_row}
use Rattle.schedule_text.proofs.Lawful.{lawful_from}
use Rattle.schedule_text.proofs.bytes.write_records.Given as goal

-- what is gathered lies in the buffer, whose length is as it was; there are as many records as threads, none is longer than the longest, and all are lawful where those from place i on are
abbrev pub invariant-loop-i : goal.invariant-loop-i
invariant-loop-i g l = record {
  gathered : l.filled ≤ length l.out;
  same_length : length l.out ≡ length l.initial.out;
  as_many : l.count ≡ length (threads_of l.row l.numbers);
  short : l.size ≤ longest_record;
  rest : lawful_row l.first (records_asked l.row l.numbers l.op) ≡ lawful_from l.first l.row l.op (threads_of l.row l.numbers) l.i;
}
