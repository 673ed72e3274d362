use Rattle.std.proofs.Common.{◌≡◌, length, take}
use Rattle.model.specs.Lists.{up_to}
use Rattle.model.specs.RecordBytes.{word_at}
use Rattle.reading.proofs.begin_bytes.words_at.Given as goal

-- the first i words are read
abbrev pub invariant-loop-i : goal.invariant-loop-i
invariant-loop-i l = record {
  eight : length l.words ≡ 8;
  read : take l.i l.words ≡ up_to l.i (word_at l.bytes);
}
