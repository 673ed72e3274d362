use Rattle.std.proofs.Common.{◌≡◌, length}
use Rattle.writing.proofs.Words.{words_put}
use Rattle.writing.proofs.put_words.Given as goal

-- the first i words are put
abbrev pub invariant-loop-i : goal.invariant-loop-i
invariant-loop-i l = record {
  same_length : length l.bytes ≡ length l.initial.bytes;
  eight : length l.words ≡ 8;
  put : l.bytes ≡ words_put l.initial.bytes l.words l.i;
}
