use Rattle.reading.proofs.Begins.{Passed}
use Rattle.reading.proofs.begin_bytes.no_word_past.Given as goal

-- the words before i are counted, or 0
abbrev pub invariant-loop-i : goal.invariant-loop-i
invariant-loop-i l = Passed l.bytes l.count l.i
