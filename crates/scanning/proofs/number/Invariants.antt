use Rattle.scanning.proofs.Numbers.{Digits}
use Rattle.scanning.proofs.number.Given as goal

-- the bytes so far are digits, and the value is theirs
abbrev pub invariant-loop-byte : goal.invariant-loop-byte
invariant-loop-byte l = Digits l.word l.value l.byte-index
