use Rattle.std.proofs.Common.{◌≡◌}
use Rattle.text.specs.Writing.{written}
use Rattle.record_text.proofs.Texts.{first_sent}
use Rattle.record_text.proofs.put_sent.Given as goal

-- the first words are written
abbrev pub invariant-loop-i : goal.invariant-loop-i
invariant-loop-i l = l.out ≡ written (first_sent l.send l.i) l.initial.out
