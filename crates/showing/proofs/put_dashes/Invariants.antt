use Rattle.std.proofs.Common.{◌≡◌}
use Rattle.text.specs.Writing.{written}
use Rattle.showing.specs.Shown.{dashes}
use Rattle.showing.proofs.put_dashes.Given as goal

-- a `-` for each word so far
abbrev pub invariant-loop-word : goal.invariant-loop-word
invariant-loop-word l = l.out ≡ written (dashes l._word) l.initial.out
