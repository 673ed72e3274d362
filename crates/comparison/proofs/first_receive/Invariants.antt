use Rattle.std.proofs.Common.{◌≡◌, ℕ, ◌<◌, false}
use Rattle.logs.specs.Comparison.{entries_of, receive_unsent}
use Rattle.comparison.proofs.first_receive.Given as goal

-- every receive before j was sent
abbrev pub invariant-loop-j : goal.invariant-loop-j
invariant-loop-j l = (k : ℕ) → k < l.j → receive_unsent (entries_of l.sends.log.now) (entries_of l.receives.log.now) k ≡ false
