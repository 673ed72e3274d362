use Rattle.std.proofs.Common.{◌≡◌, ℕ, ◌<◌, false}
use Rattle.logs.specs.Comparison.{entries_of, send_differs}
use Rattle.comparison.proofs.first_send.Given as goal

-- no send before i differs
abbrev pub invariant-loop-i : goal.invariant-loop-i
invariant-loop-i l = (k : ℕ) → k < l.i → send_differs (entries_of l.sends.log.now) (entries_of l.receives.log.now) k ≡ false
