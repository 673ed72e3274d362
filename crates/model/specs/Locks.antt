-- Document 01, "The table": a thread's lock, and whose lock a thread holds.
use Rattle.std.specs.Prelude.{Bool, ℕ, eqb}
use Rattle.model.specs.declared.Thread.{Thread}
use Rattle.model.specs.Codes.{nobody}
use Rattle.model.specs.Phases.{Phase, phase_of, idle, lock, check, copy, release, sleep, look, wake, unlock, unknown}

-- nobody owns the thread's lock
unfoldable pub lock_free : Thread → Bool
lock_free h = eqb h.owner nobody

-- whose lock a thread holds in a phase: "check, copy and release hold the target's lock; wake and unlock hold that of the sender being woken; a thread holds no other"
abbrev pub lock_held_in : Phase → ℕ → ℕ → ℕ
lock_held_in idle target waking = nobody
lock_held_in lock target waking = nobody
lock_held_in check target waking = target
lock_held_in copy target waking = target
lock_held_in release target waking = target
lock_held_in sleep target waking = nobody
lock_held_in look target waking = nobody
lock_held_in wake target waking = waking
lock_held_in unlock target waking = waking
lock_held_in unknown target waking = nobody

-- the same by the thread's own phase
unfoldable pub lock_held : Thread → ℕ
lock_held h = lock_held_in (phase_of h.phase) h.op.send.target h.waking
