-- The clauses of well-formedness on one thread by itself, grouped by what changes together. Each is a test; `formed_grouped` says that together they are the clauses.
use Rattle.std.specs.Prelude.{Bool, not, cond, ◌&&◌, ◌||◌, [], ◌∷◌, ℕ, eqb, leb, ltb}
use Rattle.std.specs.Bool.{beq}
use Rattle.model.specs.declared.Flags.{Flags}
use Rattle.model.specs.declared.SendPart.{SendPart}
use Rattle.model.specs.declared.Operation.{Operation}
use Rattle.model.specs.declared.Queue.{Queue}
use Rattle.model.specs.declared.Outcome.{Outcome}
use Rattle.model.specs.declared.Thread.{Thread}
use Rattle.model.specs.Lists.{implies, all_of}
use Rattle.model.specs.Codes.{done, running, codes, same_code, nobody}
use Rattle.model.specs.Times.{is_left}
use Rattle.model.specs.Operations.{closed_on, word_limit}
use Rattle.model.specs.Phases.{idle, lock, check, copy, release, sleep, look, wake, unlock, is_one_of}
use Rattle.model.specs.WellFormed.{is_code, nobody_or_below, send_in_range, receive_in_range}

-- phase k and the flags v go together, in an operation with a receive part and a send part or without
unfoldable pub flags_fit : ℕ → Flags → Bool → Bool → Bool
flags_fit k v receives sends = all_of (
    leb k 8
    ∷ implies (v.send || v.mark) v.ipc
    ∷ implies v.poll v.send
    ∷ beq v.receiving (v.ipc && receives)
    ∷ implies (v.ipc && not v.send) receives
    ∷ implies (is_one_of (idle ∷ []) k) (not (v.ipc || v.send || v.receiving || v.poll || v.mark))
    ∷ implies (is_one_of (look ∷ wake ∷ unlock ∷ []) k) (not v.send)
    ∷ implies (is_one_of (lock ∷ check ∷ copy ∷ sleep ∷ []) k) v.send
    ∷ implies v.send sends
    ∷ implies (is_one_of (release ∷ []) k) sends
    ∷ []
    )

-- the outcome, in a table of n threads, of a thread with `ipc` as given
unfoldable pub outcome_fits : ℕ → Bool → Outcome → Bool
outcome_fits n ipc u = all_of (
    is_code codes u.code
    ∷ nobody_or_below n u.source
    ∷ leb u.count word_limit
    ∷ beq ipc (same_code running u.code)
    ∷ (same_code done u.code || eqb u.source nobody && eqb u.count 0)
    ∷ []
    )

-- the operation and `left` of thread x
unfoldable pub operation_fits : ℕ → ℕ → Bool → Operation → ℕ → Bool
operation_fits n x ipc o left = all_of (
    implies ipc (send_in_range n o.send)
    ∷ implies ipc (receive_in_range n o.receive)
    ∷ implies ipc (is_left left)
    ∷ implies (ipc && o.send.present) (not (eqb o.send.target x))
    ∷ implies ipc (not (closed_on o.receive x))
    ∷ []
    )

-- the numbers that phase k uses: the target that is freed, the words copied, the sender being woken
unfoldable pub phase_fits : ℕ → ℕ → ℕ → SendPart → ℕ → ℕ → Bool
phase_fits n x k part copied waking = all_of (
    implies (is_one_of (release ∷ []) k) (ltb part.target n)
    ∷ implies (is_one_of (release ∷ []) k) (not (eqb part.target x))
    ∷ implies (is_one_of (copy ∷ []) k) (leb copied part.count)
    ∷ implies (is_one_of (wake ∷ unlock ∷ []) k) (ltb waking n)
    ∷ []
    )

-- the queue and the lock
unfoldable pub queue_fits : ℕ → Queue → ℕ → Bool
queue_fits n queue owner = all_of (leb queue.len 32 ∷ nobody_or_below n owner ∷ [])

-- the thread to which a thread copies, or nobody
unfoldable pub copies_to : Thread → ℕ
copies_to h = cond (is_one_of (copy ∷ []) h.phase) h.op.send.target nobody
