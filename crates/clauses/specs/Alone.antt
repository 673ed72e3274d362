-- What the code tests of one thread by itself.
use Rattle.std.specs.Prelude.{Bool, cond, [], ◌∷◌, ℕ}
use Rattle.model.specs.declared.Thread.{Thread}
use Rattle.model.specs.Lists.{all_of}
use Rattle.model.specs.Codes.{nobody}
use Rattle.model.specs.Operations.{has_receive}
use Rattle.formed.specs.Groups.{flags_fit, outcome_fits, operation_fits, phase_fits, queue_fits}

-- thread x, which is h, in a table of n threads: the groups of clauses on one thread
unfoldable pub own_fits : ℕ → ℕ → Thread → Bool
own_fits n x h = all_of (
    flags_fit h.phase h.flags (has_receive h.op.receive) h.op.send.present
    ∷ outcome_fits n h.flags.ipc h.outcome
    ∷ operation_fits n x h.flags.ipc h.op h.left
    ∷ phase_fits n x h.phase h.op.send h.copied h.waking
    ∷ queue_fits n h.queue h.owner
    ∷ []
    )

-- the thread to which a thread sends, or nobody
unfoldable pub target_of : Thread → ℕ
target_of h = cond h.flags.send h.op.send.target nobody
