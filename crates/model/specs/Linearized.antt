-- The linearization of a trace as a function: a rendezvous stands at the step that finishes a copy, -6 and -4 at check, -5 and -3 at look.
use Rattle.std.proofs.Math.Option.{none, some}
use Rattle.std.specs.Prelude.{List, [], ◌∷◌, ℕ}
use Rattle.model.specs.declared.Thread.{Thread}
use Rattle.model.specs.Threads.{at}
use Rattle.model.specs.Step.{Action, stay, take_lock, abort_send, start_copy, to_release, copy_word, finish_call, finish_send, free_target, retry, to_idle, abort_receive, take_sender, clear_poll, free_sender, decide}
use Rattle.model.specs.Calls.{Call, begin_via, step, cancel, tick, load, State}
use Rattle.model.specs.Refusals.{unless, refusal}
use Rattle.model.specs.Promise.{next}
use Rattle.model.specs.Atomic.{begins, cancels, ticks, rendezvous, aborts}
use Rattle.model.specs.Linearization.{Entry}

-- the event of an action of thread x, which was h
unfoldable pub event_of : Action → ℕ → Thread → Entry
event_of (stay a) x h = none
event_of take_lock x h = none
event_of (abort_send c) x h = some (aborts x c)
event_of start_copy x h = none
event_of to_release x h = none
event_of copy_word x h = none
event_of finish_call x h = some (rendezvous x h.op.send.target)
event_of finish_send x h = some (rendezvous x h.op.send.target)
event_of (free_target p) x h = none
event_of retry x h = none
event_of to_idle x h = none
event_of (abort_receive c) x h = some (aborts x c)
event_of (take_sender s) x h = none
event_of clear_poll x h = none
event_of free_sender x h = none

-- the entry of an accepted call
unfoldable pub accepted_entry : Call → State → Entry
accepted_entry (begin_via via x o) s = some (begins x o)
accepted_entry (step x) s = event_of (decide s.table x) x (at s.table x)
accepted_entry (cancel x) s = some (cancels x)
accepted_entry tick s = some ticks
accepted_entry (load rules) s = none

-- the entry at a call's place
unfoldable pub entry : Call → State → Entry
entry c s = unless (refusal c s) (λ g. none) (accepted_entry c s)

-- the linearization of some calls from a state
unfoldable pub linearization : State → List Call → List Entry
linearization s [] = []
linearization s (c ∷ cs) = let after = next c s in entry c s ∷ linearization after cs
