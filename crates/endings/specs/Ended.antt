-- What the functions that end something promise: the two threads that the model gives for the action.
use Rattle.std.specs.Prelude.{◌≡◌, Bool, true, false, ℕ, ◌≤◌}
use Rattle.model.specs.declared.Thread.{Thread}
use Rattle.model.specs.Lists.{occurs}
use Rattle.model.specs.Queues.{senders}
use Rattle.model.specs.Step.{Action, own_after, other_after}
use Rattle.actions.specs.declared.Ending.{Ending}
use Rattle.actions.specs.declared.Ending.TheVariants.{SendCancelled, SendTimeOver, CallFinished, SendFinished, ReceiveCancelled, ReceiveTimeOver}
use Rattle.endings.specs.declared.Pair.{Pair}

-- the two threads after action a of thread x, which was h, with r for the other thread
pub record Ended (a : Action) (x : ℕ) (h r : Thread) (both : Pair) : Type 0 where
  pub own : both.own ≡ own_after a h
  pub other : both.other ≡ other_after a x h r

-- sender x waits in the queue of thread r
pub record Waits (x : ℕ) (r : Thread) : Type 0 where
  pub few : r.queue.len ≤ 32
  pub there : 1 ≤ occurs x (senders r)

-- a send part ends, and so its sender leaves the target's queue
abbrev pub ends_send : Ending → Bool
ends_send SendCancelled = true
ends_send SendTimeOver = true
ends_send CallFinished = true
ends_send SendFinished = true
ends_send ReceiveCancelled = false
ends_send ReceiveTimeOver = false
