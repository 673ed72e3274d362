-- What the functions on two threads promise: what the model's action does, as a few fields that are set or as an ending.
use Rattle.std.specs.Prelude.{◌≡◌, ℕ, Option, Some, None}
use Rattle.model.specs.declared.Thread.{Thread}
use Rattle.model.specs.declared.Answer.{Answer}
use Rattle.model.specs.Answers.{replied, said}
use Rattle.model.specs.Codes.{receive_time_over, send_time_over, receive_cancelled, send_cancelled}
use Rattle.model.specs.Step.{Action, abort_send, finish_call, finish_send, abort_receive, reply_of, own_after, other_after}
use Rattle.actions.specs.declared.Change.{Change}
use Rattle.actions.specs.declared.Ending.{Ending}
use Rattle.actions.specs.declared.Ending.TheVariants.{SendCancelled, SendTimeOver, CallFinished, SendFinished, ReceiveCancelled, ReceiveTimeOver}

-- no field of threads h and r is set, with this answer and ending
unfoldable pub keeping : Answer → Option Ending → Thread → Thread → Change
keeping answer ending h r = record {
  answer = answer;
  ending = ending;
  poll = h.flags.poll;
  phase = h.phase;
  copied = h.copied;
  waking = h.waking;
  otherowner = r.owner;
  otherpoll = r.flags.poll;
}

-- the stepped thread, which was h, with the fields that are set
unfoldable pub own_changed : Change → Thread → Thread
own_changed c h = record {
  flags = record { ipc = h.flags.ipc; send = h.flags.send; receiving = h.flags.receiving; poll = c.poll; mark = h.flags.mark };
  phase = c.phase;
  op = h.op;
  left = h.left;
  queue = h.queue;
  owner = h.owner;
  outcome = h.outcome;
  copied = c.copied;
  waking = c.waking;
}

-- the other thread, which was r, with the fields that are set
unfoldable pub other_changed : Change → Thread → Thread
other_changed c r = record {
  flags = record { ipc = r.flags.ipc; send = r.flags.send; receiving = r.flags.receiving; poll = c.otherpoll; mark = r.flags.mark };
  phase = r.phase;
  op = r.op;
  left = r.left;
  queue = r.queue;
  owner = c.otherowner;
  outcome = r.outcome;
  copied = r.copied;
  waking = r.waking;
}

-- the action that ends it
abbrev pub action_of : Ending → Action
action_of SendCancelled = abort_send send_cancelled
action_of SendTimeOver = abort_send send_time_over
action_of CallFinished = finish_call
action_of SendFinished = finish_send
action_of ReceiveCancelled = abort_receive receive_cancelled
action_of ReceiveTimeOver = abort_receive receive_time_over

-- action a of thread x, which was h, with r for the other thread, is told by c: it is that of the ending, or the fields are what it sets
abbrev pub Told : Action → ℕ → Thread → Thread → Change → Option Ending → Type 0
Told a x h r c None = (own_changed c h ≡ own_after a h) × (other_changed c r ≡ other_after a x h r)
Told a x h r c (Some e) = action_of e ≡ a

-- action a of thread x, which was h, with r for the other thread
pub record Acted (a : Action) (x : ℕ) (h r : Thread) (c : Change) : Type 0 where
  pub told : Told a x h r c c.ending
  pub answers : said c.answer ≡ replied (reply_of a)
