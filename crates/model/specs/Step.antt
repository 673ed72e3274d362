-- Document 01, "Calls", step: by its phase a step settles on an action; an action changes the thread, one other thread and the store.
use Rattle.std.specs.Prelude.{Bool, true, false, not, cond, ◌&&◌, ◌||◌, List, ℕ, ◌+◌, eqb, ltb, ℤ}
use Rattle.std.proofs.Math.Option.{Option, none, some, get_or}
use Rattle.model.specs.declared.Thread.{Thread}
use Rattle.model.specs.declared.Table.{Table}
use Rattle.model.specs.Answers.{Reply, moved, held, wants, asleep}
use Rattle.model.specs.Codes.{done, receive_time_over, send_time_over, receive_cancelled, send_cancelled, nobody, code_only}
use Rattle.model.specs.Times.{tick_count, is_hard}
use Rattle.model.specs.Operations.{has_receive, receive_time}
use Rattle.model.specs.Phases.{Phase, idle, lock, check, copy, release, sleep, look, wake, unlock, unknown, phase_of}
use Rattle.model.specs.Threads.{at, put, entering, with_left, with_owner, with_copied, with_waking, polled, sent, ended, without_receive}
use Rattle.model.specs.Queues.{departed, find_sender, ready}
use Rattle.model.specs.Locks.{lock_free}
use Rattle.model.specs.Store.{word_copied}

-- what a step does, once its tests are passed
pub data Action : Type 0 where
  -- nothing, with this reply
  stay : Reply → Action
  -- lock: take the target's lock
  take_lock : Action
  -- check: abort with this code (document 01's "give up"), start to copy, or go to release
  abort_send : ℤ → Action
  start_copy to_release : Action
  -- copy: one word, or the end of the send part of an operation with a receive part or without
  copy_word finish_call finish_send : Action
  -- release: free the target's lock and go to this phase
  free_target : Phase → Action
  -- sleep: go to lock
  retry : Action
  -- look: go idle, abort with this code, or take the lock of this sender, which is the other thread
  to_idle : Action
  abort_receive : ℤ → Action
  take_sender : ℕ → Action
  -- wake: clear the sender's `poll`
  clear_poll : Action
  -- unlock: free the sender's lock
  free_sender : Action

-- the one other thread that a step reads or changes: the target, the sender that look finds, or the sender being woken
abbrev pub other_in : Phase → Thread → ℕ
other_in idle h = nobody
other_in lock h = h.op.send.target
other_in check h = h.op.send.target
other_in copy h = h.op.send.target
other_in release h = h.op.send.target
other_in sleep h = nobody
other_in look h = get_or (find_sender h) nobody
other_in wake h = h.waking
other_in unlock h = h.waking
other_in unknown h = nobody

-- the same by the thread's own phase
unfoldable pub other : Thread → ℕ
other h = other_in (phase_of h.phase) h

-- a receive whose time is a limit and is over; document 02, #106: "In look, `left` 0 ends the wait with -3 even if an acceptable sender is queued"
unfoldable pub overdue : Thread → Bool
overdue h = is_hard (receive_time h.op.receive) && eqb h.left 0

-- look, with the first acceptable sender r: -3 where overdue; "if its `poll` is clear answer asleep, if its lock is taken answer wants, else take its lock";
-- "none and `left` 0, end with -3, idle; answer asleep"
unfoldable pub look_at : Thread → Thread → Option ℕ → Action
look_at h r (some s) = cond (overdue h) (abort_receive receive_time_over) (cond r.flags.poll (cond (lock_free r) (take_sender s) (stay wants)) (stay asleep))
look_at h r none = cond (eqb h.left 0) (abort_receive receive_time_over) (stay asleep)

-- the action of thread x, which is h, by its phase; r is the other thread
unfoldable pub decide_in : Phase → ℕ → Thread → Thread → Action
-- "idle: answer idle"
decide_in idle x h r = stay Reply.idle
-- "target's lock free: take it .. Else answer wants"
decide_in lock x h r = cond (lock_free r) take_lock (stay wants)
-- "own mark, give up with -6; target ready for t, go to copy; `left` is 0, give up with -4; else release"
decide_in check x h r = cond h.flags.mark (abort_send send_cancelled) (cond (ready r x) start_copy (cond (eqb h.left 0) (abort_send send_time_over) to_release))
-- "one word a step. When none remains, that step finishes", with a receive part or without
decide_in copy x h r = cond (ltb h.copied h.op.send.count) copy_word (cond (has_receive h.op.receive) finish_call finish_send)
-- "free the lock. Then `send` set: sleep; `ipc` set: look; else idle"
decide_in release x h r = cond h.flags.send (free_target sleep) (cond h.flags.ipc (free_target look) (free_target idle))
-- "`poll` clear, or marked, or `left` 0: go to lock. Else answer asleep"
decide_in sleep x h r = cond (not h.flags.poll || h.flags.mark || eqb h.left 0) retry (stay asleep)
-- "`ipc` clear, go idle; marked, end with -5, idle; the first acceptable sender .."
decide_in look x h r = cond h.flags.ipc (cond h.flags.mark (abort_receive receive_cancelled) (look_at h r (find_sender h))) to_idle
-- "clear that sender's `poll`, go to unlock"
decide_in wake x h r = clear_poll
-- "free its lock, go to look"
decide_in unlock x h r = free_sender
-- no phase has this number: no table that is accepted comes here
decide_in unknown x h r = stay Reply.idle

-- "if another owns t's lock, answer held, nothing changes. Else by phase"
unfoldable pub decide : Table → ℕ → Action
decide t x =
    let h = at t x in
    cond (lock_free h) (decide_in (phase_of h.phase) x h (at t (other h))) (stay held)

-- "answer moved unless said"
unfoldable pub reply_of : Action → Reply
reply_of (stay a) = a
reply_of take_lock = moved
reply_of (abort_send c) = moved
reply_of start_copy = moved
reply_of to_release = moved
reply_of copy_word = moved
reply_of finish_call = moved
reply_of finish_send = moved
reply_of (free_target p) = moved
reply_of retry = moved
reply_of to_idle = moved
reply_of (abort_receive c) = moved
reply_of (take_sender s) = moved
reply_of clear_poll = moved
reply_of free_sender = moved

-- the stepped thread afterwards
unfoldable pub own_after : Action → Thread → Thread
own_after (stay a) h = h
own_after take_lock h = entering check (polled true h)
-- "Giving up leaves the queue, drops the receive part, clears all flags, and goes to release"
own_after (abort_send c) h = entering release (without_receive (ended (code_only c) h))
own_after start_copy h = entering copy (with_copied 0 h)
own_after to_release h = entering release h
own_after copy_word h = with_copied (h.copied + 1) h
-- "clears `send` and `poll`. With a receive part `left` takes the receive code .. Go to release"
own_after finish_call h = entering release (with_left (tick_count (receive_time h.op.receive)) (sent h))
-- "without, t ends with code 0, source 255, flags cleared. Go to release"
own_after finish_send h = entering release (ended (code_only done) h)
own_after (free_target p) h = entering p h
own_after retry h = entering lock h
own_after to_idle h = entering idle h
-- "Ending clears all flags"
own_after (abort_receive c) h = entering idle (ended (code_only c) h)
own_after (take_sender s) h = entering wake (with_waking s h)
own_after clear_poll h = entering unlock h
own_after free_sender h = entering look h

-- what a finished receive shows: "target gets code 0, source, count, its flags cleared; t leaves the queue"
unfoldable pub received : ℕ → Thread → Thread → Thread
received x h r = ended (record { code = done; source = x; count = h.op.send.count }) (departed x r)

-- the other thread r afterwards, where thread x, which was h, steps
unfoldable pub other_after : Action → ℕ → Thread → Thread → Thread
other_after (stay a) x h r = r
other_after take_lock x h r = with_owner x r
other_after (abort_send c) x h r = departed x r
other_after start_copy x h r = r
other_after to_release x h r = r
other_after copy_word x h r = r
other_after finish_call x h r = received x h r
other_after finish_send x h r = received x h r
other_after (free_target p) x h r = with_owner nobody r
other_after retry x h r = r
other_after to_idle x h r = r
other_after (abort_receive c) x h r = r
other_after (take_sender s) x h r = with_owner x r
other_after clear_poll x h r = polled false r
other_after free_sender x h r = with_owner nobody r

-- the table after thread x's action
unfoldable pub act : Action → ℕ → Table → Table
act a x t = let h = at t x in put x (own_after a h) (put (other h) (other_after a x h (at t (other h))) t)

-- the store after the action of a thread that was h: "a delivery writes into that part only"
unfoldable pub store_after : Action → Thread → List ℕ → List ℕ
store_after (stay a) h store = store
store_after take_lock h store = store
store_after (abort_send c) h store = store
store_after start_copy h store = store
store_after to_release h store = store
store_after copy_word h store = word_copied h store
store_after finish_call h store = store
store_after finish_send h store = store
store_after (free_target p) h store = store
store_after retry h store = store
store_after to_idle h store = store
store_after (abort_receive c) h store = store
store_after (take_sender s) h store = store
store_after clear_poll h store = store
store_after free_sender h store = store
