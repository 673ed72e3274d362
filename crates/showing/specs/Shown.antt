-- The line of one thread: every field in use, and `-` for one that is not.
use Rattle.std.specs.Prelude.{Bool, cond, ◌||◌, List, [], ◌++◌, ℕ, zero, suc, ◌-◌, eqb, length, take}
use Rattle.model.specs.declared.Flags.{Flags}
use Rattle.model.specs.declared.Outcome.{Outcome}
use Rattle.model.specs.declared.Queue.{Queue}
use Rattle.model.specs.declared.Thread.{Thread}
use Rattle.model.specs.Lists.{bit}
use Rattle.model.specs.Times.{never}
use Rattle.model.specs.Phases.{phase_number, copy, wake, unlock}
use Rattle.model.specs.Bondtrace.{ascii, decimal, signed, spaced}

-- the five flags as 0 or 1, in the order ipc, send, receiving, poll, mark
unfoldable pub flags_text : Flags → List ℕ
flags_text flags = decimal (bit flags.ipc) ++ decimal (bit flags.send) ++ decimal (bit flags.receiving) ++ decimal (bit flags.poll) ++ decimal (bit flags.mark)

-- a name, and the number behind it where it is in use
unfoldable pub used_text : List ℕ → Bool → ℕ → List ℕ
used_text name used n = cond used (name ++ decimal n) (name ++ ascii "-")

-- the ticks that are left; they are in use while an operation runs
unfoldable pub left_text : Bool → ℕ → List ℕ
left_text running left = cond running (cond (eqb left never) (ascii " left never") (ascii " left " ++ decimal left)) (ascii " left -")

-- how far the thread is: phase, flags and ticks
unfoldable pub state_text : Thread → List ℕ
state_text h = ascii " phase " ++ decimal h.phase ++ ascii " flags " ++ flags_text h.flags ++ left_text h.flags.ipc h.left

-- who is tied to it: the owner of its lock; in copy the words copied; in wake and unlock the sender being woken
unfoldable pub ties_text : Thread → List ℕ
ties_text h =
    let wakes = eqb h.phase (phase_number wake) || eqb h.phase (phase_number unlock) in
    ascii " owner " ++ decimal h.owner ++ used_text (ascii " copied ") (eqb h.phase (phase_number copy)) h.copied ++ used_text (ascii " waking ") wakes h.waking

-- code, source and count
unfoldable pub outcome_text : Outcome → List ℕ
outcome_text outcome = ascii " outcome " ++ signed outcome.code ++ ascii " " ++ decimal outcome.source ++ ascii " " ++ decimal outcome.count

-- a `-` for each word that is not there
unfoldable pub dashes : ℕ → List ℕ
dashes zero = []
dashes (suc k) = dashes k ++ ascii " -"

-- eight words, as far as there are some
unfoldable pub words_text : List ℕ → List ℕ
words_text words = ascii " words" ++ spaced words ++ dashes (8 - length words)

-- the senders that wait, the earliest first
unfoldable pub queue_text : Queue → List ℕ
queue_text queue = ascii " queue" ++ spaced (take queue.len queue.items)

-- the whole line of thread x, whose words of the store are these
unfoldable pub thread_text : ℕ → Thread → List ℕ → List ℕ
thread_text x h words = ascii " " ++ decimal x ++ state_text h ++ ties_text h ++ outcome_text h.outcome ++ words_text words ++ queue_text h.queue ++ ascii "\n"
