-- Concrete traces, replayed by computation: after every call both machines show the same, every event is allowed where it stands and answered
-- alike, and the last table is well-formed. That it is so of all calls is `every_replay_agrees`; each of these tells a wrong machine from ours.
use mathlib.Core.Path.{◌≡◌, refl}
use mathlib.Core.Bool.{true}
use mathlib.Core.List.{List, [], ◌∷◌, ◌++◌}
use lib.ListN.{replicate}
use Rattle.model.specs.declared.Receive.TheVariants.{Absent}
use Rattle.model.specs.declared.Operation.{Operation}
use Rattle.model.specs.Calls.{Call, begin, cancel, tick}
use Rattle.model.specs.Atomic.{first_machine}
use Rattle.model.specs.Examples.{first_state, send_to, receive_only, open_for, closed_for, steps, worked}
use Rattle.model.proofs.Replay.{agree}
use Rattle.model.proofs.Counts.{after_counts}

-- a trace, by what it shows
pub data TraceName : Type 0 where
  ready-at-time_0 sender-waits-at-time_0 time-runs-out marked-receiver receiver-still-sending : TraceName
  new-time_for_the_receive no-time_for_the_receive mark-kept-past_the_send receive_dropped_with_the_send received-in_wake received-in_unlock received-in_release : TraceName
  words_of-two_messages cancels-answered begins-refused : TraceName

-- its calls, on a new table of three threads
unfoldable pub calls : TraceName → List Call
-- a send with no time left finds its target ready
calls ready-at-time_0 = begin 1 (receive_only (open_for 15)) ∷ begin 0 (send_to 1 (250 ∷ []) 0 Absent) ∷ steps 5 0
-- a receive with no time left finds a sender
calls sender-waits-at-time_0 = begin 0 (send_to 1 (250 ∷ []) 15 Absent) ∷ begin 1 (receive_only (open_for 0)) ∷ steps 1 1
-- a receive of one tick is aborted after it
calls time-runs-out = begin 1 (receive_only (open_for 1)) ∷ steps 1 1 ++ tick ∷ steps 1 1
-- a receiver is cancelled before its sender looks at it
calls marked-receiver = begin 1 (receive_only (open_for 15)) ∷ begin 0 (send_to 1 (250 ∷ []) 15 Absent) ∷ cancel 1 ∷ steps 6 0 ++ steps 2 1
-- thread 1 calls 2, which does not receive; meanwhile 0 sends to 1
calls receiver-still-sending = begin 1 (send_to 2 (1 ∷ []) 15 (open_for 15)) ∷ steps 4 1 ++ begin 0 (send_to 1 (250 ∷ []) 15 Absent) ∷ steps 6 0
-- a call whose send part has no time left waits for ever for its answer
calls new-time_for_the_receive = begin 1 (receive_only (open_for 15)) ∷ begin 0 (send_to 1 (250 ∷ []) 0 (closed_for 2 15)) ∷ steps 6 0
-- and one whose receive part has none is aborted after its send
calls no-time_for_the_receive = begin 1 (receive_only (open_for 15)) ∷ begin 0 (send_to 1 (250 ∷ []) 15 (closed_for 2 0)) ∷ steps 6 0
-- a call is cancelled while it copies; then 2 sends to it
calls mark-kept-past_the_send =
    begin 1 (receive_only (open_for 15)) ∷ begin 0 (send_to 1 (250 ∷ []) 15 (open_for 15)) ∷ steps 2 0 ++ cancel 0 ∷ steps 3 0 ++ begin 2 (send_to 0 (9 ∷ []) 15 Absent) ∷ steps 5 2
-- the send part of a call is aborted, and its receive part with it
calls receive_dropped_with_the_send = begin 0 (send_to 1 (250 ∷ []) 0 (open_for 15)) ∷ steps 3 0
-- 1 is waking 0 when 2, with no time left, delivers to it
calls received-in_wake =
    begin 0 (send_to 1 (250 ∷ []) 15 Absent) ∷ steps 3 0 ++ begin 1 (receive_only (open_for 15)) ∷ steps 1 1 ++ begin 2 (send_to 1 (9 ∷ []) 0 Absent) ∷ steps 5 2 ++ steps 3 1 ++ steps 4 0
-- 1 has woken 0 and holds its lock when 2, with no time left, delivers to it
calls received-in_unlock =
    begin 0 (send_to 1 (250 ∷ []) 15 Absent) ∷ steps 3 0 ++ begin 1 (receive_only (open_for 15)) ∷ steps 2 1 ++ begin 2 (send_to 1 (9 ∷ []) 0 Absent) ∷ steps 5 2 ++ steps 2 1
-- 0 has sent its call and still holds 1's lock when 2, with no time left, delivers to it
calls received-in_release =
    begin 1 (receive_only (open_for 15)) ∷ begin 0 (send_to 1 (5 ∷ []) 15 (open_for 15)) ∷ steps 4 0 ++ begin 2 (send_to 0 (9 ∷ []) 0 Absent) ∷ steps 5 2 ++ steps 1 0
-- 1 and 2 receive; 0 sends two words to 2, then one to 1
calls words_of-two_messages =
    begin 1 (receive_only (open_for 15)) ∷ begin 2 (receive_only (open_for 15)) ∷ begin 0 (send_to 2 (5 ∷ 6 ∷ []) 15 Absent) ∷ steps 6 0 ++ begin 0 (send_to 1 (7 ∷ []) 15 Absent) ∷ tick ∷ steps 5 0
-- nothing to cancel, then marked, also the second time
calls cancels-answered = cancel 0 ∷ begin 0 (receive_only (open_for 15)) ∷ cancel 0 ∷ cancel 0 ∷ []
-- begins of no part, of thread 0 with itself, of a partner, a count and times out of range, of thread 3, and a second one
calls begins-refused =
    begin 0 (receive_only Absent) ∷ begin 0 (send_to 0 [] 15 Absent) ∷ begin 0 (receive_only (closed_for 0 15)) ∷ begin 0 (receive_only (closed_for 3 15))
    ∷ begin 0 (send_to 1 (replicate 9 1) 15 Absent) ∷ begin 0 (send_to 1 [] 16 Absent) ∷ begin 0 (receive_only (open_for 16)) ∷ begin 3 (receive_only (open_for 15))
    ∷ begin 0 (receive_only (open_for 15)) ∷ begin 0 (receive_only (open_for 15)) ∷ []

-- both machines go together
pub replays : (name : TraceName) → agree 3 (first_state 3) first_machine (calls name) ≡ true
unfolding after_counts calls
replays ready-at-time_0 = refl
replays sender-waits-at-time_0 = refl
replays time-runs-out = refl
replays marked-receiver = refl
replays receiver-still-sending = refl
replays new-time_for_the_receive = refl
replays no-time_for_the_receive = refl
replays mark-kept-past_the_send = refl
replays receive_dropped_with_the_send = refl
replays received-in_wake = refl
replays received-in_unlock = refl
replays received-in_release = refl
replays words_of-two_messages = refl
replays cancels-answered = refl
replays begins-refused = refl

-- a message of one word, with other words in its places past the count
abbrev one_of_eight : Operation
one_of_eight = record { send = record { present = true; target = 1; count = 1; time = 15; words = 5 ∷ 6 ∷ 6 ∷ 6 ∷ 6 ∷ 6 ∷ 6 ∷ 6 ∷ [] }; receive = Absent }

-- only the message is delivered: the receiver's other words stay zero, and those of thread 2 as they were
pub only_the_message : (worked (first_state 3) (begin 1 (receive_only (open_for 15)) ∷ begin 0 one_of_eight ∷ steps 5 0)).last.store ≡
    0 ∷ 0 ∷ 0 ∷ 0 ∷ 0 ∷ 0 ∷ 0 ∷ 0 ∷ 5 ∷ 0 ∷ 0 ∷ 0 ∷ 0 ∷ 0 ∷ 0 ∷ 0 ∷ 7 ∷ 7 ∷ 7 ∷ 7 ∷ 7 ∷ 7 ∷ 7 ∷ 7 ∷ []
unfolding after_counts
only_the_message = refl
