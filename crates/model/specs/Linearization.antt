-- Demand 3: for every trace from a new table there is one linearization, an order of atomic events that no user can tell from it.
use Rattle.std.specs.Prelude.{◌≡◌, ◌≢◌, ◌⊎◌, Bool, true, false, cond, ◌&&◌, ◌||◌, List, [], ◌∷◌, map, reverse, ℕ, ◌*◌, ◌≤◌, ◌<◌, length, eqb}
use Rattle.std.proofs.Math.Option.{Option, none, some, get_or}
use Rattle.model.specs.declared.Operation.{Operation}
use Rattle.model.specs.declared.Answer.{Answer}
use Rattle.model.specs.Answers.{Reply, accepted, marked, nothing_to_cancel, Said, refused, replied, said}
use Rattle.model.specs.Lists.{bit, occurs}
use Rattle.model.specs.Codes.{done, running, receive_time_over, receive_cancelled, same_code}
use Rattle.model.specs.Operations.{has_receive}
use Rattle.model.specs.Threads.{new_table}
use Rattle.model.specs.Calls.{Call, begin_via, step, cancel, tick, load, State}
use Rattle.model.specs.Promise.{Promise, state, view}
use Rattle.model.specs.Atomic.{AtomicThread, Machine, first_machine, Event, begins, cancels, ticks, rendezvous, aborts, play, AtomicReply, reply, shows, is_receiving, Can}

-- ---- traces
-- a call, what it answered, and the table and store that it left
pub record Observed : Type 0 where
  pub call : Call
  pub answer : Answer
  pub after : State

-- each call gets the table and the store as the one before it left them, and keeps its promise
abbrev pub Trace : State → List Observed → Type 0
Trace s [] = Unit {0}
Trace s (c ∷ cs) = Promise c.call s c.answer c.after × Trace c.after cs

-- of each state that the calls of a trace leave
abbrev pub Always : (State → Type 0) → List Observed → Type 0
Always P [] = Unit {0}
Always P (c ∷ cs) = P c.after × Always P cs

-- ---- a linearization (document 01's "whole order"): an entry for each call of the trace
-- one atomic event, or none
abbrev pub Entry : Type 0
Entry = Option Event

-- the atomic machine after an entry
abbrev pub play_entry : ℕ → Entry → Machine → Machine
play_entry n none p = p
play_entry n (some e) p = play n e p

-- the atomic machine after the entries up to some call, the newest of them first: an entry's place is the number of entries behind it
unfoldable pub played : ℕ → List Entry → Machine
played n [] = first_machine
played n (e ∷ past) = play_entry n e (played n past)

-- ---- what stands at the place of a call
-- the atomic machine's reply as the step machine gives it
abbrev pub alike : AtomicReply → Reply
alike AtomicReply.accepted = accepted
alike AtomicReply.marked = marked
alike AtomicReply.nothing_to_cancel = nothing_to_cancel

-- the call's own event, and both machines answer alike
pub record OwnEvent (own : Event) (a : Reply) (e : Entry) (p : Machine) : Type 0 where
  pub event : e ≡ some own
  pub answer : a ≡ alike (reply own p)

-- at a step: nothing, a rendezvous or an abort; "Steps' answers are not seen"
abbrev pub AtStep : Entry → Type 0
AtStep none = Unit {0}
AtStep (some (begins x o)) = ⊥
AtStep (some (cancels x)) = ⊥
AtStep (some ticks) = ⊥
AtStep (some (rendezvous s r)) = Unit {0}
AtStep (some (aborts x c)) = Unit {0}

-- "an accepted begin, cancel or tick is its own event"
abbrev pub AtAccepted : Call → Reply → Entry → Machine → Type 0
AtAccepted (begin_via via x o) a e p = OwnEvent (begins x o) a e p
AtAccepted (step x) a e p = AtStep e
AtAccepted (cancel x) a e p = OwnEvent (cancels x) a e p
AtAccepted tick a e p = OwnEvent ticks a e p
-- document 02, #102: loadings "are no event there"
AtAccepted (load rules) a e p = e ≡ none

-- "a refused call is none"
abbrev pub AtCall : Call → Said → Entry → Machine → Type 0
AtCall c (refused g) e p = e ≡ none
AtCall c (replied a) e p = AtAccepted c a e p

-- "each event's conditions hold where it stands"
abbrev pub Allowed : ℕ → Entry → Machine → Type 0
Allowed n none p = Unit {0}
Allowed n (some e) p = Can n e p

-- ---- operations, known by the place of their begin
abbrev pub begins_by : ℕ → Entry → Bool
begins_by x none = false
begins_by x (some (begins y o)) = eqb y x
begins_by x (some (cancels y)) = false
begins_by x (some ticks) = false
begins_by x (some (rendezvous s r)) = false
begins_by x (some (aborts y c)) = false

-- thread x's latest operation
unfoldable pub latest : ℕ → List Entry → Option ℕ
latest x [] = none
latest x (e ∷ past) = cond (begins_by x e) (some (length past)) (latest x past)

-- thread x shows code 1
abbrev pub is_running : Machine → ℕ → Bool
is_running p x = same_code running (p x).outcome.code

-- an operation of x ends at entry e: it began with e or was running, and no longer runs
pub record EndsAt (n x : ℕ) (e : Entry) (past : List Entry) : Type 0 where
  pub ran : (begins_by x e || is_running (played n past) x) ≡ true
  pub over : is_running (played n (e ∷ past)) x ≡ false

-- the operation of x that began at place i has its ending in `past`
abbrev pub HasEnded : ℕ → ℕ → ℕ → List Entry → Type 0
HasEnded n x i [] = ⊥
HasEnded n x i (e ∷ past) = (EndsAt n x e past × (latest x (e ∷ past) ≡ some i)) ⊎ HasEnded n x i past

-- ---- one call c, with the entry e in its place, after `past`
pub record Follows (n : ℕ) (past : List Entry) (c : Observed) (e : Entry) : Type 0 where
  pub place : AtCall c.call (said c.answer) e (played n past)
  pub allowed : Allowed n e (played n past)
  -- "after every call, each thread's code, source and count in the table and its first `count` words in the store"
  pub views : (x : ℕ) → x < n → view c.after x ≡ shows (played n (e ∷ past)) x
  -- an ending stands no earlier than its operation's begin
  pub begun : (x : ℕ) → x < n → EndsAt n x e past → (i : ℕ) × (latest x (e ∷ past) ≡ some i)
  -- and no later than the call that first shows it
  pub shown : (x : ℕ) → x < n → (i : ℕ) → latest x (e ∷ past) ≡ some i → (view c.after x).outcome.code ≢ running → HasEnded n x i (e ∷ past)

-- call by call, in calling order
abbrev pub FollowsAll : ℕ → List Entry → List Observed → List Entry → Type 0
FollowsAll n past [] [] = Unit {0}
FollowsAll n past [] (e ∷ es) = ⊥
FollowsAll n past (c ∷ cs) [] = ⊥
FollowsAll n past (c ∷ cs) (e ∷ es) = Follows n past c e × FollowsAll n (e ∷ past) cs es

-- ---- "Each completed one is in exactly one meeting as s, or as r"
-- the rendezvous of a linearization, each by the begins of its two operations
unfoldable pub pairs : List Entry → List (ℕ × ℕ)
pairs [] = []
pairs (none ∷ past) = pairs past
pairs (some (begins x o) ∷ past) = pairs past
pairs (some (cancels x) ∷ past) = pairs past
pairs (some ticks ∷ past) = pairs past
pairs (some (rendezvous s r) ∷ past) = (get_or (latest s past) 0, get_or (latest r past) 0) ∷ pairs past
pairs (some (aborts x c) ∷ past) = pairs past

-- that place is i
abbrev pub is_place : Option ℕ → ℕ → Bool
is_place none i = false
is_place (some k) i = eqb k i

-- how x stood when its operation that began at place i was last its latest one: now, or right before its next begin
unfoldable pub fate : ℕ → ℕ → ℕ → List Entry → Option AtomicThread
fate n x i [] = none
fate n x i (e ∷ past) = let before = fate n x i past in cond (is_place (latest x (e ∷ past)) i) (some (played n (e ∷ past) x)) before

-- "A send part is completed if its operation ended with 0, -5 or -3, or is now receiving"
abbrev pub send_completed : Operation → Option AtomicThread → Bool
send_completed o none = false
send_completed o (some p) =
    o.send.present
    && (same_code done p.outcome.code || same_code receive_cancelled p.outcome.code || same_code receive_time_over p.outcome.code || is_receiving p.run)

-- "a receive part if its operation ended with 0"
abbrev pub receive_completed : Operation → Option AtomicThread → Bool
receive_completed o none = false
receive_completed o (some p) = has_receive o.receive && same_code done p.outcome.code

-- the entry at place i is x's begin of o
abbrev pub BeginsAt : ℕ → Operation → ℕ → List Entry → Type 0
BeginsAt x o i [] = ⊥
BeginsAt x o i (e ∷ past) = ((e ≡ some (begins x o)) × (length past ≡ i)) ⊎ BeginsAt x o i past

-- the pair stands in the list
abbrev pub Among : ℕ × ℕ → List (ℕ × ℕ) → Type 0
Among pair [] = ⊥
Among pair (a ∷ l) = (pair ≡ a) ⊎ Among pair l

-- a rendezvous is of a completed send part and of a completed receive part of its target
pub record Match (n i j : ℕ) (past : List Entry) : Type 0 where
  pub sender : ℕ
  pub receiver : ℕ
  pub sent : Operation
  pub received : Operation
  pub sends : BeginsAt sender sent i past
  pub receives : BeginsAt receiver received j past
  pub target : sent.send.target ≡ receiver
  pub send_done : send_completed sent (fate n sender i past) ≡ true
  pub receive_done : receive_completed received (fate n receiver j past) ≡ true

-- as sender an operation is in one rendezvous if its send part is completed and in none if not; likewise as receiver
pub record Paired (n : ℕ) (past : List Entry) : Type 0 where
  pub sends : (x : ℕ) (o : Operation) (i : ℕ) → x < n → BeginsAt x o i past → occurs i (map (λ pair. pair.0) (pairs past)) ≡ bit (send_completed o (fate n x i past))
  pub receives : (x : ℕ) (o : Operation) (i : ℕ) → x < n → BeginsAt x o i past → occurs i (map (λ pair. pair.1) (pairs past)) ≡ bit (receive_completed o (fate n x i past))
  pub matched : (i j : ℕ) → Among (i, j) (pairs past) → Match n i j past

-- ---- the demand
-- no user can tell the linearization from the trace
pub record Linearizes (n : ℕ) (trace : List Observed) (linearization : List Entry) : Type 0 where
  pub follows : FollowsAll n [] trace linearization
  pub paired : Paired n (reverse linearization)

-- "a new table of any N from 1 to 32 and a store of 8×N words, whatever they hold"
abbrev pub Demand3 : Type 0
Demand3 =
    (n : ℕ) → 1 ≤ n → n ≤ 32 → (store : List ℕ) → length store ≡ 8 * n
    → (trace : List Observed) → Trace (state (new_table n) store) trace
    → (linearization : List Entry) × Linearizes n trace linearization
