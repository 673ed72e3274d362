-- Document 01, "The whole order": the atomic machine (document 01's "plain machine"). It plays atomic events (document 01's "whole events") and knows no lock, phase or step.
use Rattle.std.specs.Prelude.{◌≡◌, Bool, true, false, not, cond, List, [], ◌∷◌, ℕ, ◌<◌, ℤ}
use Rattle.model.specs.declared.Receive.{Receive}
use Rattle.model.specs.declared.Operation.{Operation}
use Rattle.model.specs.declared.Outcome.{Outcome}
use Rattle.model.specs.Lists.{all_of, update}
use Rattle.model.specs.Codes.{done, running, never_begun, no_receiver, receive_time_over, send_time_over, receive_cancelled, send_cancelled, code_only, View}
use Rattle.model.specs.Operations.{target_beyond, has_receive, receive_time, accepts, first_time, message}
use Rattle.model.specs.Times.{tick_count, fall}

-- "a running operation, sending or receiving, or none"
pub data Run : Type 0 where
  nothing : Run
  sending : Operation → Run
  receiving : Receive → Run

-- "A thread has a running operation ..; a mark; `left`; code, source, count, words"
pub record AtomicThread : Type 0 where
  pub run : Run
  pub mark : Bool
  pub left : ℕ
  pub outcome : Outcome
  pub words : List ℕ

-- a thread for each number; only those below N are looked at
abbrev pub Machine : Type 0
Machine = ℕ → AtomicThread

-- "At first nothing runs: no mark, 2, 255, 0"
abbrev pub first_machine : Machine
first_machine x = record { run = nothing; mark = false; left = 0; outcome = code_only never_begun; words = [] }

-- the atomic events
pub data Event : Type 0 where
  begins : ℕ → Operation → Event
  cancels : ℕ → Event
  ticks : Event
  -- document 01's "meeting" of a queued sender and its target
  rendezvous : ℕ → ℕ → Event
  -- document 01's "give-up", with its code
  aborts : ℕ → ℤ → Event

-- ---- what an event does
-- an operation runs
abbrev pub runs : Run → Bool
runs nothing = false
runs (sending o) = true
runs (receiving r) = true

-- "An ending clears operation and mark"
abbrev pub ending : Outcome → List ℕ → AtomicThread → AtomicThread
ending u words p = record { run = nothing; mark = false; left = p.left; outcome = u; words = words }

-- "sending if it has a send part, else receiving"
abbrev pub first_part : Operation → Run
first_part o = cond o.send.present (sending o) (receiving o.receive)

-- "a target of N or more ends it with -2, as part of the begin. Else code 1, source 255, count 0, no mark ..; `left` from that part's code"
unfoldable pub beginning : ℕ → Operation → AtomicThread → AtomicThread
beginning n o p =
    cond (target_beyond n o) (ending (code_only no_receiver) [] p)
    (record { run = first_part o; mark = false; left = tick_count (first_time o); outcome = code_only running; words = [] })

-- "running, set the mark"
unfoldable pub cancelling : AtomicThread → AtomicThread
cancelling p = record { run = p.run; mark = cond (runs p.run) true p.mark; left = p.left; outcome = p.outcome; words = p.words }

-- "`left` falls by one in each running thread, unless 0 or never"
unfoldable pub ticking : AtomicThread → AtomicThread
ticking p = record { run = p.run; mark = p.mark; left = cond (runs p.run) (fall p.left) p.left; outcome = p.outcome; words = p.words }

-- "r ends with code 0, source s, the count and words of s", which runs the given operation
unfoldable pub receiver_after : ℕ → Run → AtomicThread → AtomicThread
receiver_after s nothing p = p
receiver_after s (sending o) p = ending (record { code = done; source = s; count = o.send.count }) (message o.send) p
receiver_after s (receiving r) p = p

-- "it is receiving, mark kept, `left` from the receive code"
abbrev pub turning : Receive → AtomicThread → AtomicThread
turning r p = record { run = receiving r; mark = p.mark; left = tick_count (receive_time r); outcome = p.outcome; words = p.words }

-- "s without a receive part ends with 0; else it is receiving"
unfoldable pub sender_after : Run → AtomicThread → AtomicThread
sender_after nothing p = p
sender_after (sending o) p = cond (has_receive o.receive) (turning o.receive p) (ending (code_only done) [] p)
sender_after (receiving r) p = p

-- the machine of n threads after an event
unfoldable pub play : ℕ → Event → Machine → Machine
play n (begins x o) p = update p x (beginning n o (p x))
play n (cancels x) p = update p x (cancelling (p x))
play n ticks p = λ x. ticking (p x)
play n (rendezvous s r) p = update (update p r (receiver_after s (p s).run (p r))) s (sender_after (p s).run (p s))
play n (aborts x c) p = update p x (ending (code_only c) [] (p x))

-- ---- answers, of a type of its own
pub data AtomicReply : Type 0 where
  accepted marked nothing_to_cancel : AtomicReply

-- "answer marked; else nothing to cancel"; "Begin and tick answer accepted"
unfoldable pub reply : Event → Machine → AtomicReply
reply (begins x o) p = accepted
reply (cancels x) p = cond (runs (p x).run) marked nothing_to_cancel
reply ticks p = accepted
reply (rendezvous s r) p = accepted
reply (aborts x c) p = accepted

-- what a user sees of a thread
abbrev pub shows : Machine → ℕ → View
shows p x = record { outcome = (p x).outcome; words = (p x).words }

-- ---- conditions
-- "s queued at r (sending to r)"
pub record QueuedAt (p : Machine) (s r : ℕ) : Type 0 where
  pub operation : Operation
  pub runs : (p s).run ≡ sending operation
  pub target : operation.send.target ≡ r

-- the receive part of what runs is "open or closed on s"
abbrev pub accepts_in : Run → ℕ → Bool
accepts_in nothing s = false
accepts_in (sending o) s = accepts o.receive s
accepts_in (receiving r) s = accepts r s

-- what runs is a receive
abbrev pub is_receiving : Run → Bool
is_receiving nothing = false
is_receiving (sending o) = false
is_receiving (receiving r) = true

-- "r is ready for s if r is receiving, unmarked, and open or closed on s"
unfoldable pub ready_for : Machine → ℕ → ℕ → Bool
ready_for p r s = all_of (is_receiving (p r).run ∷ not (p r).mark ∷ accepts_in (p r).run s ∷ [])

-- "no acceptable sender queued" at r
abbrev pub NoneAcceptable : ℕ → Machine → ℕ → Type 0
NoneAcceptable n p r = (s : ℕ) → s < n → QueuedAt p s r → accepts_in (p r).run s ≡ false

-- "-6 or -4 ends a sending thread, -5 or -3 a receiving one. -6 and -5 need a mark; -4 needs `left` 0 and a target not ready;
-- -3 needs `left` 0 and", where the receive code is 0 (document 02, #106), "no acceptable sender queued"
pub data CanAbort (n : ℕ) (p : Machine) (x : ℕ) : ℤ → Type 0 where
  cancelled_sending : (o : Operation) → (p x).run ≡ sending o → (p x).mark ≡ true → CanAbort n p x send_cancelled
  late_sending : (o : Operation) → (p x).run ≡ sending o → (p x).left ≡ 0 → ready_for p o.send.target x ≡ false → CanAbort n p x send_time_over
  cancelled_receiving : (r : Receive) → (p x).run ≡ receiving r → (p x).mark ≡ true → CanAbort n p x receive_cancelled
  late_receiving : (r : Receive) → (p x).run ≡ receiving r → (p x).left ≡ 0 → (receive_time r ≡ 0 → NoneAcceptable n p x) → CanAbort n p x receive_time_over

-- the conditions of an event: a begin finds "nothing running"; a rendezvous is "of a queued sender s and its target r, ready for it"
abbrev pub Can : ℕ → Event → Machine → Type 0
Can n (begins x o) p = (x < n) × ((p x).run ≡ nothing)
Can n (cancels x) p = x < n
Can n ticks p = Unit {0}
Can n (rendezvous s r) p = (s < n) × (r < n) × QueuedAt p s r × (ready_for p r s ≡ true)
Can n (aborts x c) p = (x < n) × CanAbort n p x c
