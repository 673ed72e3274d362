-- Calls replayed: their linearization is played on the atomic machine, and both machines are compared after every call. All of it computes.
-- What demand 3 says besides, of endings and of pairs, follows from events that are allowed and is not compared.
use mathlib.Core.Bool.{Bool, true, false, not, ◌&&◌, ◌||◌}
use mathlib.Core.Option.{none, some}
use mathlib.Core.List.{List, [], ◌∷◌}
use Prim.Native.Nat.{ℕ}
use lib.Dec.{eqb, ltb}
use lib.IntN.{ℤ}
use Rattle.model.specs.Answers.{Reply, accepted, marked, nothing_to_cancel, moved, idle, held, wants, asleep, Said, refused, replied}
use Rattle.model.specs.Lists.{implies, all_of, all_below, same_numbers}
use Rattle.model.specs.Operations.{receive_time}
use Rattle.model.specs.Codes.{receive_time_over, send_time_over, receive_cancelled, send_cancelled, same_code, View}
use Rattle.model.specs.WellFormed.{well_formed}
use Rattle.model.specs.Calls.{Call, State}
use Rattle.model.specs.Promise.{answer, next, view}
use Rattle.model.specs.Atomic.{Run, nothing, sending, receiving, Machine, Event, begins, cancels, ticks, rendezvous, aborts, runs, reply, shows, accepts_in, ready_for}
use Rattle.model.specs.Linearization.{Entry, play_entry, alike}
use Rattle.model.specs.Linearized.{entry}

-- ---- the conditions of an event as a test
-- what runs is a send to r
abbrev pub sends_now_to : Run → ℕ → Bool
sends_now_to nothing r = false
sends_now_to (sending o) r = eqb o.send.target r
sends_now_to (receiving w) r = false

-- no acceptable sender is queued at r
unfoldable pub none_acceptable : ℕ → Machine → ℕ → Bool
none_acceptable n p r = all_below n (λ s. implies (sends_now_to (p s).run r) (not (accepts_in (p r).run s)))

-- what x runs may be aborted with code c
unfoldable pub abort_test : ℕ → Machine → ℕ → ℤ → Run → Bool
abort_test n p x c nothing = false
abort_test n p x c (sending o) = same_code c send_cancelled && (p x).mark || same_code c send_time_over && (eqb (p x).left 0 && not (ready_for p o.send.target x))
abort_test n p x c (receiving w) = same_code c receive_cancelled && (p x).mark || same_code c receive_time_over && (eqb (p x).left 0 && implies (eqb (receive_time w) 0) (none_acceptable n p x))

-- the conditions of an event hold
unfoldable pub can_test : ℕ → Event → Machine → Bool
can_test n (begins x o) p = all_of (ltb x n ∷ not (runs (p x).run) ∷ [])
can_test n (cancels x) p = ltb x n
can_test n ticks p = true
can_test n (rendezvous s r) p = all_of (ltb s n ∷ ltb r n ∷ sends_now_to (p s).run r ∷ ready_for p r s ∷ [])
can_test n (aborts x c) p = all_of (ltb x n ∷ abort_test n p x c (p x).run ∷ [])

-- of an entry
abbrev pub allowed_test : ℕ → Entry → Machine → Bool
allowed_test n none p = true
allowed_test n (some e) p = can_test n e p

-- ---- both machines after each call
-- two threads show the same
unfoldable pub same_view : View → View → Bool
same_view v w = all_of (
    same_code v.outcome.code w.outcome.code
    ∷ eqb v.outcome.source w.outcome.source
    ∷ eqb v.outcome.count w.outcome.count
    ∷ same_numbers v.words w.words
    ∷ []
    )

-- a reply by a number, so that two can be compared
abbrev pub reply_number : Reply → ℕ
reply_number accepted = 0
reply_number marked = 1
reply_number nothing_to_cancel = 2
reply_number moved = 3
reply_number idle = 4
reply_number held = 5
reply_number wants = 6
reply_number asleep = 7

-- what was said is this reply
abbrev pub says_reply : Said → Reply → Bool
says_reply (refused g) r = false
says_reply (replied a) r = eqb (reply_number a) (reply_number r)

-- a call that is its own event is answered as the atomic machine answers it
abbrev pub answer_test : Entry → Said → Machine → Bool
answer_test none a p = true
answer_test (some (begins x o)) a p = says_reply a (alike (reply (begins x o) p))
answer_test (some (cancels x)) a p = says_reply a (alike (reply (cancels x) p))
answer_test (some ticks) a p = says_reply a (alike (reply ticks p))
answer_test (some (rendezvous s r)) a p = true
answer_test (some (aborts x c)) a p = true

-- from s and p on, each event is allowed where it stands and answered alike, after each call both machines show the same, and the last
-- table is well-formed
unfoldable pub agree : ℕ → State → Machine → List Call → Bool
agree n s p [] = well_formed s.table
agree n s p (c ∷ cs) =
    let e = entry c s in
    let after = next c s in
    let later = play_entry n e p in
    all_of (allowed_test n e p ∷ answer_test e (answer c s) p ∷ all_below n (λ x. same_view (view after x) (shows later x)) ∷ agree n after later cs ∷ [])
