-- What readers look for in demand 3, each for every trace from a new table.
use mathlib.Core.Path.{◌≡◌, ap, ◌∙◌, subst}
use mathlib.Core.Bool.{true}
use mathlib.Core.List.{List, [], ◌∷◌, reverse, reverse_aux}
use Prim.Native.Nat.{ℕ, ◌*◌, ◌≤◌, ◌<◌}
use native.Mathlib.Omega.{arith}
use lib.ListN.{length}
use Rattle.model.specs.declared.Operation.{Operation}
use Rattle.model.specs.Codes.{running, View}
use Rattle.model.specs.Threads.{new_table}
use Rattle.model.specs.Calls.{State}
use Rattle.model.specs.Promise.{state, view}
use Rattle.model.specs.Atomic.{shows}
use Rattle.model.specs.Linearization.{Observed, Trace, Entry, played, HasEnded, fate, send_completed, receive_completed, BeginsAt, Linearizes}
use Rattle.model.specs.Linearized.{entry, linearization}
use Rattle.model.proofs.Traces.{calls_of}
use Rattle.pairing.proofs.Operations.{AllAllowed}
use Rattle.pairing.proofs.Endings.{open-running}
use Rattle.pairing.proofs.Exchange.{ReceivedOnce, SentOnce, send-received, receive-sent}
use Rattle.linearization.proofs.Represents.{Represents, first-represents}
use Rattle.linearization.proofs.Demand.{represents-shown, left-represents, entry_follows, followed_allowed, linearizes}
use Rattle.linearization.proofs.Forced.{linearization-forced}

-- the state that a trace leaves, from a state s
abbrev pub last_of : State → List Observed → State
last_of s [] = s
last_of s (c ∷ cs) = last_of c.after cs

-- it represents the atomic machine that has played the linearization
last-represents : (n : ℕ) (past : List Entry) → AllAllowed n past → (s : State) → Represents n s (played n past) → (trace : List Observed) → Trace s trace
    → Represents n (last_of s trace) (played n (reverse_aux (linearization s (calls_of trace)) past))
unfolding linearization
last-represents n past all s R [] t = R
last-represents n past all s R (c ∷ cs) (kept, rest) =
    subst (λ (after : State). Represents n (last_of c.after cs) (played n (reverse_aux (linearization after (calls_of cs)) (entry c.call s ∷ past)))) kept.leaves
    (last-represents n (entry c.call s ∷ past) (all, (entry_follows n past all s R c kept).allowed) c.after (left-represents n past all s R c kept) cs rest)

module _ (n : ℕ) (one : 1 ≤ n) (few : n ≤ 32) (store : List ℕ) (fit : length store ≡ 8 * n) (trace : List Observed) (t : Trace (state (new_table n) store) trace) where
  -- the entries of the linearization, the newest first
  abbrev pub past : List Entry
  past = reverse (linearization (state (new_table n) store) (calls_of trace))

  -- each was allowed where it stands
  all-allowed : AllAllowed n past
  all-allowed = followed_allowed n [] tt trace _ (linearizes n one few store fit trace t).follows

  -- there is no other linearization
  pub only-linearization : (other : List Entry) → Linearizes n trace other → other ≡ linearization (state (new_table n) store) (calls_of trace)
  only-linearization other l = linearization-forced n (omega arith) trace other _ l (linearizes n one few store fit trace t)

  -- each completed send has exactly one completed receive, with its source, count and words
  pub completed-send : (x : ℕ) (o : Operation) (i : ℕ) → BeginsAt x o i past → send_completed o (fate n x i past) ≡ true → ReceivedOnce n x o i past
  completed-send x o i = send-received n x o i past all-allowed

  -- and each completed receive exactly one completed send
  pub completed-receive : (x : ℕ) (o : Operation) (i : ℕ) → BeginsAt x o i past → receive_completed o (fate n x i past) ≡ true → SentOnce n x o i past
  completed-receive x o i = receive-sent n x o i past all-allowed

  -- at the end of the trace both machines show the same
  pub last-shown : (x : ℕ) → x < n → view (last_of (state (new_table n) store) trace) x ≡ shows (played n past) x
  unfolding played
  last-shown = represents-shown n _ _ (last-represents n [] tt (state (new_table n) store) (first-represents n one few store fit) trace t)

  -- an operation that is unfinished at the end shows running on both machines
  pub unfinished_running : (x : ℕ) (o : Operation) (i : ℕ) → x < n → BeginsAt x o i past → (HasEnded n x i past → ⊥)
      → ((played n past x).outcome.code ≡ running) × ((view (last_of (state (new_table n) store) trace) x).outcome.code ≡ running)
  unfinished_running x o i xn began unended =
      let r = open-running n x o i past all-allowed began unended in
      (r, ap (λ (v : View). v.outcome.code) (last-shown x xn) ∙ r)
