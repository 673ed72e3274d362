-- Demand 3 applied to any number of threads, store and trace within the bounds.
use mathlib.Core.Path.{◌≡◌}
use mathlib.Core.Logic.{◌≢◌}
use mathlib.Core.Option.{some}
use mathlib.Core.List.{List, [], ◌∷◌, map, reverse}
use Prim.Native.Nat.{ℕ, ◌*◌, ◌≤◌, ◌<◌}
use lib.ListN.{length, get_elem?, take}
use Rattle.model.specs.declared.Operation.{Operation}
use Rattle.model.specs.Answers.{said}
use Rattle.model.specs.Lists.{bit, occurs}
use Rattle.model.specs.Codes.{running}
use Rattle.model.specs.Threads.{new_table}
use Rattle.model.specs.Promise.{state, view}
use Rattle.model.specs.Atomic.{shows}
use Rattle.model.specs.Linearization.{Observed, Trace, Entry, played, AtCall, Allowed, latest, EndsAt, HasEnded, pairs, fate, send_completed, receive_completed, BeginsAt, Among, Match}
use Rattle.model.specs.Linearized.{linearization}
use Rattle.model.proofs.Traces.{calls_of}
use Rattle.linearization.proofs.Demand.{demand3}
use Rattle.linearization.proofs.Corollaries.{only-linearization}
use Rattle.linearization.proofs.Places.{PlacedAt, placed_at}

module _ (n : ℕ) (one : 1 ≤ n) (few : n ≤ 32) (store : List ℕ) (fit : length store ≡ 8 * n) (trace : List Observed) (t : Trace (state (new_table n) store) trace) where
  -- its linearization
  abbrev pub entries : List Entry
  entries = (demand3 n one few store fit trace t).0

  -- it is computed from the calls
  pub entries_computed : entries ≡ linearization (state (new_table n) store) (calls_of trace)
  entries_computed = only-linearization n one few store fit trace t entries (demand3 n one few store fit trace t).1

  -- what stands at the k-th call, which is c
  pub at_call : (k : ℕ) (c : Observed) → get_elem? trace k ≡ some c → PlacedAt n [] entries k c
  at_call = placed_at n [] trace entries (demand3 n one few store fit trace t).1.follows

  module _ (k : ℕ) (c : Observed) (i : get_elem? trace k ≡ some c) where
    -- its entry
    abbrev pub here : Entry
    here = (at_call k c i).entry

    -- the entries before it, the newest first
    abbrev pub before : List Entry
    before = reverse (take k entries)

    -- what stands in its place, and that begin, cancel and tick are answered alike
    pub answered : AtCall c.call (said c.answer) here (played n before)
    answered = (at_call k c i).follows.place

    -- the conditions of its event hold where it stands
    pub allowed : Allowed n here (played n before)
    allowed = (at_call k c i).follows.allowed

    -- what the threads show after it
    pub viewed : (x : ℕ) → x < n → view c.after x ≡ shows (played n (here ∷ before)) x
    viewed = (at_call k c i).follows.views

    -- an ending in its place has its begin
    pub ending-has-begun : (x : ℕ) → x < n → EndsAt n x here before → (i : ℕ) × (latest x (here ∷ before) ≡ some i)
    ending-has-begun = (at_call k c i).follows.begun

    -- and what it shows as ended has its ending by now
    pub ending-shown : (x : ℕ) → x < n → (i : ℕ) → latest x (here ∷ before) ≡ some i → (view c.after x).outcome.code ≢ running → HasEnded n x i (here ∷ before)
    ending-shown = (at_call k c i).follows.shown

  -- how often an operation is a sender
  pub sends-counted : (x : ℕ) (o : Operation) (i : ℕ) → x < n → BeginsAt x o i (reverse entries)
      → occurs i (map (λ pair. pair.0) (pairs (reverse entries))) ≡ bit (send_completed o (fate n x i (reverse entries)))
  sends-counted = (demand3 n one few store fit trace t).1.paired.sends

  -- and how often a receiver
  pub receives-counted : (x : ℕ) (o : Operation) (i : ℕ) → x < n → BeginsAt x o i (reverse entries)
      → occurs i (map (λ pair. pair.1) (pairs (reverse entries))) ≡ bit (receive_completed o (fate n x i (reverse entries)))
  receives-counted = (demand3 n one few store fit trace t).1.paired.receives

  -- each pair is of a completed send to the thread of a completed receive
  pub pairs-matched : (i j : ℕ) → Among (i, j) (pairs (reverse entries)) → Match n i j (reverse entries)
  pairs-matched = (demand3 n one few store fit trace t).1.paired.matched
