-- Demand 3: every trace has a linearization, the one that `linearization` computes. That it has no other is in `Forced`.
use mathlib.Core.Path.{◌≡◌, sym, ap, ◌∙◌, subst}
use mathlib.Core.List.{List, [], ◌∷◌, reverse_aux}
use Prim.Native.Nat.{ℕ, ◌*◌, ◌≤◌, ◌<◌}
use lib.ListN.{length}
use Rattle.model.specs.Answers.{Said}
use Rattle.model.specs.Codes.{View}
use Rattle.model.specs.Threads.{new_table}
use Rattle.model.specs.Calls.{State}
use Rattle.model.specs.Promise.{state, Promise, view}
use Rattle.model.specs.Atomic.{AtomicThread, Machine, shows}
use Rattle.model.specs.Linearization.{Observed, Trace, Entry, play_entry, played, AtCall, Follows, FollowsAll, Linearizes, Demand3}
use Rattle.model.specs.Linearized.{entry, linearization}
use Rattle.model.proofs.Traces.{calls_of}
use Rattle.pairing.proofs.Operations.{AllAllowed}
use Rattle.pairing.proofs.Endings.{ending-begun, shown-ended}
use Rattle.pairing.proofs.Pairing.{all-paired}
use Rattle.simulation.proofs.Abstraction.{abstraction}
use Rattle.linearization.proofs.Represents.{Represents, first-represents, call_simulated}

-- a state shows what the machine that it represents shows
pub represents-shown : (n : ℕ) (s : State) (p : Machine) → Represents n s p → (x : ℕ) → x < n → view s x ≡ shows p x
unfolding view abstraction
represents-shown n s p R x xn = sym (ap {B = View} (λ (q : AtomicThread). record { outcome = q.outcome; words = q.words }) (R.like x xn))

-- ---- one call
module _ (n : ℕ) (past : List Entry) (all : AllAllowed n past) (s : State) (R : Represents n s (played n past)) (c : Observed) (kept : Promise c.call s c.answer c.after) where
  -- what it leaves represents the machine after its entry
  pub left-represents : Represents n c.after (played n (entry c.call s ∷ past))
  unfolding played
  left-represents = subst (λ (after : State). Represents n after (play_entry n (entry c.call s) (played n past))) (sym kept.leaves) (call_simulated n c.call s (played n past) R).represents

  -- its entry follows
  pub entry_follows : Follows n past c (entry c.call s)
  entry_follows = record {
    place = subst (λ (a : Said). AtCall c.call a (entry c.call s) (played n past)) (sym kept.answers) (call_simulated n c.call s (played n past) R).place;
    allowed = (call_simulated n c.call s (played n past) R).allowed;
    views = represents-shown n c.after (played n (entry c.call s ∷ past)) left-represents;
    begun = λ x xn ends. ending-begun n x (entry c.call s) past all ends;
    shown = λ x xn i began over. shown-ended n x i (entry c.call s ∷ past) began
        (λ e. over (ap (λ (v : View). v.outcome.code) (represents-shown n c.after (played n (entry c.call s ∷ past)) left-represents x xn) ∙ e));
  }

-- ---- all calls of a trace, after any past
module _ (n : ℕ) where
  -- each has its entry
  follows-all : (past : List Entry) → AllAllowed n past → (s : State) → Represents n s (played n past) → (trace : List Observed) → Trace s trace
      → FollowsAll n past trace (linearization s (calls_of trace))
  unfolding linearization
  follows-all past all s R [] t = tt
  follows-all past all s R (c ∷ cs) (kept, rest) =
      let f = entry_follows n past all s R c kept in (
        f,
        subst (λ (after : State). FollowsAll n (entry c.call s ∷ past) cs (linearization after (calls_of cs))) kept.leaves
            (follows-all (entry c.call s ∷ past) (all, f.allowed) c.after (left-represents n past all s R c kept) cs rest),
      )

  -- and each entry was allowed
  pub followed_allowed : (past : List Entry) → AllAllowed n past → (trace : List Observed) (entries : List Entry) → FollowsAll n past trace entries → AllAllowed n (reverse_aux entries past)
  followed_allowed past all [] [] f = all
  followed_allowed past all [] (e ∷ es) f = absurd f
  followed_allowed past all (c ∷ cs) [] f = absurd f
  followed_allowed past all (c ∷ cs) (e ∷ es) f = followed_allowed (e ∷ past) (all, f.0.allowed) cs es f.1

-- ---- the demand
-- the linearization of a trace's calls linearizes the trace
pub linearizes : (n : ℕ) → 1 ≤ n → n ≤ 32 → (store : List ℕ) → length store ≡ 8 * n → (trace : List Observed) → Trace (state (new_table n) store) trace
    → Linearizes n trace (linearization (state (new_table n) store) (calls_of trace))
unfolding played
linearizes n one few store fit trace t =
    let f = follows-all n [] tt (state (new_table n) store) (first-represents n one few store fit) trace t in
    record { follows = f; paired = all-paired n _ (followed_allowed n [] tt trace _ f) }

-- demand 3
pub demand3 : Demand3
demand3 n one few store fit trace t = (linearization (state (new_table n) store) (calls_of trace), linearizes n one few store fit trace t)
