-- What the outcome call promises: of its answer, by the code's tests, and of its words and their place, by its answer.
use Rattle.std.proofs.Common.{◌≡◌, refl, sym, ◌∙◌, List, [], ◌++◌, ℕ, ◌+◌, ◌*◌, min, arith, length, take}
use Rattle.model.specs.Answers.{SaidOutcome, shown}
use Rattle.model.specs.Threads.{at}
use Rattle.model.specs.Store.{words_at}
use Rattle.model.specs.Calls.{State}
use Rattle.model.specs.Refusals.{first_refusal, unless, table_rows, argument_rows, outcome_refusal}
use Rattle.model.specs.Promise.{view, outcome_answer, outcome_words, outcome_place}
use Rattle.laws.proofs.Lists.{zero_or_not}
use Rattle.laws.proofs.Refusals.{outcome_as_step, accepted-step}
use Rattle.refusals.specs.declared.Refusal.{Refusal}
use Rattle.refusals.specs.Numbers.{number}
use Rattle.refusals.proofs.Laws.{refusal-numbered}

-- ---- the answer
module _ (s : State) (x : ℕ) where
  -- refused, it answers the number
  pub outcome-refused : (r : Refusal) (g : ℕ) → g ≡ number r → number r ≡ first_refusal (table_rows s.table ++ argument_rows s.table x (length s.store)) → SaidOutcome.refused g ≡ outcome_answer s x
  unfolding outcome_answer outcome_refusal unless
  outcome-refused r g is e = zero_or_not (number r) (λ z. absurd (omega (arith, refusal-numbered r))) (λ k n. rw (sym e, is, n) refl)

  -- else it shows code, source and count
  pub outcome-shown : 0 ≡ first_refusal (table_rows s.table ++ argument_rows s.table x (length s.store)) → shown (at s.table x).outcome ≡ outcome_answer s x
  unfolding outcome_answer outcome_refusal unless view
  outcome-shown z = rw (sym z) refl

-- ---- the words and their place
module _ (s : State) (x : ℕ) where
  -- the words that go with an answer
  abbrev pub words_of : SaidOutcome → List ℕ
  words_of (SaidOutcome.refused g) = []
  words_of (shown o) = take o.count (words_at s.store x)

  -- where the code borrows them
  abbrev pub place_of : SaidOutcome → ℕ
  place_of (SaidOutcome.refused g) = min (8 * 0) (length s.store)
  place_of (shown o) = min (8 * x) (length s.store)

  -- a call that is not refused finds the thread's eight words in the store
  start-there : outcome_refusal s x ≡ 0 → min (8 * x) (length s.store) ≡ 8 * x
  start-there z = let own = accepted-step x s (sym (outcome_as_step s x) ∙ z) in omega (arith, own.below, own.store)

  -- the place of an answer is the call's
  place_same : place_of (outcome_answer s x) ≡ outcome_place s x
  unfolding outcome_answer outcome_place unless view
  place_same = zero_or_not (outcome_refusal s x) (λ z. rw z (start-there z)) (λ g is. rw is (omega arith))

  -- with the call's answer go its words, from their place on, in bytes after where the store starts
  module _ {a : SaidOutcome} (e : a ≡ outcome_answer s x) where
    pub words-answered : words_of a ≡ outcome_words s x
    unfolding outcome_answer outcome_words unless view
    words-answered = rw e (zero_or_not (outcome_refusal s x) (λ z. rw z refl) (λ g is. rw is refl))

    pub place-answered : (front : ℕ) → front + 4 * place_of a ≡ front + 4 * outcome_place s x
    place-answered front = rw (e, place_same) refl
