-- The steps of a table's threads, tried one after the other, and the answer that comes of it.
use Rattle.std.proofs.Common.{◌≡◌, ℕ, ◌+◌, ◌*◌, ◌<◌, ◌≤◌, true, false, not, List, length, Option, None, Some, Ok, MatchOption, refl, sym, ap, ◌∙◌, arith}
use borrow.Author.Tests.{lt-ltb, le-ltb}
use Rattle.model.specs.declared.Table.{Table}
use Rattle.model.specs.declared.Answer.{Answer}
use Rattle.model.specs.Answers.{said, SaidRest}
use Rattle.model.specs.WellFormed.{well_formed}
use Rattle.model.specs.Calls.{step, State}
use Rattle.model.specs.Refusals.{first_refusal, unless, table_rows, refusal}
use Rattle.model.specs.Promise.{state, Promise}
use Rattle.model.specs.Rest.{stays, step_stays, tried, first_to_move, rest_answer}
use Rattle.model.proofs.Laws.{same?}
use Rattle.laws.proofs.Below.{first-missing, first-is}
use Rattle.laws.proofs.Lists.{cond-true, cond-false, zero_or_not}
use Rattle.laws.proofs.Accepted.{step-accepted}
use Rattle.laws.proofs.Calls.{answers_as_tried}
use Rattle.refusals.specs.declared.Refusal.{Refusal}
use Rattle.refusals.specs.Numbers.{number}
use Rattle.refusals.proofs.Laws.{refusal-numbered}
use Rattle.resting.specs.Said.{said_rest}

-- ---- one step
module _ (t : Table) (x : ℕ) (formed : well_formed t ≡ true) (below : x < t.n) (store : List ℕ) (fit : length store ≡ 8 * t.n) where
  -- it is not refused
  pub try_accepted : refusal (step x) (state t store) ≡ 0
  try_accepted = step-accepted (state t store) formed x below fit

  -- it stays, as its answer says
  pub try_stays : (a : Answer) (after : State) → Promise (step x) (state t store) a after → stays (said a) ≡ step_stays (tried t) x
  unfolding step_stays
  try_stays a after kept = ap stays (kept.answers ∙ answers_as_tried t x store fit)

-- ---- one after the other
-- the steps of the threads before x were tried, and each stayed
pub record Trying (t : Table) (x : ℕ) : Type 0 where
  pub formed : well_formed t ≡ true
  pub inside : x ≤ t.n
  pub stayed : (y : ℕ) → y < x → step_stays (tried t) y ≡ true

-- before the first
pub none_tried : (t : Table) → well_formed t ≡ true → Trying t 0
none_tried t formed = record { formed = formed; inside = omega arith; stayed = λ y l. absurd (omega arith) }

module _ {t : Table} {x : ℕ} (K : Trying t x) where
  -- where all were tried, none would move
  pub all-tried : t.n ≤ x → first_to_move t ≡ t.n
  unfolding first_to_move
  all-tried past = first-missing t.n (λ y. not (step_stays (tried t) y)) (λ y l. ap not (K.stayed y (omega arith)))

  -- where the next stays too, one more was tried
  pub goes_on : x < t.n → step_stays (tried t) x ≡ true → Trying t (x + 1)
  goes_on more e = record { formed = K.formed; inside = omega arith; stayed = λ y l. same? y x (λ i. rw i e) (λ d. K.stayed y (omega arith)) }

  -- where it does not, it is the first that would move
  pub stops-here : x < t.n → step_stays (tried t) x ≡ false → first_to_move t ≡ x
  unfolding first_to_move
  stops-here more e = first-is t.n (λ y. not (step_stays (tried t) y)) x more (ap not e) (λ y l. ap not (K.stayed y l))

-- ---- the answer
module _ (t : Table) where
  -- refused, the number
  pub rest-refused : (r : Refusal) (g : ℕ) → g ≡ number r → number r ≡ first_refusal (table_rows t) → SaidRest.refused g ≡ rest_answer t
  unfolding rest_answer unless
  rest-refused r g is e = zero_or_not (number r) (λ z. absurd (omega (arith, refusal-numbered r))) (λ k n. rw (sym e, is, n) refl)

  -- else the thread that would move, or that none would
  pub rest-told : 0 ≡ first_refusal (table_rows t) → (found : Option ℕ) → MatchOption found (first_to_move t ≡ t.n) (λ x. (first_to_move t ≡ x) × (x < t.n)) → said_rest (Ok found) ≡ rest_answer t
  unfolding rest_answer unless
  rest-told z None first = rw (sym z, first) (sym (cond-false _ _ _ (le-ltb t.n t.n (omega arith))))
  rest-told z (Some x) (first, below) = rw (sym z, first) (sym (cond-true _ _ _ (lt-ltb x t.n below)))
