-- Rows as `?` joins them.
use Rattle.std.proofs.Common.{◌≡◌, ◌≢◌, ℕ, ◌<◌, true, false, List, [], ◌∷◌, ◌++◌, Result, Ok, Err, refl, arith}
use Rattle.std.specs.Result.{is_err}
use Rattle.model.specs.declared.Operation.{Operation}
use Rattle.model.specs.declared.EntryPoint.{EntryPoint}
use Rattle.model.specs.declared.EntryPoint.TheVariants.{Main, Spark}
use Rattle.model.specs.Refusals.{Row, first_refusal, too_many_words}
use Rattle.model.proofs.Laws.{by}
use Rattle.laws.proofs.Rows.{numbered, group_refuses, group_passes}
use Rattle.refusals.specs.declared.Refusal.{Refusal}
use Rattle.refusals.specs.declared.Refusal.TheVariants.{BadSize, NotWellFormed, NoThread, LockOwned, NotIdle, NeitherPart, WithItself, NoPartner, TooManyWords, BadTime, BadLength, BadRecord, NotPermitted, BadRules, NoMember, TooManySparkWords}
use Rattle.refusals.specs.Numbers.{number, number_of}

-- no refusal has the number 0
pub refusal-numbered : (refusal : Refusal) → 0 < number refusal
refusal-numbered BadSize = omega arith
refusal-numbered NotWellFormed = omega arith
refusal-numbered NoThread = omega arith
refusal-numbered LockOwned = omega arith
refusal-numbered NotIdle = omega arith
refusal-numbered NeitherPart = omega arith
refusal-numbered WithItself = omega arith
refusal-numbered NoPartner = omega arith
refusal-numbered TooManyWords = omega arith
refusal-numbered BadTime = omega arith
refusal-numbered BadLength = omega arith
refusal-numbered BadRecord = omega arith
refusal-numbered NotPermitted = omega arith
refusal-numbered BadRules = omega arith
refusal-numbered NoMember = omega arith
refusal-numbered TooManySparkWords = omega arith

-- the row on words has a number through either entry
pub words-numbered : (via : EntryPoint) (o : Operation) → 0 < (too_many_words via o).number
unfolding too_many_words
words-numbered Main o = omega arith
words-numbered Spark o = omega arith

module _ (row : Row) (rows : List Row) where
  -- where a row does not hold, the others decide
  pub row-passes : first_refusal (row ∷ []) ≡ 0 → 0 < row.number → first_refusal (row ∷ rows) ≡ first_refusal rows
  unfolding first_refusal
  row-passes e n = by row.when
      (λ i. absurd (let z : row.number ≡ 0 = rw i at e in omega arith))
      (λ i. rw i refl)

  -- where it holds, it decides
  pub row-stops : 0 < first_refusal (row ∷ []) → first_refusal (row ∷ rows) ≡ first_refusal (row ∷ [])
  unfolding first_refusal
  row-stops l = by row.when
      (λ i. rw i refl)
      (λ i. absurd (let z : 0 < 0 = rw i at l in omega arith))

pub ruleset joined = (refusal-numbered, words-numbered, row-passes, row-stops)

-- ---- group by group
module _ (a b : List Row) where
  -- a refusal by the first group is that of the whole
  pub group-stops : (refusal : Refusal) → number refusal ≡ first_refusal a → number refusal ≡ first_refusal (a ++ b)
  group-stops refusal e = group_refuses a b (number refusal) e (λ z. omega (arith, refusal-numbered refusal))

  -- where there is none, the others decide
  pub group-goes_on : (g : ℕ) → numbered a ≡ true → 0 ≡ first_refusal a → g ≡ first_refusal b → g ≡ first_refusal (a ++ b)
  group-goes_on g k none e = group_passes a b 0 g k none refl e

-- ---- where only whether there is one is asked
module _ {A : Type 0} where
  -- there is one
  pub some-refused : (answer : Result A Refusal) → is_err answer ≡ true → number_of answer ≢ 0
  some-refused (Ok x) e = cc
  some-refused (Err refusal) e = λ z. omega (arith, refusal-numbered refusal)

  -- there is none
  pub none-refused : (answer : Result A Refusal) → is_err answer ≡ false → number_of answer ≡ 0
  none-refused (Ok x) e = refl
  none-refused (Err refusal) e = cc
