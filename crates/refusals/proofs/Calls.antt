-- What is known where no row on the table and on a thread's number holds.
use Rattle.std.proofs.Common.{◌≡◌, ℕ, [], ◌∷◌, Result, Ok, Err, refl, OnOk}
use Rattle.model.specs.declared.Table.{Table}
use Rattle.model.specs.Refusals.{first_refusal, no_thread, table_rows, argument_rows}
use Rattle.laws.proofs.Groups.{table-formed, table-few, number-below, place-below}
use Rattle.refusals.specs.declared.Refusal.{Refusal}
use Rattle.refusals.specs.Numbers.{number_of}
use Rattle.refusals.specs.There.{There}

module _ (t : Table) (x : ℕ) (rows : 0 ≡ first_refusal (table_rows t)) (answer : Result (Unit {0}) Refusal) where
  -- where the row on the number is tested alone
  pub numbered_there : number_of answer ≡ first_refusal (no_thread t x ∷ []) → OnOk answer (There t x)
  numbered_there e = elim answer as (λ a. number_of a ≡ first_refusal (no_thread t x ∷ []) → OnOk a (There t x)) [
    | Ok _ ↦ λ z. record { formed = table-formed t 0 rows refl; few = table-few t 0 rows refl; below = number-below t x 0 z refl }
    | Err refusal ↦ λ z. tt
  ] e

  -- and where that on the length of a word store is too
  pub stored_there : (words : ℕ) → number_of answer ≡ first_refusal (argument_rows t x words) → OnOk answer (There t x)
  stored_there words e = elim answer as (λ a. number_of a ≡ first_refusal (argument_rows t x words) → OnOk a (There t x)) [
    | Ok _ ↦ λ z. record { formed = table-formed t 0 rows refl; few = table-few t 0 rows refl; below = place-below t x words 0 z refl }
    | Err refusal ↦ λ z. tt
  ] e
