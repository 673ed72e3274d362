-- A refused call keeps its promise, and so does making a table.
use Rattle.std.proofs.Common.{◌≡◌, ℕ, suc, List, refl, sym, ◌∙◌, subst, arith}
use Rattle.model.specs.declared.Answer.TheVariants.{Refused, Accepted}
use Rattle.model.specs.declared.Table.{Table}
use Rattle.model.specs.declared.Returned.{Returned}
use Rattle.model.specs.Threads.{new_table}
use Rattle.model.specs.Calls.{Call}
use Rattle.model.specs.Refusals.{refusal, make_refusal, unless}
use Rattle.model.specs.Promise.{state, Promise, make_answer, made_table, MakePromise}
use Rattle.laws.proofs.Lists.{zero_or_not}
use Rattle.laws.proofs.Calls.{refused-next, refused-answer}
use Rattle.refusals.specs.declared.Refusal.{Refusal}
use Rattle.refusals.specs.Numbers.{number}
use Rattle.refusals.proofs.Laws.{refusal-numbered}

-- a refusal has a number, so what is settled where there is one is settled by it
pub by_number : {P : Type 0} (r : Refusal) (g : ℕ) → number r ≡ g → ((k : ℕ) → g ≡ suc k → P) → P
by_number r g e h = zero_or_not g (λ z. absurd (omega (arith, refusal-numbered r))) h

-- a call that is refused by a number answers it and changes nothing
pub refused_promise : (c : Call) (t : Table) (store : List ℕ) (r : Refusal) (g : ℕ) → g ≡ number r → number r ≡ refusal c (state t store) → Promise c (state t store) (Refused g) (state t store)
refused_promise c t store r g is e = by_number r _ e (λ k s. record { answers = rw (is ∙ e, s) (sym (refused-answer c (state t store) k s)); leaves = sym (refused-next c (state t store) k s) })

-- making a table that is refused makes none
pub make-refused : (n : ℕ) (r : Refusal) (returned : Returned) → returned ≡ record { answer = Refused (number r); table = new_table 0 } → number r ≡ make_refusal n → MakePromise n returned.answer returned.table
unfolding make_answer made_table unless
make-refused n r returned is e =
    subst (λ (to : Returned). MakePromise n to.answer to.table) (sym is) (by_number r _ e (λ k s. record { answers = rw (e, s) refl; makes = rw s refl }))

-- else one is made
pub make-accepted : (n : ℕ) → 0 ≡ make_refusal n → MakePromise n Accepted (new_table n)
unfolding make_answer made_table unless
make-accepted n e = record { answers = rw (sym e) refl; makes = rw (sym e) refl }
