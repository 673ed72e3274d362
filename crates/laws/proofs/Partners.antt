-- Document 02, #104: "A closed wait on one partner is the set with one member". Nothing that is tested of a receive part tells the two apart.
use mathlib.Core.Path.{◌≡◌, refl}
use mathlib.Core.Bool.{false}
use Prim.Native.Nat.{ℕ, ◌^◌}
use native.Mathlib.Omega.{arith}
use lib.Pow.{pow_pos}
use borrow.Author.Tests.{ne_eqb}
use Rattle.model.specs.declared.SendPart.{SendPart}
use Rattle.model.specs.declared.Wait.{Wait}
use Rattle.model.specs.declared.Receive.{Receive}
use Rattle.model.specs.declared.Receive.TheVariants.{Closed, OneOf}
use Rattle.model.specs.declared.Operation.{Operation}
use Rattle.model.specs.declared.EntryPoint.{EntryPoint}
use Rattle.model.specs.declared.EntryPoint.TheVariants.{Main, Spark}
use Rattle.model.specs.Operations.{accepts, closed_on, closed_beyond, empty_set}
use Rattle.model.specs.Calls.{begin_via, State}
use Rattle.model.specs.Refusals.{refusal, rows_of, table_rows, argument_rows, unruled_rows, begin_rows, later_rows, neither_part, with_itself, no_partner, no_member, too_many_words, more_words, bad_time, not_permitted}

-- the set with one member, and the same time
abbrev pub as_set : Wait → Receive
as_set w = OneOf w.time (2 ^ w.partner)

-- it has a member
set_there : (w : Wait) → empty_set (as_set w) ≡ false
set_there w = ne_eqb (2 ^ w.partner) 0 (λ e. omega (arith, pow_pos w.partner))

-- the same senders are acceptable
pub same_acceptable : (w : Wait) (s : ℕ) → accepts (Closed w) s ≡ accepts (as_set w) s
unfolding closed_on
same_acceptable w s = refl

-- an operation with this send part that waits so
abbrev pub waiting : SendPart → Receive → Operation
waiting send receive = record { send = send; receive = receive }

-- and a begin is refused by the same number, or accepted
pub same-refusal : (via : EntryPoint) (x : ℕ) (send : SendPart) (w : Wait) (s : State) → refusal (begin_via via x (waiting send (Closed w))) s ≡ refusal (begin_via via x (waiting send (as_set w))) s
unfolding refusal rows_of table_rows argument_rows unruled_rows begin_rows later_rows neither_part with_itself no_partner no_member too_many_words more_words bad_time not_permitted closed_on closed_beyond
same-refusal Main x send w s = rw (set_there w) refl
same-refusal Spark x send w s = rw (set_there w) refl
