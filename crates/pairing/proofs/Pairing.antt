-- Where each entry was allowed, each completed send part is in exactly one rendezvous, with a completed receive part; likewise each completed receive part.
use mathlib.Core.Path.{◌≡◌, sym, ap}
use mathlib.Core.Logic.{⊎_elim}
use mathlib.Core.Bool.{true}
use mathlib.Core.List.{List, [], ◌∷◌, map}
use Prim.Native.Nat.{ℕ, ◌≤◌}
use native.Mathlib.Omega.{arith}
use borrow.Author.Tests.{eq-eqb}
use Rattle.model.specs.declared.Operation.{Operation}
use Rattle.model.specs.Lists.{occurs}
use Rattle.model.specs.Linearization.{Entry, pairs, fate, BeginsAt, Among, Paired}
use Rattle.laws.proofs.Lists.{bit_holds}
use Rattle.pairing.proofs.Sides.{Side, sender, receiver, place_on, completed}
use Rattle.pairing.proofs.Operations.{AllAllowed}
use Rattle.pairing.proofs.Counting.{counted}
use Rattle.pairing.proofs.Delivery.{pair-delivered}

-- what stands among the pairs is counted, whatever is read of it
pub among-counted : (f : ℕ × ℕ → ℕ) (pair : ℕ × ℕ) (l : List (ℕ × ℕ)) → Among pair l → 1 ≤ occurs (f pair) (map f l)
unfolding occurs
among-counted f pair [] a = absurd a
among-counted f pair (q ∷ l) a = ⊎_elim (λ e. rw (eq-eqb (f q) (f pair) (sym (ap f e))) (omega arith)) (λ h. omega (arith, among-counted f pair l h)) a

-- both parts of a pair are completed
pair-completed : (side : Side) (n x : ℕ) (o : Operation) (pair : ℕ × ℕ) (past : List Entry)
    → AllAllowed n past → Among pair (pairs past) → BeginsAt x o (place_on side pair) past → completed side o (fate n x (place_on side pair) past) ≡ true
pair-completed side n x o pair past l a b =
    bit_holds (completed side o (fate n x (place_on side pair) past))
    (omega (arith, counted n side x o (place_on side pair) past l b, among-counted (place_on side) pair (pairs past) a))

-- each completed part is in exactly one rendezvous
pub all-paired : (n : ℕ) (past : List Entry) → AllAllowed n past → Paired n past
all-paired n past l = record {
  sends = λ x o i _ b. counted n sender x o i past l b;
  receives = λ x o i _ b. counted n receiver x o i past l b;
  matched = λ i j a. let d = pair-delivered n i j past l a in record {
    sender = d.sender;
    receiver = d.receiver;
    sent = d.sent;
    received = d.received;
    sends = d.sends;
    receives = d.receives;
    target = d.target;
    send_done = pair-completed sender n d.sender d.sent (i, j) past l a d.sends;
    receive_done = pair-completed receiver n d.receiver d.received (i, j) past l a d.receives;
  };
}
