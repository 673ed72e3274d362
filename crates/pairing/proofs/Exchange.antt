-- Each completed send has exactly one completed receive, with its source, count and words; and each completed receive exactly one completed send.
use mathlib.Core.Path.{◌≡◌, refl, sym, ap, ◌∙◌, subst, subst₂}
use mathlib.Core.Logic.{inl, inr, ⊎_elim}
use mathlib.Core.Bool.{true, false}
use mathlib.Core.List.{List, [], ◌∷◌, map}
use Prim.Native.Nat.{ℕ, ◌+◌, ◌≤◌}
use native.Mathlib.Omega.{arith}
use lib.Dec.{eqb}
use borrow.Author.Tests.{eqb-true, eqb-false}
use Rattle.model.specs.declared.Operation.{Operation}
use Rattle.model.specs.Lists.{bit, occurs}
use Rattle.model.specs.Codes.{done}
use Rattle.model.specs.Operations.{accepts, message}
use Rattle.model.specs.Linearization.{Entry, pairs, fate, BeginsAt, Among, send_completed, receive_completed}
use Rattle.model.proofs.Laws.{by}
use Rattle.pairing.proofs.Sides.{Side, place_on, completed, sender, receiver}
use Rattle.pairing.proofs.Places.{begins-one}
use Rattle.pairing.proofs.Operations.{AllAllowed}
use Rattle.pairing.proofs.Counting.{counted}
use Rattle.pairing.proofs.Delivery.{EndedWith, Delivery, pair-delivered}
use Rattle.pairing.proofs.Pairing.{among-counted}

-- ---- each completed part
-- exactly one pair of the list has i, by what f reads of a pair
pub record OnePair (f : ℕ × ℕ → ℕ) (i : ℕ) (l : List (ℕ × ℕ)) : Type 0 where
  pub pair : ℕ × ℕ
  pub among : Among pair l
  pub has : f pair ≡ i
  pub only : (other : ℕ × ℕ) → Among other l → f other ≡ i → other ≡ pair

-- what is counted once is in one pair
one-pair : (f : ℕ × ℕ → ℕ) (i : ℕ) (l : List (ℕ × ℕ)) → occurs i (map f l) ≡ 1 → OnePair f i l
unfolding occurs
one-pair f i [] e = absurd (omega arith)
one-pair f i (a ∷ l) e =
    by (eqb (f a) i)
    (λ k. let none_left : bit true + occurs i (map f l) ≡ 1 = rw k at e in record {
      pair = a;
      among = inl refl;
      has = eqb-true (f a) i k;
      only = λ other h j. ⊎_elim (λ same. same) (λ h. let z : 1 ≤ occurs i (map f l) = rw (sym j) (among-counted f other l h) in absurd (omega arith)) h;
    })
    (λ k. let one_left : bit false + occurs i (map f l) ≡ 1 = rw k at e in
    let o = one-pair f i l (omega arith) in
    record {
      pair = o.pair;
      among = inr o.among;
      has = o.has;
      only = λ other h j. ⊎_elim (λ same. absurd (eqb-false (f a) i k (sym (ap f same) ∙ j))) (λ h. o.only other h j) h;
    })

-- each completed part is in exactly one pair on its side
each-completed : (side : Side) (n x : ℕ) (o : Operation) (i : ℕ) (past : List Entry)
    → AllAllowed n past → BeginsAt x o i past → completed side o (fate n x i past) ≡ true → OnePair (place_on side) i (pairs past)
each-completed side n x o i past l b c = one-pair (place_on side) i (pairs past) (counted n side x o i past l b ∙ ap bit c)

-- ---- the same from the side of each operation
-- the one receive by which operation o of thread x, begun at place i, was received: at its target, with x as source and o's count and words
pub record ReceivedOnce (n x : ℕ) (o : Operation) (i : ℕ) (past : List Entry) : Type 0 where
  pub operation : Operation
  pub place : ℕ
  pub begins : BeginsAt o.send.target operation place past
  pub accepted : accepts operation.receive x ≡ true
  pub ended : EndedWith (record { code = done; source = x; count = o.send.count }) (message o.send) (fate n o.send.target place past)
  pub among : Among (i, place) (pairs past)
  pub only : (j : ℕ) → Among (i, j) (pairs past) → j ≡ place

-- the one send by which operation o of thread x, begun at place i, ended: of a thread that sent to x, with its number as source, its count and words
pub record SentOnce (n x : ℕ) (o : Operation) (i : ℕ) (past : List Entry) : Type 0 where
  pub sender : ℕ
  pub operation : Operation
  pub place : ℕ
  pub begins : BeginsAt sender operation place past
  pub target : operation.send.target ≡ x
  pub accepted : accepts o.receive sender ≡ true
  pub ended : EndedWith (record { code = done; source = sender; count = operation.send.count }) (message operation.send) (fate n x i past)
  pub among : Among (place, i) (pairs past)
  pub only : (j : ℕ) → Among (j, i) (pairs past) → j ≡ place

module _ (n i j : ℕ) (past : List Entry) (d : Delivery n i j past) (a : Among (i, j) (pairs past)) where
  -- a delivery from the side of its send, where it is the only one
  delivery_received : ((u : ℕ) → Among (i, u) (pairs past) → u ≡ j) → ReceivedOnce n d.sender d.sent i past
  delivery_received only = record {
    operation = d.received;
    place = j;
    begins = subst (λ (r : ℕ). BeginsAt r d.received j past) (sym d.target) d.receives;
    accepted = d.accepted;
    ended = subst (λ (r : ℕ). EndedWith (record { code = done; source = d.sender; count = d.sent.send.count }) (message d.sent.send) (fate n r j past)) (sym d.target) d.ended;
    among = a;
    only = only;
  }

  -- and from the side of its receive
  delivery_sent : ((u : ℕ) → Among (u, j) (pairs past) → u ≡ i) → SentOnce n d.receiver d.received j past
  delivery_sent only = record {
    sender = d.sender;
    operation = d.sent;
    place = i;
    begins = d.sends;
    target = d.target;
    accepted = d.accepted;
    ended = d.ended;
    among = a;
    only = only;
  }

module _ (n x : ℕ) (o : Operation) (i : ℕ) (past : List Entry) (l : AllAllowed n past) (b : BeginsAt x o i past) where
  -- each completed send was received once
  pub send-received : send_completed o (fate n x i past) ≡ true → ReceivedOnce n x o i past
  send-received c =
      let one = each-completed sender n x o i past l b c in
      let d = pair-delivered n one.pair.0 one.pair.1 past l one.among in
      let from = begins-one d.sender x d.sent o one.pair.0 i past d.sends b one.has in
      subst (λ (u : ℕ). ReceivedOnce n x o u past) one.has (subst₂ (λ (y : ℕ) (u : Operation). ReceivedOnce n y u one.pair.0 past) from.0 from.1
      (delivery_received n one.pair.0 one.pair.1 past d one.among (λ u h. ap (λ (pair : ℕ × ℕ). pair.1) (one.only (one.pair.0, u) h one.has))))

  -- each completed receive had one send
  pub receive-sent : receive_completed o (fate n x i past) ≡ true → SentOnce n x o i past
  receive-sent c =
      let one = each-completed receiver n x o i past l b c in
      let d = pair-delivered n one.pair.0 one.pair.1 past l one.among in
      let to = begins-one d.receiver x d.received o one.pair.1 i past d.receives b one.has in
      subst (λ (u : ℕ). SentOnce n x o u past) one.has (subst₂ (λ (y : ℕ) (u : Operation). SentOnce n y u one.pair.1 past) to.0 to.1
      (delivery_sent n one.pair.0 one.pair.1 past d one.among (λ u h. ap (λ (pair : ℕ × ℕ). pair.0) (one.only (u, one.pair.1) h one.has))))
