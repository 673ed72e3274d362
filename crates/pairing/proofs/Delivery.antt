-- What each pair is of: a send and a receive that ended with its source, count and words.
use mathlib.Core.Path.{◌≡◌, refl, sym, ap, ◌∙◌, subst}
use mathlib.Core.Logic.{inr, ⊎_elim}
use mathlib.Core.Bool.{true}
use mathlib.Core.Option.{Option, none, some, get_or}
use mathlib.Core.List.{List, [], ◌∷◌}
use Prim.Native.Nat.{ℕ}
use Rattle.model.specs.declared.Operation.{Operation}
use Rattle.model.specs.declared.Outcome.{Outcome}
use Rattle.model.specs.Codes.{done}
use Rattle.model.specs.Operations.{accepts, message}
use Rattle.model.specs.Atomic.{nothing, AtomicThread, runs, rendezvous, Can}
use Rattle.model.specs.Linearization.{Entry, played, Allowed, latest, pairs, is_place, fate, BeginsAt, Among}
use Rattle.model.proofs.Laws.{by}
use Rattle.pairing.proofs.Sides.{sender, receiver}
use Rattle.pairing.proofs.Effects.{effect, idle-kept, parties, receiver-ends}
use Rattle.pairing.proofs.Places.{latest_old, latest-still, is-place, fate-now, fate_then}
use Rattle.pairing.proofs.Operations.{AllAllowed, PartOf}
use Rattle.pairing.proofs.Counting.{Kind, a_rendezvous, no_rendezvous, kind, party}

-- a thread runs nothing and has that outcome and those words
abbrev pub EndedWith : Outcome → List ℕ → Option AtomicThread → Type 0
EndedWith u words none = ⊥
EndedWith u words (some q) = (q.run ≡ nothing) × (q.outcome ≡ u) × (q.words ≡ words)

-- an ended operation stays as it ended
ended-kept : (n x : ℕ) (o : Operation) (i : ℕ) (u : Outcome) (words : List ℕ) (e : Entry) (past : List Entry)
    → Allowed n e (played n past) → BeginsAt x o i past → EndedWith u words (fate n x i past) → EndedWith u words (fate n x i (e ∷ past))
unfolding played
ended-kept n x o i u words e past c b h =
    by (is_place (latest x (e ∷ past)) i)
    (λ m. let still = latest-still x o i e past b m in
    let was : EndedWith u words (some (played n past x)) = rw (fate-now n x i past still.1) at h in
    let now = idle-kept n (played n past) x e _ (effect n (played n past) x e c still.0) (ap runs was.0) in
    rw (fate-now n x i (e ∷ past) (is-place (latest x (e ∷ past)) i m)) (now.run ∙ was.0, now.outcome ∙ was.1, now.words ∙ was.2))
    (λ m. rw (fate_then n x i e past m) h)

-- the send that began at place i went to the receive that began at place j
pub record Delivery (n i j : ℕ) (past : List Entry) : Type 0 where
  pub sender : ℕ
  pub receiver : ℕ
  pub sent : Operation
  pub received : Operation
  pub sends : BeginsAt sender sent i past
  pub receives : BeginsAt receiver received j past
  pub target : sent.send.target ≡ receiver
  pub accepted : accepts received.receive sender ≡ true
  -- "r ends with code 0, source s, the count and words of s"
  pub ended : EndedWith (record { code = done; source = sender; count = sent.send.count }) (message sent.send) (fate n receiver j past)

module _ (n i j : ℕ) where
  -- a delivery stays one
  delivery_kept : (e : Entry) (past : List Entry) → Allowed n e (played n past) → Delivery n i j past → Delivery n i j (e ∷ past)
  delivery_kept e past c d = record {
    sender = d.sender;
    receiver = d.receiver;
    sent = d.sent;
    received = d.received;
    sends = inr d.sends;
    receives = inr d.receives;
    target = d.target;
    accepted = d.accepted;
    ended = ended-kept n d.receiver d.received j _ _ e past c d.receives d.ended;
  }

  -- a rendezvous delivers
  delivery_made : (s r : ℕ) (past : List Entry)
      → AllAllowed n past → Can n (rendezvous s r) (played n past)
      → ◌≡◌ {A = ℕ × ℕ} (i, j) (get_or (latest s past) 0, get_or (latest r past) 0) → Delivery n i j (some (rendezvous s r) ∷ past)
  delivery_made s r past l c e =
      let p = parties n (played n past) s r c in
      let from = party n sender s r past l c in
      let to = party n receiver s r past l c in
      let ei : i ≡ from.place = ap (λ (pair : ℕ × ℕ). pair.0) e ∙ rw from.latest refl in
      let ej : j ≡ to.place = ap (λ (pair : ℕ × ℕ). pair.1) e ∙ rw to.latest refl in
      let part = subst (PartOf from.operation) p.sends from.runs.part in
      let wait = subst (PartOf to.operation) p.waits to.runs.part in
      record {
        sender = s;
        receiver = r;
        sent = p.operation;
        received = to.operation;
        sends = inr (subst (λ (k : ℕ). BeginsAt s p.operation k past) (sym ei) (rw part.0 from.begins));
        receives = inr (subst (λ (k : ℕ). BeginsAt r to.operation k past) (sym ej) to.begins);
        target = p.target;
        accepted = rw (sym wait) p.accepted;
        ended = rw (fate-now n r j (some (rendezvous s r) ∷ past) (latest_old r (some (rendezvous s r)) past refl ∙ rw ej to.latest)) (unfold played in rw (receiver-ends (played n past) s r p n) (refl, refl, refl));
      }

  -- each pair after an entry is a delivery if each one before it is
  delivered-at : (e : Entry) (past : List Entry)
      → Kind e → AllAllowed n past → Allowed n e (played n past)
      → (Among (i, j) (pairs past) → Delivery n i j past) → Among (i, j) (pairs (e ∷ past)) → Delivery n i j (e ∷ past)
  unfolding pairs
  delivered-at e past (no_rendezvous _ same off) l c before a = delivery_kept e past c (before (subst (Among (i, j)) (same past) a))
  delivered-at e past (a_rendezvous s r) l c before a = ⊎_elim (λ k. delivery_made s r past l c k) (λ h. delivery_kept e past c (before h)) a

  -- each pair is a delivery
  pub pair-delivered : (past : List Entry) → AllAllowed n past → Among (i, j) (pairs past) → Delivery n i j past
  pair-delivered [] l a = absurd (unfold pairs in a)
  pair-delivered (e ∷ past) l a = delivered-at e past (kind e) l.0 l.1 (pair-delivered past l.0) a
