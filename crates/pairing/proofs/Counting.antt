-- On each side, an operation is in one rendezvous if that part of it is completed, and in none if not.
use mathlib.Core.Path.{◌≡◌, refl, sym, ap, ◌∙◌}
use mathlib.Core.Logic.{inl, inr}
use mathlib.Core.Bool.{true, false, ◌&&◌, and-true, and-false}
use mathlib.Core.Option.{Option, none, some}
use mathlib.Core.List.{List, [], ◌∷◌, map}
use Prim.Native.Nat.{ℕ, ◌+◌, ◌≤◌}
use native.Mathlib.Omega.{arith}
use lib.ListN.{length}
use lib.Dec.{eqb}
use borrow.Author.Tests.{eq-eqb, ne_eqb}
use Rattle.model.specs.declared.Operation.{Operation}
use Rattle.model.specs.Lists.{bit, occurs}
use Rattle.model.specs.Atomic.{begins, cancels, ticks, rendezvous, aborts, play, Can}
use Rattle.model.specs.Linearization.{Entry, played, Allowed, begins_by, latest, pairs, is_place, fate, BeginsAt}
use Rattle.model.proofs.Laws.{by, same?}
use Rattle.laws.proofs.Lists.{update_same}
use Rattle.pairing.proofs.Sides.{Side, sender, receiver, ofSide, place_on, takes_part, completed}
use Rattle.pairing.proofs.Effects.{Effect, parties, parties-run, effect}
use Rattle.pairing.proofs.Places.{begins-below, begins-one, latest-new, latest_old, latest-still, is-place, fate-now, fate_then}
use Rattle.pairing.proofs.Operations.{AllAllowed, Latest, run-begun, latest-only}
use Rattle.pairing.proofs.Completions.{completes, begin-completes}

-- an entry is a rendezvous, or it adds no pair and no thread is on a side of it
pub data Kind : Entry → Type 0 where
  a_rendezvous : (s r : ℕ) → Kind (some (rendezvous s r))
  no_rendezvous : (e : Entry) → ((past : List Entry) → pairs (e ∷ past) ≡ pairs past) → ((side : Side) (x : ℕ) → takes_part side x e ≡ false) → Kind e

-- each entry is one of the two
pub kind : (e : Entry) → Kind e
unfolding pairs
kind none = no_rendezvous none (λ past. refl) (λ side x. refl)
kind (some (begins x o)) = no_rendezvous (some (begins x o)) (λ past. refl) (λ side x. refl)
kind (some (cancels x)) = no_rendezvous (some (cancels x)) (λ past. refl) (λ side x. refl)
kind (some ticks) = no_rendezvous (some ticks) (λ past. refl) (λ side x. refl)
kind (some (rendezvous s r)) = a_rendezvous s r
kind (some (aborts x c)) = no_rendezvous (some (aborts x c)) (λ past. refl) (λ side x. refl)

-- of each pair, the place of the operation on that side
abbrev pub places : Side → List Entry → List ℕ
places side past = map (place_on side) (pairs past)

-- the place that a rendezvous adds is that of the latest operation on that side
place_added : (side : Side) (s r k i : ℕ) (past : List Entry)
    → latest (ofSide side s r) past ≡ some k → occurs i (places side (some (rendezvous s r) ∷ past)) ≡ bit (eqb k i) + occurs i (places side past)
unfolding pairs occurs
place_added sender s r k i past l = rw l refl
place_added receiver s r k i past l = rw l refl

module _ (n : ℕ) (side : Side) where
  -- the operation of a side of a rendezvous
  pub party : (s r : ℕ) (past : List Entry) → AllAllowed n past → Can n (rendezvous s r) (played n past) → Latest n (ofSide side s r) past
  party s r past l c = run-begun n (ofSide side s r) past l (parties-run (played n past) s r (parties n (played n past) s r c) side)

  -- an entry adds no pair of an operation that has not begun
  adds_none : (i : ℕ) (e : Entry) (past : List Entry)
      → Kind e → AllAllowed n past → Allowed n e (played n past) → length past ≤ i
      → occurs i (places side (e ∷ past)) ≡ occurs i (places side past)
  adds_none i e past (no_rendezvous _ same off) l c m = rw (same past) refl
  adds_none i e past (a_rendezvous s r) l c m =
      let h = party s r past l c in
      let z = begins-below (ofSide side s r) h.operation h.place past h.begins in
      place_added side s r h.place i past h.latest ∙ rw (ne_eqb h.place i (omega arith)) (omega arith)

  -- so it is in none
  none_yet : (i : ℕ) (past : List Entry) → AllAllowed n past → length past ≤ i → occurs i (places side past) ≡ 0
  none_yet i [] l m = unfold occurs pairs in refl
  none_yet i (e ∷ past) l m = adds_none i e past (kind e) l.0 l.1 (omega arith) ∙ none_yet i past l.0 (omega arith)

  module _ (x : ℕ) (o : Operation) (i : ℕ) where
    -- an entry adds a pair of x's operation if x is on that side of it and the operation is its latest
    adds-pair : (e : Entry) (past : List Entry)
        → Kind e → AllAllowed n past → Allowed n e (played n past) → BeginsAt x o i past
        → occurs i (places side (e ∷ past)) ≡ bit (takes_part side x e && is_place (latest x (e ∷ past)) i) + occurs i (places side past)
    adds-pair e past (no_rendezvous _ same off) l c b = rw (same past, off side x) (omega arith)
    adds-pair e past (a_rendezvous s r) l c b =
        let h = party s r past l c in
        place_added side s r h.place i past h.latest ∙ same? (ofSide side s r) x
        (λ k. rw (eq-eqb (ofSide side s r) x k, latest_old x e past refl ∙ sym (ap (λ (y : ℕ). latest y past) k) ∙ h.latest) refl)
        (λ d. rw (ne_eqb (ofSide side s r) x d, ne_eqb h.place i (λ j. d (begins-one (ofSide side s r) x h.operation o h.place i past h.begins b j).0)) refl)

    -- it completes that part of the operation if x is on that side of it and the operation is its latest
    adds_completion : (e : Entry) (past : List Entry)
        → AllAllowed n past → Allowed n e (played n past) → BeginsAt x o i past
        → bit (completed side o (fate n x i (e ∷ past))) ≡ bit (takes_part side x e && is_place (latest x (e ∷ past)) i) + bit (completed side o (fate n x i past))
    adds_completion e past l c b =
        by (is_place (latest x (e ∷ past)) i)
        (λ h. let still = latest-still x o i e past b h in
        let now : Effect n (played n past) x e (played n (e ∷ past) x) = unfold played in effect n (played n past) x e c still.0 in
        rw (h, fate-now n x i past still.1, fate-now n x i (e ∷ past) (is-place (latest x (e ∷ past)) i h), and-true (takes_part side x e)) (completes n (played n past) x o (latest-only n x past l o i still.1 b) side e (played n (e ∷ past) x) now))
        (λ h. rw (h, fate_then n x i e past h, and-false (takes_part side x e)) (omega arith))

    -- an operation that begins has completed nothing
    begun_completion : (e : Entry) (past : List Entry) → e ≡ some (begins x o) → length past ≡ i → completed side o (fate n x i (e ∷ past)) ≡ false
    unfolding played play
    begun_completion e past h j =
        let b : begins_by x e ≡ true = ap (begins_by x) h ∙ eq-eqb x x refl in
        rw (fate-now n x i (e ∷ past) (latest-new x e past b ∙ ap {B = Option ℕ} some j), h, update_same) (begin-completes side n o (played n past x))

    -- the pairs of an operation, counted
    pub counted : (past : List Entry) → AllAllowed n past → BeginsAt x o i past → occurs i (places side past) ≡ bit (completed side o (fate n x i past))
    counted [] l b = absurd b
    counted (e ∷ past) l (inl h) =
        let j = h.1 in
        adds_none i e past (kind e) l.0 l.1 (omega arith) ∙ none_yet i past l.0 (omega arith) ∙ sym (ap bit (begun_completion e past h.0 j))
    counted (e ∷ past) l (inr h) = adds-pair e past (kind e) l.0 l.1 h ∙ omega (arith, adds_completion e past l.0 l.1 h, counted past l.0 h)
