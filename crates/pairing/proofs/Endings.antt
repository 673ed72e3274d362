-- Each ending has its begin, and an operation that no longer shows running has its ending.
use mathlib.Core.Path.{◌≡◌, ap, refl, sym, ◌∙◌, subst}
use mathlib.Core.Logic.{◌≢◌, inl, inr, ⊎_elim}
use mathlib.Core.Bool.{true, false, true≢false}
use mathlib.Core.Option.{some}
use mathlib.Core.List.{List, [], ◌∷◌}
use Prim.Native.Nat.{ℕ}
use native.Mathlib.Omega.{arith}
use lib.ListN.{length}
use borrow.Author.Tests.{eq-eqb}
use Rattle.model.specs.Atomic.{begins, runs, Can}
use Rattle.model.specs.declared.Operation.{Operation}
use Rattle.model.specs.Codes.{running}
use Rattle.model.specs.Linearization.{Entry, played, begins_by, latest, is_running, EndsAt, HasEnded, Allowed, BeginsAt}
use Rattle.model.proofs.Laws.{by}
use Rattle.laws.proofs.Codes.{code_is, code_differs}
use Rattle.pairing.proofs.Places.{latest-new, latest_old, is-begin}
use Rattle.pairing.proofs.Operations.{AllAllowed, shown-begun, shown-runs}

-- an ending is of an operation that has begun
pub ending-begun : (n x : ℕ) (e : Entry) (past : List Entry) → AllAllowed n past → EndsAt n x e past → (i : ℕ) × (latest x (e ∷ past) ≡ some i)
ending-begun n x e past l h =
    by (begins_by x e)
    (λ b. (length past, latest-new x e past b))
    (λ b. let k = shown-begun n x past l (rw b at h.ran) in (k.place, latest_old x e past b ∙ k.latest))

-- a latest operation that does not show running has its ending
pub ended_somewhere : (n x i : ℕ) (past : List Entry) → latest x past ≡ some i → is_running (played n past) x ≡ false → HasEnded n x i past
ended_somewhere n x i [] l r = let z : ◌≡◌ {A = ℕ} 0 1 = unfold latest in cc in absurd (omega arith)
ended_somewhere n x i (e ∷ past) l r =
    by (begins_by x e)
    (λ b. inl (record { ran = rw b refl; over = r }, l))
    (λ b. by (is_running (played n past) x)
    (λ k. inl (record { ran = rw (b, k) refl; over = r }, l))
    (λ k. inr (ended_somewhere n x i past (sym (latest_old x e past b) ∙ l) k)))

-- so a latest operation that shows another code has its ending
pub shown-ended : (n x i : ℕ) (past : List Entry) → latest x past ≡ some i → (played n past x).outcome.code ≢ running → HasEnded n x i past
shown-ended n x i past l d = ended_somewhere n x i past l (code_differs running (played n past x).outcome.code (λ e. d (sym e)))

-- a latest operation that has no ending shows running
pub unended-running : (n x i : ℕ) (past : List Entry) → latest x past ≡ some i → (HasEnded n x i past → ⊥) → is_running (played n past) x ≡ true
unended-running n x i past l h = by (is_running (played n past) x) (λ r. r) (λ r. absurd (h (ended_somewhere n x i past l r)))

-- an operation that has no ending is the latest of its thread: no thread begins while it runs
pub unended-latest : (n x : ℕ) (o : Operation) (i : ℕ) (past : List Entry) → AllAllowed n past → BeginsAt x o i past → (HasEnded n x i past → ⊥) → latest x past ≡ some i
unended-latest n x o i [] l b h = absurd b
unended-latest n x o i (e ∷ past) l b h = ⊎_elim
    (λ (here : (e ≡ some (begins x o)) × (length past ≡ i)). latest-new x e past (ap (begins_by x) here.0 ∙ eq-eqb x x refl) ∙ ap some here.1)
    (λ before.
    let earlier : latest x past ≡ some i = unended-latest n x o i past l.0 before (λ k. h (inr k)) in
    by (begins_by x e)
    (λ f. let (u, is) = is-begin x e f in
    let may : Can n (begins x u) (played n past) = subst (λ (v : Entry). Allowed n v (played n past)) is l.1 in
    let runs_on = shown-runs n x past l.0 (unended-running n x i past earlier (λ k. h (inr k))) in
    absurd (true≢false (sym runs_on ∙ ap runs may.1)))
    (λ f. latest_old x e past f ∙ earlier))
    b

-- so an operation that has no ending shows running
pub open-running : (n x : ℕ) (o : Operation) (i : ℕ) (past : List Entry) → AllAllowed n past → BeginsAt x o i past → (HasEnded n x i past → ⊥) → (played n past x).outcome.code ≡ running
open-running n x o i past l b h =
    sym (code_is running (played n past x).outcome.code (unended-running n x i past (unended-latest n x o i past l b h) h))
