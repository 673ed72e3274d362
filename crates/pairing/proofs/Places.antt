-- Operations by the places of their begins: at a place there is one begin, and the latest operation is the one that began last.
use mathlib.Core.Path.{◌≡◌, refl, sym, ap, ◌∙◌}
use mathlib.Core.Logic.{inl, inr}
use mathlib.Core.Bool.{true≢false, true, false}
use mathlib.Core.Option.{Option, none, some}
use mathlib.Core.List.{List, [], ◌∷◌}
use Prim.Native.Nat.{ℕ, ◌<◌}
use native.Mathlib.Omega.{arith}
use lib.ListN.{length}
use borrow.Author.Tests.{eqb-true, eq-eqb}
use Rattle.model.specs.declared.Operation.{Operation}
use Rattle.model.specs.Atomic.{begins, cancels, ticks, rendezvous, aborts}
use Rattle.model.specs.Linearization.{Entry, played, begins_by, latest, is_place, fate, BeginsAt}
use Rattle.model.proofs.Laws.{by}

-- ---- begins
-- an operation began at a place of `past`
pub begins-below : (x : ℕ) (o : Operation) (i : ℕ) (past : List Entry) → BeginsAt x o i past → i < length past
begins-below x o i [] b = absurd b
begins-below x o i (e ∷ past) (inl h) = let z = h.1 in omega arith
begins-below x o i (e ∷ past) (inr h) = let z = begins-below x o i past h in omega arith

-- at a place one operation begins, of one thread
pub begins-one : (x y : ℕ) (o u : Operation) (i j : ℕ) (past : List Entry) → BeginsAt x o i past → BeginsAt y u j past → i ≡ j → (x ≡ y) × (o ≡ u)
begins-one x y o u i j [] b c e = absurd b
begins-one x y o u i j (a ∷ past) (inl h) (inl k) e = let p = h.0 in let q = k.0 in (cc, cc)
begins-one x y o u i j (a ∷ past) (inl h) (inr k) e = let z = begins-below y u j past k in let m = h.1 in absurd (omega arith)
begins-one x y o u i j (a ∷ past) (inr h) (inl k) e = let z = begins-below x o i past h in let m = k.1 in absurd (omega arith)
begins-one x y o u i j (a ∷ past) (inr h) (inr k) e = begins-one x y o u i j past h k e

-- a begin of x has its operation
pub is-begin : (x : ℕ) (e : Entry) → begins_by x e ≡ true → (o : Operation) × (e ≡ some (begins x o))
is-begin x none b = absurd (true≢false (sym b))
is-begin x (some (begins y o)) b = (o, ap {B = Entry} (λ (z : ℕ). some (begins z o)) (eqb-true y x b))
is-begin x (some (cancels y)) b = absurd (true≢false (sym b))
is-begin x (some ticks) b = absurd (true≢false (sym b))
is-begin x (some (rendezvous s r)) b = absurd (true≢false (sym b))
is-begin x (some (aborts y c)) b = absurd (true≢false (sym b))

-- ---- the latest operation
-- a begin of x is its latest operation
pub latest-new : (x : ℕ) (e : Entry) (past : List Entry) → begins_by x e ≡ true → latest x (e ∷ past) ≡ some (length past)
unfolding latest
latest-new x e past b = rw b refl

-- another entry leaves x its latest operation
pub latest_old : (x : ℕ) (e : Entry) (past : List Entry) → begins_by x e ≡ false → latest x (e ∷ past) ≡ latest x past
unfolding latest
latest_old x e past b = rw b refl

-- a place that is i
pub is-place : (a : Option ℕ) (i : ℕ) → is_place a i ≡ true → a ≡ some i
is-place none i e = absurd (true≢false (sym e))
is-place (some k) i e = ap {B = Option ℕ} some (eqb-true k i e)

-- an operation that is the latest after an entry was so before, unless it begins there
pub latest-still : (x : ℕ) (o : Operation) (i : ℕ) (e : Entry) (past : List Entry)
    → BeginsAt x o i past → is_place (latest x (e ∷ past)) i ≡ true → (begins_by x e ≡ false) × (latest x past ≡ some i)
latest-still x o i e past b h =
    let a : latest x (e ∷ past) ≡ some i = is-place (latest x (e ∷ past)) i h in
    by (begins_by x e)
    (λ k. let j : some (length past) ≡ some i = sym (latest-new x e past k) ∙ a in
    let m : length past ≡ i = cc in
    let z = begins-below x o i past b in
    absurd (omega arith))
    (λ k. (k, sym (latest_old x e past k) ∙ a))

-- ---- how a thread stood at the end of an operation
-- of its latest operation: as it stands now
pub fate-now : (n x i : ℕ) (past : List Entry) → latest x past ≡ some i → fate n x i past ≡ some (played n past x)
fate-now n x i [] a = let z : ◌≡◌ {A = ℕ} 0 1 = unfold latest in cc in absurd (omega arith)
fate-now n x i (e ∷ past) a = unfold fate in (rw (a, eq-eqb i i refl) refl)

-- of another: as before
pub fate_then : (n x i : ℕ) (e : Entry) (past : List Entry) → is_place (latest x (e ∷ past)) i ≡ false → fate n x i (e ∷ past) ≡ fate n x i past
unfolding fate
fate_then n x i e past a = rw a refl
