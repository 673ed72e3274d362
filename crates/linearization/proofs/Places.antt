-- A linearization read at one place: what stands at the k-th call of a trace.
use mathlib.Core.Path.{◌≡◌, refl}
use mathlib.Core.Option.{some}
use mathlib.Core.List.{List, [], ◌∷◌, reverse_aux}
use Prim.Native.Nat.{ℕ, zero, suc}
use native.Mathlib.Omega.{arith}
use lib.ListN.{get_elem?, take}
use Rattle.model.specs.Linearization.{Observed, Entry, Follows, FollowsAll}

-- the entry at place k of a trace, which is call c
pub record PlacedAt (n : ℕ) (past : List Entry) (entries : List Entry) (k : ℕ) (c : Observed) : Type 0 where
  pub entry : Entry
  pub stands : get_elem? entries k ≡ some entry
  pub follows : Follows n (reverse_aux (take k entries) past) c entry

-- every call of a trace has its entry
pub placed_at : (n : ℕ) (past : List Entry) (trace : List Observed) (entries : List Entry) → FollowsAll n past trace entries
    → (k : ℕ) (c : Observed) → get_elem? trace k ≡ some c → PlacedAt n past entries k c
placed_at n past [] entries f k c e = let z : ◌≡◌ {A = ℕ} 0 1 = cc in absurd (omega arith)
placed_at n past (d ∷ ds) [] f k c e = absurd f
placed_at n past (d ∷ ds) (v ∷ vs) f zero c e = let i : d ≡ c = cc in record { entry = v; stands = refl; follows = rw (← i) f.0 }
placed_at n past (d ∷ ds) (v ∷ vs) f (suc k) c e =
    let later = placed_at n (v ∷ past) ds vs f.1 k c e in
    record { entry = later.entry; stands = later.stands; follows = later.follows }
