-- Laws of bounds on the numbers of a list. None is about schedules.
use mathlib.Core.List.{List, [], ◌∷◌, ◌++◌}
use Prim.Native.Nat.{ℕ, zero, suc, ◌<◌}
use native.Mathlib.Omega.{arith}
use lib.ListN.{drop, replicate}
use lib.Seq.{get_or-drop}
use Rattle.model.specs.Lists.{up_to}
use Rattle.roundtrip.specs.Fits.{AllUnder}

module _ (bound : ℕ) where
  -- the numbers past the first few
  pub drop-under : (n : ℕ) (l : List ℕ) → AllUnder bound l → AllUnder bound (drop n l)
  drop-under n l u i = rw (get_or-drop n l i 0) (u _)

  -- those of two lists, one after the other
  pub append-under : (l m : List ℕ) → AllUnder bound l → AllUnder bound m → AllUnder bound (l ++ m)
  append-under [] m u v i = v i
  append-under (a ∷ l) m u v zero = u 0
  append-under (a ∷ l) m u v (suc i) = append-under l m (λ j. u (suc j)) v i

  -- one more in front
  pub cons_under : (a : ℕ) (l : List ℕ) → a < bound → AllUnder bound l → AllUnder bound (a ∷ l)
  cons_under a l h u zero = h
  cons_under a l h u (suc i) = u i

  -- none
  pub nil-under : 0 < bound → AllUnder bound []
  nil-under h i = h

  -- those of a function
  pub up_to-under : (k : ℕ) (f : ℕ → ℕ) → ((i : ℕ) → f i < bound) → AllUnder bound (up_to k f)
  unfolding up_to
  up_to-under zero f h = nil-under (omega (arith, h 0))
  up_to-under (suc k) f h = append-under (up_to k f) (f k ∷ []) (up_to-under k f h) (cons_under (f k) [] (h k) (nil-under (omega (arith, h 0))))

  -- one number over and over
  pub replicate-under : (k a : ℕ) → a < bound → AllUnder bound (replicate k a)
  replicate-under zero a h = nil-under (omega arith)
  replicate-under (suc k) a h = cons_under a (replicate k a) h (replicate-under k a h)
