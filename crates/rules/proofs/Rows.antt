-- Rows taken one after the other: in how many a pair falls, and whether one says yes. There is room for 64, by their type.
use mathlib.Core.Path.{◌≡◌, refl, ap}
use mathlib.Core.Logic.{◌≢◌}
use mathlib.Core.Bool.{Bool, true, ◌&&◌, ◌||◌}
use Rattle.std.specs.List.{list_any}
use mathlib.Core.List.{List, [], ◌∷◌, ◌++◌}
use Prim.Native.Nat.{ℕ, ◌+◌, ◌≤◌, ◌<◌}
use native.Mathlib.Numerals.{add-one}
use native.Mathlib.Omega.{arith}
use lib.ListN.{length, get_or, take, length-take}
use lib.Seq.{take-suc}
use borrow.Author.Tests.{eq-eqb, ne_eqb}
use mir.Val.{Val}
use denote.Shadow.{shadow}
use Rattle.model.specs.declared.Rule.{Rule}
use Rattle.model.specs.declared.Rules.{Rules}
use Rattle.model.specs.Lists.{bit}
use Rattle.model.specs.Rules.{holds_pair, rows_in, falls, says_yes, permits, zero_rule}
use Rattle.model.specs.contracts.Rules.{the_row}
use Rattle.laws.proofs.Lists.{bit-small}

-- an array of rows has its 64 places; the projection goes by the place of the field in its struct
pub rows_whole : (rules : Rules) (vs : List Val) → shadow (the_row.own_val rules vs) → length rules.rows ≡ 64
rows_whole rules vs g = g.1.1.0.1.0.1

-- a row behind others
falls-behind : (rows : List Rule) (row : Rule) (s r : ℕ) → falls (rows ++ (row ∷ [])) s r ≡ falls rows s r + bit (holds_pair row s r)
unfolding falls
falls-behind [] row s r = omega arith
falls-behind (first ∷ rows) row s r = rw (falls-behind rows row s r) (omega arith)

-- whether one says yes is what `any` finds
says_any : (rows : List Rule) (s r : ℕ) → says_yes rows s r ≡ list_any (λ row. holds_pair row s r && row.permits) rows
unfolding says_yes
says_any [] s r = refl
says_any (row ∷ rows) s r = ap (λ (b : Bool). holds_pair row s r && row.permits || b) (says_any rows s r)

-- a pair falls in no more rows than there are
falls-few : (rows : List Rule) (s r : ℕ) → falls rows s r ≤ length rows
unfolding falls
falls-few [] s r = omega arith
falls-few (row ∷ rows) s r = omega (arith, bit-small (holds_pair row s r), falls-few rows s r)

-- of the first k, in no more than k
pub falls_bound : (rows : List Rule) (k s r : ℕ) → falls (take k rows) s r ≤ k
falls_bound rows k s r = omega (arith, falls-few (take k rows) s r, length-take k rows)

-- ---- the first k of an array of rows
module _ (rows : List Rule) (k : ℕ) (l : k < length rows) (s r : ℕ) where
  -- one more is counted
  pub falls-more : falls (take (k + 1) rows) s r ≡ falls (take k rows) s r + bit (holds_pair (get_or rows k zero_rule) s r)
  falls-more = rw (add-one, take-suc rows k zero_rule l) (falls-behind (take k rows) (get_or rows k zero_rule) s r)

-- ---- what rules permit
-- without rules every pair
pub permits-none : (rules : Rules) (s r : ℕ) → rules.len ≡ 0 → permits rules s r ≡ true
unfolding permits
permits-none rules s r e = rw (eq-eqb rules.len 0 e) refl

-- with rules what one of the rows says
pub permits_any : (rules : Rules) (s r : ℕ) → rules.len ≢ 0 → permits rules s r ≡ list_any (λ row. holds_pair row s r && row.permits) (take rules.len rules.rows)
unfolding permits rows_in
permits_any rules s r d = rw (ne_eqb rules.len 0 d) (says_any (take rules.len rules.rows) s r)
