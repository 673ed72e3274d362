-- Laws of acceptable senders, for the receive part of an operation.
use mathlib.Core.Path.{◌≡◌, refl, sym, ◌∙◌}
use mathlib.Core.Bool.{true}
use Prim.Native.Nat.{ℕ}
use Rattle.model.specs.declared.Receive.{Receive}
use Rattle.model.specs.declared.Receive.TheVariants.{Absent, Open, Closed, OneOf}
use Rattle.laws.proofs.Sets.{no_member}
use Rattle.model.specs.Operations.{has_receive, closed_on, accepts}

-- a receive part that accepts somebody is there
pub accepts-there : (w : Receive) (s : ℕ) → accepts w s ≡ true → has_receive w ≡ true
unfolding closed_on
accepts-there Absent s e = sym (no_member s) ∙ e
accepts-there (Open t) s e = refl
accepts-there (Closed t) s e = refl
accepts-there (OneOf time set) s e = refl
