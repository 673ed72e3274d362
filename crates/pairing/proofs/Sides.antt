-- The two sides of a rendezvous.
use mathlib.Core.Path.{◌≡◌}
use mathlib.Core.Bool.{Bool, false}
use mathlib.Core.Option.{Option, none, some}
use Prim.Native.Nat.{ℕ}
use lib.Dec.{eqb}
use Rattle.model.specs.declared.Operation.{Operation}
use Rattle.model.specs.Atomic.{AtomicThread, begins, cancels, ticks, rendezvous, aborts}
use Rattle.model.specs.Linearization.{Entry, send_completed, receive_completed}

-- the sender's side, and the receiver's
pub data Side : Type 0 where
  sender receiver : Side

-- what belongs to a side, of what belongs to the sender and to the receiver
abbrev pub ofSide {ℓ} : {A : Type ℓ} → Side → A → A → A
ofSide sender a b = a
ofSide receiver a b = b

-- of a pair of places, the one on that side
abbrev pub place_on : Side → ℕ × ℕ → ℕ
place_on side pair = ofSide side pair.0 pair.1

-- thread x is on that side of the entry's rendezvous
abbrev pub takes_part : Side → ℕ → Entry → Bool
takes_part side x none = false
takes_part side x (some (begins y o)) = false
takes_part side x (some (cancels y)) = false
takes_part side x (some ticks) = false
takes_part side x (some (rendezvous s r)) = eqb (ofSide side s r) x
takes_part side x (some (aborts y c)) = false

-- whether thread x is on the sender's side of the entry's rendezvous, and on the receiver's
abbrev pub OnSides : ℕ → Entry → Bool → Bool → Type 0
OnSides x e a b = (takes_part sender x e ≡ a) × (takes_part receiver x e ≡ b)

-- that part of the operation is completed
abbrev pub completed : Side → Operation → Option AtomicThread → Bool
completed side o q = ofSide side (send_completed o q) (receive_completed o q)
