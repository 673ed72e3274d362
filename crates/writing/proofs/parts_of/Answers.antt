use Rattle.std.proofs.Common.{◌≡◌, Bool, true, false, refl}
use Rattle.std.specs.Int.{from_bool}
use Rattle.model.specs.Lists.{bit}
use Rattle.model.specs.Encoding.{parts_of}
use Rattle.writing.proofs.parts_of.Goals as goal

-- a test as a number is its bit
bit-from : (b : Bool) → from_bool b ≡ bit b
bit-from true = refl
bit-from false = refl

pub returns : goal.returns
unfolding parts_of
returns c = rw (c.from.ensures, c.from-2.ensures, c.from-3.ensures, c.has_receive.ensures, c.is_open.ensures) (simp bit-from)
