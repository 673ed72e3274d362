-- What the types of a record's fields and of bytes already say: every number is in the range of its type.
use Rattle.std.specs.Prelude.{◌≡◌, List, [], ◌∷◌, ℕ, ◌<◌, length, get_or}
use Rattle.model.specs.declared.Operation.{Operation}
use Rattle.model.specs.declared.Record.{Record}
use Rattle.model.specs.Operations.{receive_time}
use Rattle.model.specs.Encoding.{partner_of, set_of}

-- every number of a list is below a bound; past the list's end there is 0
abbrev pub AllUnder : ℕ → List ℕ → Type 0
AllUnder bound numbers = (i : ℕ) → get_or numbers i 0 < bound

-- each of them is a byte
abbrev pub Bytes : List ℕ → Type 0
Bytes input = AllUnder 256 input

-- the fields of an operation: bytes, and eight words of 32 bits
pub record FitsOperation (o : Operation) : Type 0 where
  pub target : o.send.target < 256
  pub count : o.send.count < 256
  pub time : o.send.time < 256
  pub eight : length o.send.words ≡ 8
  pub words : AllUnder 0x1_0000_0000 o.send.words
  pub partner : partner_of o.receive < 256
  pub set : set_of o.receive < 0x1_0000_0000
  pub wait : receive_time o.receive < 256

-- the fields of a record: two bytes and an operation
pub record FitsRecord (r : Record) : Type 0 where
  pub kind : r.kind < 256
  pub thread : r.thread < 256
  pub op : FitsOperation r.op

-- the same of each record
abbrev pub AllFit : List Record → Type 0
AllFit [] = Unit {0}
AllFit (r ∷ rs) = FitsRecord r × AllFit rs
