-- That the fields of a record are in range is a fact of the types: a function that is given a record has it from the record's type.
-- A projection below goes by the place of a field in its struct.
use mathlib.Core.List.{List, [], ◌∷◌}
use Prim.Native.Nat.{ℕ, ◌<◌}
use native.Mathlib.Omega.{arith}
use mir.Val.{Val}
use denote.Array.{each}
use denote.Shadow.{shadow}
use denote.Builtin.{u32}
use Rattle.model.specs.declared.Receive.{Receive}
use Rattle.model.specs.declared.Receive.TheVariants.{Absent, Open, Closed, OneOf}
use Rattle.model.specs.declared.Operation.{Operation}
use Rattle.model.specs.declared.Record.{Record}
use Rattle.model.specs.Operations.{receive_time}
use Rattle.model.specs.Encoding.{partner_of, set_of}
use Rattle.model.specs.contracts.Receive.{the_row as receiveRow}
use Rattle.model.specs.contracts.Operation.{the_row as operationRow}
use Rattle.model.specs.contracts.Record.{the_row as recordRow}
use Rattle.roundtrip.specs.Fits.{AllUnder, FitsOperation, FitsRecord}
use Rattle.roundtrip.proofs.Lists.{cons_under, nil-under}

-- the words of an array are words of 32 bits
words_typed : (l : List ℕ) (us : List Val) → shadow (each _ u32.own_val l us) → AllUnder 0x1_0000_0000 l
words_typed [] us e = nil-under _ (omega arith)
words_typed (a ∷ l) [] e = absurd e
words_typed (a ∷ l) (u ∷ us) e = cons_under _ a l e.0.1 (words_typed l us e.1)

-- the numbers of a receive part: a partner, a set, a time code
receive_typed : (w : Receive) (vs : List Val) → shadow (receiveRow.own_val w vs) → (partner_of w < 256) × (set_of w < 0x1_0000_0000) × (receive_time w < 256)
receive_typed Absent vs g = (omega arith, omega arith, omega arith)
receive_typed (Open w) vs g = let wait = g.1.1.1.1.0 in (wait.1.1.1.0.1, omega arith, wait.1.1.0.1)
receive_typed (Closed w) vs g = let wait = g.1.1.1.1.0 in (wait.1.1.1.0.1, omega arith, wait.1.1.0.1)
receive_typed (OneOf time set) vs g = let numbers = g.1.1.1.1 in (omega arith, numbers.1.0.1, numbers.0.1)

-- the fields of an operation
operation_typed : (o : Operation) (vs : List Val) → shadow (operationRow.own_val o vs) → FitsOperation o
operation_typed o vs g =
    let send = g.1.1.0.1.1 in
    let words = send.1.1.1.1.0 in
    let (partner, set, wait) = receive_typed o.receive _ g.1.1.1.0 in
    record {
      target = send.1.0.1;
      count = send.1.1.0.1;
      time = send.1.1.1.0.1;
      eight = words.1.0.1;
      words = words_typed o.send.words _ words.1.1;
      partner = partner;
      set = set;
      wait = wait;
    }

-- the fields of a record
pub record_typed : (r : Record) (vs : List Val) → shadow (recordRow.own_val r vs) → FitsRecord r
record_typed r vs g = let fields = g.1.1 in record { kind = fields.0.1; thread = fields.1.0.1; op = operation_typed r.op _ fields.1.1.0 }
