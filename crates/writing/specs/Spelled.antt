-- The bytes from which a record is written.
use Rattle.std.specs.Prelude.{Bool, cond, List, ◌∷◌, ◌++◌, map, ℕ, drop, eqb}
use Rattle.std.specs.Bool.{beq}
use Rattle.model.specs.declared.Receive.{Receive}
use Rattle.model.specs.declared.Record.{Record}
use Rattle.model.specs.Lists.{concat}
use Rattle.model.specs.Operations.{receive_time, names_set}
use Rattle.model.specs.RecordBytes.{set_kind, is_begin}
use Rattle.model.specs.Encoding.{partner_of, word_bytes, set_of, parts_of, all_zero}

-- the bytes of a begin up to its set: the head, and its operation's
abbrev pub up_to_set : Record → List ℕ
up_to_set r =
    0x4C ∷ 0x34 ∷ r.kind ∷ r.thread ∷ parts_of r.op ∷ r.op.send.target ∷ partner_of r.op.receive ∷ r.op.send.count ∷ r.op.send.time
    ∷ receive_time r.op.receive ∷ concat (map word_bytes r.op.send.words)

-- a record as if it were a begin with a set, which is 0 where the operation names none
unfoldable pub spelled : Record → List ℕ
spelled r = up_to_set r ++ word_bytes (set_of r.op.receive)

-- the operation is one of this kind: that of a begin names a set exactly if the kind has one, any other is 0 where it is spelled
unfoldable pub fits_kind : ℕ → Receive → List ℕ → Bool
fits_kind kind receive space = cond (is_begin kind) (beq (eqb kind set_kind) (names_set receive)) (all_zero (drop 4 space))
