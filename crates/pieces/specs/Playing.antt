-- A schedule that is played as its bytes come in: the lawful records at the front of what is there, one after the other.
use Rattle.std.specs.Prelude.{Bool, false, cond, ◌&&◌, List, ℕ, zero, suc, ◌+◌, length, drop, leb}
use Rattle.model.specs.RecordBytes.{kind_byte, record_length, lawful}
use Rattle.model.specs.Decoding.{front, record_of}
use Rattle.model.specs.Bondtrace.{Tally, record_played}

-- how far playing came: what it left, how many bytes it took, and whether what stands behind them is an unlawful record
pub record Progress : Type 0 where
  pub tally : Tally
  pub taken : ℕ
  pub bad : Bool

-- the bytes of a whole record, lawful or not, have come in
unfoldable pub whole_record : List ℕ → Bool
whole_record input = leb 4 (length input) && leb (record_length (kind_byte input)) (length input)

-- k bytes further
unfoldable pub ahead : ℕ → Progress → Progress
ahead k q = record { tally = q.tally; taken = k + q.taken; bad = q.bad }

-- the lawful records at the front, played one after the other; `most` bounds them
unfoldable pub play_from : ℕ → Tally → List ℕ → Progress
play_from zero p input = record { tally = p; taken = 0; bad = false }
play_from (suc most) p input =
    let bytes = front input in
    cond (lawful false bytes)
    (ahead (length bytes) (play_from most (record_played (record_of bytes) p) (drop (length bytes) input)))
    (record { tally = p; taken = 0; bad = whole_record input })

-- all of them
unfoldable pub played_on : Tally → List ℕ → Progress
played_on p input = play_from (suc (length input)) p input
