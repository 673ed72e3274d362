use Rattle.std.proofs.Common.{◌≡◌, ℕ, ◌+◌, ◌*◌, ◌∙◌, arith}
use Rattle.model.specs.RecordBytes.{word_at}
use Rattle.reading.proofs.begin_bytes.word_at.Goals as goal

-- the place of a word's byte k, counted from the first word's
byte-place : (k i : ℕ) → 10 + 4 * i + k ≡ 10 + k + 4 * i
byte-place k i = omega arith

pub returns : goal.returns
unfolding word_at
returns c = c.from_le_bytes.ensures ∙ rw (byte-place 1, byte-place 2, byte-place 3) (omega arith)
