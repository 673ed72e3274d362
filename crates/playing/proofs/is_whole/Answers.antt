use Rattle.std.proofs.Common.{ℕ, leb, length, sym, refl, ap, ◌∙◌, le-leb}
use borrow.Author.Tests.{lt-leb}
use Rattle.pieces.specs.Playing.{whole_record}
use Rattle.playing.proofs.is_whole.Goals as goal

pub returns-then-bytes-ge-HEAD_BYTES : goal.returns-then-bytes-ge-HEAD_BYTES
unfolding whole_record
returns-then-bytes-ge-HEAD_BYTES c = ap (λ (k : ℕ). leb k (length c.args.bytes.now)) c.record_length.ensures ∙ sym (rw (le-leb 4 _ c.if-bytes-ge-HEAD_BYTES.true) refl)

pub returns-else-bytes-ge-HEAD_BYTES : goal.returns-else-bytes-ge-HEAD_BYTES
unfolding whole_record
returns-else-bytes-ge-HEAD_BYTES c = rw (lt-leb 4 _ c.if-bytes-ge-HEAD_BYTES.false) refl
