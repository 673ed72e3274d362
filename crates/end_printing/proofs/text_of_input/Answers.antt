use Rattle.std.proofs.Common.{arith, ◌≡◌, ℕ, ◌+◌, ◌≤◌, List, length, take, sym, ◌∙◌}
use lib.Seq.{length-take-le}
use Rattle.played_text.proofs.Whole.{opening_starts}
use Rattle.end_printing.proofs.Filling.{refused-told}
use Rattle.end_printing.proofs.text_of_input.Goals as goal

-- at the entry: the bytes that were delivered stand in the buffer
first-all : (buffer : List ℕ) (end delivered : ℕ) → delivered ≡ end → end ≤ 65536 → length buffer ≡ 65536 → length (take end buffer) ≡ delivered
first-all buffer end delivered all within long = length-take-le end buffer (omega (arith, within, long)) ∙ sym all

pub returns-in-Err-clause-counts : goal.returns-in-Err-clause-counts
returns-in-Err-clause-counts g c =
    (refused-told (first-all _ _ _ c.requires.delivered_value c.requires.end_bound c.requires.buffer_len) c.requires.out_len c.refused_text-length.ensures).0

pub returns-in-Err-clause-told : goal.returns-in-Err-clause-told
returns-in-Err-clause-told g c =
    let none : c.args.first.delivered + 0 ≡ c.args.first.delivered = omega arith in
    rw none (refused-told (first-all _ _ _ c.requires.delivered_value c.requires.end_bound c.requires.buffer_len) c.requires.out_len c.refused_text-length.ensures).1

pub play_on-requires-clause-starts : goal.play_on-requires-clause-starts
play_on-requires-clause-starts g c = let e = c.in-Ok.ensures in opening_starts _ _ (sym e.number) e.playback e.steady.0
