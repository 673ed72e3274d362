use Rattle.std.proofs.Common.{◌∙◌, sym, ap, ℕ, length, get_or}
use Rattle.columns.specs.Ranks.{senders_of, targets_of, place_within, place_of_rank}
use Rattle.columns.proofs.Places.{no_pair, mate_read}
use Rattle.columns.proofs.find_mate.Goals as goal

pub returns : goal.returns
returns c =
    let others = c.args.others.now in
    let pair = get_or c.args.pairs.now c.args.i no_pair in
    c.find_rank.ensures
    ∙ ap (λ (r : ℕ). place_within (length others) (place_of_rank (senders_of others) (targets_of others) pair.sender pair.target r)) c.count_earlier-rank.ensures
    ∙ sym (ap (λ (k : ℕ). place_within (length others) k) (mate_read c.args.pairs.now others c.args.i c.requires))
