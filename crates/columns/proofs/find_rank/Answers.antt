use Rattle.std.proofs.Common.{◌∙◌, sym, ap, ℕ, length, arith}
use Rattle.columns.specs.Ranks.{senders_of, targets_of, place_within}
use Rattle.columns.proofs.Places.{none-earlier, one_earlier, same-earlier, not-of, not-rank, place_found, place_none, of_pair, senders-many, within_found, within_none}
use Rattle.columns.proofs.find_rank.Goals.{then-same_pair+else-seen-rank, else-same_pair}
use Rattle.columns.proofs.find_rank.Goals as goal

pub loop-k-init : goal.loop-k-init
loop-k-init c = (omega arith, none-earlier _ _ _ _, λ m l. absurd (omega arith))

-- the one of the rank
pub returns-then-seen-rank : goal.returns-then-seen-rank
returns-then-seen-rank c =
    let pairs = c.args.pairs.now in
    let own = of_pair pairs c.args.pair c.loop-k.k c.loop-k-test.true ∙ sym c.same_pair.ensures ∙ c.if-same_pair.true in
    let found = place_found (senders_of pairs) (targets_of pairs) c.args.pair.sender c.args.pair.target c.args.rank c.loop-k.k (omega (arith, senders-many pairs)) c.loop-k.invariant.2 own (sym c.loop-k.invariant.1 ∙ c.if-seen-rank.true) in
    within_found (length pairs) c.loop-k.k c.loop-k-test.true ∙ ap (λ (k : ℕ). place_within (length pairs) k) found

-- one of another rank, or of others
pub loop-k-preserved : goal.loop-k-preserved
loop-k-preserved c =
    let pairs = c.args.pairs.now in
    let pair = c.args.pair in
    let own = of_pair pairs pair c.loop-k.k c.loop-k-test.true ∙ sym c.same_pair.ensures in
    let count = c.loop-k.invariant.1 in
    elim c.if-same_pair.branch [
      | then-same_pair+else-seen-rank w ↦
          let more = one_earlier (senders_of pairs) (targets_of pairs) pair.sender pair.target c.loop-k.k (own ∙ w.if-same_pair.true) in
          (omega (arith, w.seen-is, c.loop-k.invariant.0), omega (arith, w.seen-is, count, more), not-rank _ _ _ _ _ c.loop-k.k c.loop-k.invariant.2 (λ e. w.if-seen-rank.false (count ∙ e)))
      | else-same_pair w ↦
          let others = own ∙ w.if-same_pair.false in
          (omega (arith, w.seen-is, c.loop-k.invariant.0), w.seen-is ∙ count ∙ sym (same-earlier _ _ _ _ c.loop-k.k others), not-of _ _ _ _ _ c.loop-k.k c.loop-k.invariant.2 others)
    ]

-- there is none
pub returns : goal.returns
returns c =
    let pairs = c.args.pairs.now in
    let none = place_none (senders_of pairs) (targets_of pairs) c.args.pair.sender c.args.pair.target c.args.rank c.loop-k.k (omega (arith, senders-many pairs)) c.loop-k.invariant.2 in
    within_none (length pairs) _ (omega (arith, none, c.loop-k-test.false))
