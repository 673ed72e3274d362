use Rattle.std.proofs.Common.{◌≡◌, ◌<◌, ◌∙◌, sym, ap, length, arith}
use Rattle.std.proofs.lemmas.List.{length-take, get_or-take}
use Rattle.model.specs.declared.Pair.{Pair}
use Rattle.columns.specs.Ranks.{senders_of, targets_of, is_of}
use Rattle.columns.proofs.Places.{no_pair, is_pair, none-earlier, one_earlier, same-earlier, of_pair}
use Rattle.columns.proofs.count_earlier.Goals.{then-same_pair, else-same_pair}
use Rattle.columns.proofs.count_earlier.Goals as goal

pub loop-before-init : goal.loop-before-init
loop-before-init c = (omega arith, none-earlier _ _ _ _)

pub loop-before-preserved : goal.loop-before-preserved
loop-before-preserved c =
    let pairs = c.args.pairs.now in
    let pair = c.args.pair in
    let k = c.loop-before.before-index in
    let low : k < length pairs = omega (arith, length-take c.args.end pairs) in
    let inside : k < c.args.end = omega (arith, length-take c.args.end pairs) in
    let own : is_of (senders_of pairs) (targets_of pairs) pair.sender pair.target k ≡ c.same_pair.result =
    of_pair pairs pair k low ∙ ap (λ (p : Pair). is_pair pair p) (sym (get_or-take c.args.end pairs k no_pair inside)) ∙ sym c.same_pair.ensures in
    elim c.if-same_pair.branch [
      | then-same_pair w ↦
          let more = one_earlier (senders_of pairs) (targets_of pairs) pair.sender pair.target k (own ∙ w.if-same_pair.true) in
          (omega (arith, w.count-is, c.loop-before.invariant.0), omega (arith, w.count-is, c.loop-before.invariant.1, more))
      | else-same_pair w ↦
          (omega (arith, w.count-is, c.loop-before.invariant.0), w.count-is ∙ c.loop-before.invariant.1 ∙ sym (same-earlier _ _ _ _ k (own ∙ w.if-same_pair.false)))
    ]

pub returns : goal.returns
returns c =
    let pairs = c.args.pairs.now in
    let all : c.loop-before.before-index ≡ c.args.end = omega (arith, length-take c.args.end pairs) in
    rw all at c.loop-before.invariant.1
