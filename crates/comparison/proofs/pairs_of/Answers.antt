use Rattle.std.proofs.Common.{◌≡◌, ◌∙◌, sym, refl, ℕ, length, get_or, map, arith, rules}
use Rattle.std.proofs.lemmas.List.{length-map, length-set, get_or-map, ext_get_or}
use Rattle.std.proofs.lemmas.List.Edits.{fill_by_more}
use Rattle.columns.proofs.Places.{no_pair}
use Rattle.comparison.specs.Entries.{pair_of, no_entry}
use Rattle.comparison.proofs.pairs_of.Goals as goal

pub loop-i-init : goal.loop-i-init
loop-i-init c = (refl, λ k l. absurd (omega arith))

pub loop-i-preserved : goal.loop-i-preserved
loop-i-preserved c =
    let entries = c.args.entries.now in
    let whole : length entries ≡ 512 = search rules in (
      length-set c.loop-i.pairs c.loop-i.i _ ∙ c.loop-i.invariant.0,
      fill_by_more (λ k. pair_of (get_or entries k no_entry)) c.loop-i.pairs c.loop-i.i no_pair (omega (arith, c.loop-i.invariant.0)) c.loop-i.invariant.1,
    )

pub returns : goal.returns
returns c =
    let entries = c.args.entries.now in
    let whole : length entries ≡ 512 = search rules in
    ext_get_or no_pair c.loop-i.pairs (map pair_of entries) (c.loop-i.invariant.0 ∙ sym (length-map entries pair_of ∙ whole))
    (λ i l. c.loop-i.invariant.1 i (omega (arith, c.loop-i.invariant.0)) ∙ sym (get_or-map pair_of entries i no_entry no_pair (omega (arith, c.loop-i.invariant.0))))
