use Rattle.std.proofs.Common.{◌≡◌, ◌∙◌, arith, add-one, refl, rules, sym}
use Rattle.std.proofs.Math.Seq.{take-suc-set, take_all}
use Rattle.model.specs.Lists.{up_to}
use Rattle.reading.proofs.begin_bytes.words_at.Goals as goal

pub loop-i-init : goal.loop-i-init
unfolding up_to
loop-i-init c = record { eight = refl; read = refl }

pub loop-i-preserved : goal.loop-i-preserved
unfolding up_to
loop-i-preserved c = record {
  eight = search rules;
  read = rw (add-one, take-suc-set c.loop-i.words c.loop-i.i c.word_at.result (omega arith), c.loop-i.invariant.read, c.word_at.ensures);
}

pub returns : goal.returns
returns c = let end : c.loop-i.i ≡ 8 = omega arith in sym (take_all 8 c.loop-i.words (omega arith)) ∙ rw end at c.loop-i.invariant.read
