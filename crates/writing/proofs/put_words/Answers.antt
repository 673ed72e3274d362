use Rattle.std.proofs.Common.{arith, rules, ◌∙◌, ◌≡◌}
use Rattle.writing.proofs.Words.{none-put, more-put, all-put}
use Rattle.writing.proofs.put_words.Goals as goal

pub loop-i-init : goal.loop-i-init
loop-i-init c = record { same_length = search rules; eight = search rules; put = none-put _ _ c.requires (search rules) }

pub loop-i-preserved : goal.loop-i-preserved
loop-i-preserved c = record {
  same_length = search rules;
  eight = c.loop-i.invariant.eight;
  put = c.put_word.ensures ∙ rw c.loop-i.invariant.put (more-put _ _ c.requires c.loop-i.invariant.eight _ (search rules));
}

pub returns : goal.returns
returns c = let all : c.loop-i.i ≡ 8 = omega arith in rw (c.loop-i.invariant.put, all) (all-put _ _ c.requires c.loop-i.invariant.eight)
