use Rattle.replies.proofs.Said.{nothing_said, none_left, past_end, word-said, all_said}
use Rattle.replies.proofs.put_behind.Goals as goal

pub loop-at-init : goal.loop-at-init
loop-at-init c = record { inside = c.requires; saying = nothing_said _ _ _ }

pub returns-then-word : goal.returns-then-word
returns-then-word c = all_said c.loop-at.invariant.saying (none_left c.next_word-word.ensures c.if-word.true)

pub loop-at-preserved : goal.loop-at-preserved
loop-at-preserved c = record {
  inside = c.next_word-word.ensures.within;
  saying = word-said c.loop-at.invariant.saying c.next_word-word.ensures c.if-word.false c.byte.ensures c.bytes.ensures;
}

pub returns : goal.returns
returns c = all_said c.loop-at.invariant.saying (past_end _ _ c.loop-at-test.false)
