use Rattle.words.proofs.Laws.{zeros-put}
use Rattle.words.proofs.zero_thread.Goals as goal

pub returns : goal.returns
returns c = rw c.zero_words.ensures (zeros-put _ _ c.requires)
