use Rattle.std.proofs.Common.{sym, ◌∙◌}
use Rattle.replies.proofs.Said.{names_none, names_other}
use Rattle.replies.proofs.names_word.Goals as goal

-- what is no number
pub returns-then-reason-from : goal.returns-then-reason-from
returns-then-reason-from c = names_none _ _ (c.if-reason-from.true ∙ c.from.ensures)

-- another reason
pub returns : goal.returns
returns c = rw c.is_empty.ensures (names_other _ _ (λ e. c.if-reason-from.false (e ∙ sym c.from.ensures)))
