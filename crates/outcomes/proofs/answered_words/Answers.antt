use Rattle.std.proofs.Common.{sym, ap, ◌∙◌}
use Rattle.model.specs.Answers.{said_outcome}
use Rattle.outcomes.proofs.Shown.{words-answered, place-answered}
use Rattle.outcomes.proofs.answered_words.Goals as goal

-- the answer is a refusal
pub returns-in-Err-clause-words : goal.returns-in-Err-clause-words
returns-in-Err-clause-words c = λ t e. c.first_words.ensures.words ∙ words-answered _ _ (ap said_outcome (sym c.in-Err.is) ∙ e)

pub returns-in-Err-clause-place : goal.returns-in-Err-clause-place
returns-in-Err-clause-place c = λ t e. (c.first_words.ensures.place.0, c.first_words.ensures.place.1 ∙ place-answered _ _ (ap said_outcome (sym c.in-Err.is) ∙ e) _)

-- it shows an outcome
pub returns-in-Ok-clause-words : goal.returns-in-Ok-clause-words
returns-in-Ok-clause-words c = λ t e. c.first_words-in-Ok.ensures.words ∙ words-answered _ _ (ap said_outcome (sym c.in-Ok.is) ∙ e)

pub returns-in-Ok-clause-place : goal.returns-in-Ok-clause-place
returns-in-Ok-clause-place c = λ t e. (c.first_words-in-Ok.ensures.place.0, c.first_words-in-Ok.ensures.place.1 ∙ place-answered _ _ (ap said_outcome (sym c.in-Ok.is) ∙ e) _)
