-- What an answer enum stands for settles the answer itself, so a promise about the one is a promise about the other.
use mathlib.Core.Path.{◌≡◌, refl, sym, ap, ◌∙◌}
use Rattle.model.specs.declared.Answer.{Answer}
use Rattle.model.specs.declared.Answer.TheVariants.{Refused, Accepted, Marked, NothingToCancel, Moved, Idle, Held, Wants, Asleep}
use Rattle.std.specs.Prelude.{ℕ, Result, Ok, Err}
use Rattle.model.specs.declared.Outcome.{Outcome}
use Rattle.model.specs.Answers.{accepted, marked, nothing_to_cancel, moved, idle, held, wants, asleep, Said, refused, replied, said, SaidOutcome, shown, said_outcome}

-- the answer that stands for what was said
abbrev pub answering : Said → Answer
answering (refused number) = Refused number
answering (replied accepted) = Accepted
answering (replied marked) = Marked
answering (replied nothing_to_cancel) = NothingToCancel
answering (replied moved) = Moved
answering (replied idle) = Idle
answering (replied held) = Held
answering (replied wants) = Wants
answering (replied asleep) = Asleep

answering-said : (a : Answer) → answering (said a) ≡ a
answering-said (Refused number) = refl
answering-said Accepted = refl
answering-said Marked = refl
answering-said NothingToCancel = refl
answering-said Moved = refl
answering-said Idle = refl
answering-said Held = refl
answering-said Wants = refl
answering-said Asleep = refl

-- and it says just that
pub said-answering : (s : Said) → said (answering s) ≡ s
said-answering (refused number) = refl
said-answering (replied accepted) = refl
said-answering (replied marked) = refl
said-answering (replied nothing_to_cancel) = refl
said-answering (replied moved) = refl
said-answering (replied idle) = refl
said-answering (replied held) = refl
said-answering (replied wants) = refl
said-answering (replied asleep) = refl

-- two answers that say the same are the same
pub said-settles : (a b : Answer) → said a ≡ said b → a ≡ b
said-settles a b e = sym (answering-said a) ∙ ap answering e ∙ answering-said b

abbrev showing : SaidOutcome → Result Outcome ℕ
showing (SaidOutcome.refused number) = Err number
showing (shown outcome) = Ok outcome

showing-said : (a : Result Outcome ℕ) → showing (said_outcome a) ≡ a
showing-said (Err number) = refl
showing-said (Ok outcome) = refl

pub outcome-settles : (a b : Result Outcome ℕ) → said_outcome a ≡ said_outcome b → a ≡ b
outcome-settles a b e = sym (showing-said a) ∙ ap showing e ∙ showing-said b
