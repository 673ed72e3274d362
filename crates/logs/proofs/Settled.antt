-- An answer is settled by what it stands for.
use mathlib.Core.Path.{◌≡◌, refl, sym, ap, ◌∙◌}
use Rattle.logs.specs.declared.Compared.{Compared}
use Rattle.logs.specs.declared.Compared.TheVariants.{Refused, Agree, Send, Receive}
use Rattle.logs.specs.Comparison.{SaidComparison, refused, agree, send, receive, said_comparison}

-- the case of `Compared` that stands for what is said
abbrev answering : SaidComparison → Compared
answering (refused number) = Refused number
answering agree = Agree
answering (send i) = Send i
answering (receive j) = Receive j

answering-said : (a : Compared) → answering (said_comparison a) ≡ a
answering-said (Refused number) = refl
answering-said Agree = refl
answering-said (Send i) = refl
answering-said (Receive j) = refl

-- answers that stand for the same are the same
pub comparison_settles : (a b : Compared) → said_comparison a ≡ said_comparison b → a ≡ b
comparison_settles a b e = sym (answering-said a) ∙ ap answering e ∙ answering-said b
