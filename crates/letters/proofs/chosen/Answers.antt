use Rattle.std.proofs.Common.{sym}
use Rattle.model.specs.Lists.{up_to}
use Rattle.model.specs.Bondtrace.{ascii}
use Rattle.language.specs.Commands.{choice_digits}
use Rattle.letters.proofs.chosen.Goals as goal

-- the word `yes`
pub returns-then-is_word : goal.returns-then-is_word
unfolding choice_digits ascii up_to
returns-then-is_word c = rw (sym c.if-is_word.ensures) c.measured.ensures

-- the word `no`
pub returns-then-is_word-2 : goal.returns-then-is_word-2
unfolding choice_digits ascii up_to
returns-then-is_word-2 c = rw (sym c.if-is_word.ensures, sym c.if-is_word-2.ensures) c.measured-then-is_word-2.ensures

-- neither
pub returns : goal.returns
unfolding choice_digits ascii up_to
returns c = rw (sym c.if-is_word.ensures, sym c.if-is_word-2.ensures) c.measured-2.ensures
