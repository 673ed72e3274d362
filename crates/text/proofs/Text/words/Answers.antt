use Rattle.std.proofs.Common.{rules}
use Rattle.laws.proofs.Digits.{spaced-short}
use Rattle.text.proofs.Text.words.Goals as goal

-- a word has 32 bits
pub returns-clause-words_len_bound : goal.returns-clause-words_len_bound
returns-clause-words_len_bound c = spaced-short _ (λ i. search rules)
