use Rattle.std.proofs.Common.{arith, refl, ◌∙◌}
use Rattle.std.proofs.lemmas.Slice.{put_mid-paste}
use Rattle.model.specs.Encoding.{word_bytes}
use Rattle.writing.proofs.put_word.Goals as goal

-- the word's four bytes stand in the place of those that were there
pub returns : goal.returns
unfolding word_bytes
returns c = put_mid-paste _ _ _ _ (word_bytes c.args.word) 4 (c.copy_from_slice.ensures.after ∙ c.to_le_bytes.ensures) (omega arith) refl
