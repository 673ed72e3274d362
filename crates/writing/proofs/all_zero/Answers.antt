use Rattle.std.proofs.Common.{◌≡◌, ◌∙◌, ◌&&◌, ℕ, List, [], ◌∷◌, eqb, refl, ap, rules, tests}
use Rattle.std.specs.List.{list_all}
use Rattle.std.proofs.lemmas.Iterator.{YieldsList-from_slice}
use Rattle.std.proofs.lemmas.Iterator.Search.{all_from_yields_List}
use Rattle.model.specs.Encoding.{all_zero}
use Rattle.writing.proofs.all_zero.Goals as goal

-- each number is tested
each-zero : (bytes : List ℕ) → list_all (λ b. eqb b 0) bytes ≡ all_zero bytes
unfolding all_zero
each-zero [] = refl
each-zero (b ∷ bytes) = ap (λ rest. eqb b 0 && rest) (each-zero bytes)

pub returns : goal.returns
returns c = all_from_yields_List (λ b. eqb b 0) _ _ _ c.all.ensures.ran (YieldsList-from_slice c.args.bytes.now cc) (λ x b q k. search (rules, tests)) ∙ each-zero c.args.bytes.now
