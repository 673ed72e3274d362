use Rattle.std.proofs.Common.{◌≡◌, ◌≢◌, sym, ◌∙◌, rules}
use Rattle.std.proofs.lemmas.Iterator.{YieldsList-from_slice, IsFirst-from_position}
use borrow.Author.Tests.{tests}
use Rattle.model.specs.Codes.{codes}
use Rattle.digits.proofs.Codes.{digit_first}
use Rattle.digits.proofs.digit.Goals as goal

pub returns : goal.returns
returns c =
    let code = c.args.code in
    let first = IsFirst-from_position _ _ c.position.result (λ d. d ≡ code) (λ d. d ≢ code) c.position.ensures.ran (YieldsList-from_slice codes (cc)) (λ x q k. search (rules, tests)) (λ x q k. search (rules, tests)) in
    c.unwrap_or.ensures ∙ sym (digit_first code c.position.result first)
