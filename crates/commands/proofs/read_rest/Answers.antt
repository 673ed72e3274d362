use Rattle.std.proofs.lemmas.Result.{err_from_is_err_and}
use Rattle.std.proofs.Common.{◌≤◌, length, arith}
use Rattle.letters.proofs.Measures.{more-below}
use Rattle.commands.proofs.Returned.{asks_row, parts-read, parts-refused, rest-asked, more-read, more-refused}
use Rattle.commands.proofs.read_rest.Goals as goal

-- words that spell no operation
pub returns-in_err-op-in-112 : goal.returns-in_err-op-in-112
returns-in_err-op-in-112 c =
    let p = err_from_is_err_and c.from_residual.result c.from_residual.ensures.1 in
    rw (p.1, p.2) (parts-refused c.args.row.place c.args.line.now c.args.numbers.now c.args.cursor _ c.rest_letter.ensures c.in-112.is c.in_err-op-in-112.ensures)

-- there is room for the numbers
pub read_more-requires-clause-most_in_bounds : goal.read_more-requires-clause-most_in_bounds
read_more-requires-clause-most_in_bounds c = omega (arith, c.most_more.ensures, more-below c.rest_letter.result)

-- what is no number
pub returns-in_err-last-in_default : goal.returns-in_err-last-in_default
returns-in_err-last-in_default c =
    let p = err_from_is_err_and c.from_residual-in_err-last-in_default.result c.from_residual-in_err-last-in_default.ensures.1 in
    rw (p.1, p.2) (more-refused c.args.row.place c.args.line.now c.args.numbers.now c.args.cursor _ c.rest_letter.ensures (λ e. omega (arith, e)) (λ e. omega (arith, e)) (rw c.most_more.ensures at c.in_err-last-in_default.ensures))

-- an operation
pub returns-in_ok-op-in-112 : goal.returns-in_ok-op-in-112
returns-in_ok-op-in-112 c =
    asks_row _ _ _ _ _ c.of_row.ensures (omega arith) (parts-read c.args.row.place c.args.line.now c.args.numbers.now c.args.cursor _ c.rest_letter.ensures _ c.in-112.is c.in_ok-op-in-112.ensures)

-- anything
pub returns-in-97 : goal.returns-in-97
returns-in-97 c =
    asks_row _ _ _ _ _ (rw c.no_operation.ensures at c.of_row-in-97.ensures) (omega arith) (rest-asked c.args.row.place c.args.line.now c.args.numbers.now c.args.cursor _ c.rest_letter.ensures (λ e. omega (arith, c.in-97.is)) c.in-97.is)

-- more numbers
pub returns-in_ok-last-in_default : goal.returns-in_ok-last-in_default
returns-in_ok-last-in_default c =
    let r = rw c.most_more.ensures at c.in_ok-last-in_default.ensures in
    let few : c.in_ok-last-in_default.last.count ≤ length c.read_more.new.numbers = omega (arith, c.in_ok-last-in_default.ensures.few, c.most_more.ensures, more-below c.rest_letter.result) in
    asks_row _ _ _ _ _ (rw c.no_operation-in_default.ensures at c.of_row-in_default.ensures) few (more-read c.args.row.place c.args.line.now c.args.numbers.now c.args.cursor _ c.rest_letter.ensures (λ e. omega (arith, e)) (λ e. omega (arith, e)) _ _ _ r)
