use Rattle.std.proofs.Common.{◌∙◌, refl, sym, arith}
use Rattle.columns.proofs.Places.{senders-many, found_within, none_within}
use Rattle.comparison.proofs.Firsts.{column-few, compare-send, compare-receive, compare-agree}
use Rattle.comparison.proofs.compare_sides.Goals as goal

pub overflow_cast-result : goal.overflow_cast-result
overflow_cast-result c =
    let found = found_within _ _ c.in-Some.i (sym c.in-Some.is ∙ c.first_send.ensures) in
    omega (arith, found.0, found.1, senders-many c.args.sends.pairs.now, column-few c.args.sends.log.now _ _ c.args.sends.good c.args.sends.column)

-- a send differs
pub returns-in-Some : goal.returns-in-Some
returns-in-Some c =
    let found = found_within _ _ c.in-Some.i (sym c.in-Some.is ∙ c.first_send.ensures) in
    compare-send _ _ c.in-Some.i found.0 (omega (arith, found.0, found.1, senders-many c.args.sends.pairs.now, c.args.sends.column.many))

pub overflow_cast-result-in-Some-first_receive : goal.overflow_cast-result-in-Some-first_receive
overflow_cast-result-in-Some-first_receive c =
    let found = found_within _ _ c.in-Some-first_receive.j (sym c.in-Some-first_receive.is ∙ c.first_receive.ensures) in
    omega (arith, found.0, found.1, senders-many c.args.receives.pairs.now, column-few c.args.receives.log.now _ _ c.args.receives.good c.args.receives.column)

-- a receive was not sent
pub returns-in-Some-first_receive : goal.returns-in-Some-first_receive
returns-in-Some-first_receive c =
    let none = none_within _ _ (sym c.in_default.is ∙ c.first_send.ensures) in
    let found = found_within _ _ c.in-Some-first_receive.j (sym c.in-Some-first_receive.is ∙ c.first_receive.ensures) in
    compare-receive _ _ _ refl (omega (arith, none, senders-many c.args.sends.pairs.now, c.args.sends.column.many)) c.in-Some-first_receive.j found.0
    (omega (arith, found.0, found.1, senders-many c.args.receives.pairs.now, c.args.receives.column.many))

-- they agree
pub returns : goal.returns
returns c =
    let none = none_within _ _ (sym c.in_default.is ∙ c.first_send.ensures) in
    let nowhere = none_within _ _ (sym c.in_default-first_receive.is ∙ c.first_receive.ensures) in
    compare-agree _ _ _ refl (omega (arith, none, senders-many c.args.sends.pairs.now, c.args.sends.column.many)) _ refl
    (omega (arith, nowhere, senders-many c.args.receives.pairs.now, c.args.receives.column.many))
