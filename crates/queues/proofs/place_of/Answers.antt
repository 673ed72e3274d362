use Rattle.std.proofs.Common.{◌≡◌, eqb, take, rules}
use Rattle.std.proofs.lemmas.Iterator.{YieldsList-from_slice}
use Rattle.std.proofs.lemmas.Iterator.Search.{position_from_yields_List}
use Rattle.std.specs.List.{position}
use borrow.Author.Tests.{tests}
use Rattle.queues.proofs.Laws.{place_where_found}
use Rattle.queues.proofs.place_of.Goals as goal

pub returns : goal.returns
returns c =
    let q = take c.args.q.len c.args.q.items in
    let found : c.position.result ≡ position (λ a. eqb a c.args.s) q =
    position_from_yields_List (λ a. eqb a c.args.s) _ _ c.position.result c.position.ensures.ran (YieldsList-from_slice q (cc)) (λ x b f k. search (rules, tests)) in
    cc (place_where_found (λ a. eqb a c.args.s) q)
