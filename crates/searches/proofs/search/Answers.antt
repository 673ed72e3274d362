use Rattle.std.proofs.Common.{ℕ, ap, ◌∙◌}
use Rattle.std.specs.Prelude.{Option, unwrap_or}
use borrow.Author.Tests.{not-true, not-false}
use Rattle.std.proofs.lemmas.Result.{err_from_is_err_and}
use Rattle.model.specs.Codes.{nobody}
use Rattle.model.specs.Threads.{at}
use Rattle.model.specs.Queues.{find_sender}
use Rattle.queues.proofs.Options.{option-number}
use Rattle.searches.proofs.Searched.{search-refused, search-none, search-found, queue-fits}
use Rattle.searches.proofs.search.Goals as goal

-- a row on the table or on the number refuses
pub returns-in_err-numbered_call_refusal : goal.returns-in_err-numbered_call_refusal
returns-in_err-numbered_call_refusal c =
    let p = err_from_is_err_and c.from_residual.result c.from_residual.ensures.1 in
    rw p.1 (search-refused _ _ _ _ p.2 c.in_err-numbered_call_refusal.ensures.number)

-- the thread is not receiving
pub returns-then-not-own : goal.returns-then-not-own
unfolding at
returns-then-not-own c = search-none _ _ c.in_ok-numbered_call_refusal.ensures.number (not-true _ c.if-not-own.true)

pub first_acceptable-found-requires : goal.first_acceptable-found-requires
unfolding at
first_acceptable-found-requires c = let there = c.in_ok-numbered_call_refusal.ensures.there in queue-fits _ _ there.formed there.below

-- it is
pub returns : goal.returns
unfolding at
returns c =
    let found = c.first_acceptable-found.ensures in
    search-found _ _ c.in_ok-numbered_call_refusal.ensures.number (not-false _ c.if-not-own.false) _ _
    (c.unwrap_or.ensures ∙ ap (λ (o : Option ℕ). unwrap_or o nobody) found.sender ∙ option-number (find_sender (at c.args.table c.args.thread)) nobody) found.read
