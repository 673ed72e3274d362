use Rattle.std.proofs.Common.{◌≤◌, ◌<◌, take, rules}
use Rattle.std.proofs.lemmas.Iterator.{YieldsList-from_slice, cases_from_all}
use borrow.Author.Tests.{tests}
use Rattle.model.specs.Operations.{word_limit}
use Rattle.logs.specs.declared.LogEntry.{LogEntry}
use Rattle.comparison.proofs.Entries.{too_long, good_all}
use Rattle.comparison.proofs.is_good.Goals as goal

pub returns-then-log-gt-LOG_ROOM : goal.returns-then-log-gt-LOG_ROOM
returns-then-log-gt-LOG_ROOM c = too_long _ c.if-log-gt-LOG_ROOM.true

pub returns : goal.returns
returns c =
    let log = c.args.log.now in
    good_all log c.if-log-gt-LOG_ROOM.false c.all.result
    (cases_from_all _ _ c.all.result (λ (e : LogEntry). e.count ≤ word_limit) (λ (e : LogEntry). word_limit < e.count) c.all.ensures.ran (YieldsList-from_slice (take log.len log.entries) (cc)) (λ x q k. search (rules, tests)) (λ x q k. search (rules, tests)))
