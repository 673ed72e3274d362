use Rattle.std.proofs.Common.{◌≡◌, sym, ◌∙◌, arith}
use Rattle.model.specs.Threads.{at}
use Rattle.formed.proofs.Facts.{queue-small}
use Rattle.formed.proofs.Shape.{shaped}
use Rattle.clauses.proofs.Alone.{own-told}
use Rattle.wellformed.proofs.Passed.{passed_none, passed-more}
use Rattle.wellformed.proofs.Verdict.{size-refused, rules-refused, alone-refused, copy-refused, queue-refused, links_verdict}
use Rattle.wellformed.proofs.well_formed.Goals as goal
use Rattle.wellformed.proofs.well_formed.Goals.{then-n-lt1-via-then-n-lt1, then-n-lt1-via-else-n-lt1+then-n-gt32, then-n-lt1-via-else-n-lt1+else-n-gt32+then-not-rules_fit, then-not-thread_alone-via-then-not-thread_alone, then-not-thread_alone-via-else-not-thread_alone+then-not-copy_fits}

-- no thread or more than 32, or its rules do not fit
pub returns-then-n-lt1 : goal.returns-then-n-lt1
returns-then-n-lt1 c = elim c.then-n-lt1.branch [
  | then-n-lt1-via-then-n-lt1 w ↦ size-refused _ (λ some few. omega (arith, w.if-n-lt1.true))
  | then-n-lt1-via-else-n-lt1+then-n-gt32 w ↦ size-refused _ (λ some few. omega (arith, w.if-n-gt32.true))
  | then-n-lt1-via-else-n-lt1+else-n-gt32+then-not-rules_fit w ↦ rules-refused _ (sym w.rules_fit.ensures ∙ w.if-not-rules_fit.true)
]

pub loop-x-init : goal.loop-x-init
loop-x-init c = passed_none c.args.table (omega arith)

-- thread x is not well-formed by itself, or the thread to which it copies is not ready
pub returns-then-not-thread_alone : goal.returns-then-not-thread_alone
unfolding at
returns-then-not-thread_alone c =
    let whole = shaped c.args.table _ c.well_formed.0 (omega arith) in
    elim c.then-not-thread_alone.branch [
      | then-not-thread_alone-via-then-not-thread_alone w ↦ alone-refused _ whole c.loop-x.x c.loop-x-test.true (sym c.thread_alone.ensures ∙ w.if-not-thread_alone.true)
      | then-not-thread_alone-via-else-not-thread_alone+then-not-copy_fits w ↦ copy-refused _ whole c.loop-x.x c.loop-x-test.true (sym w.copy_fits.ensures ∙ w.if-not-copy_fits.true)
    ]

pub enter_senders-requires : goal.enter_senders-requires
unfolding at
enter_senders-requires c =
    let whole = shaped c.args.table _ c.well_formed.0 (omega arith) in
    let own = own-told _ c.loop-x.x _ (sym c.thread_alone.ensures ∙ c.if-not-thread_alone.false) (whole.queues _ c.loop-x-test.true) in
    (omega arith, c.loop-x-test.true, queue-small own, c.loop-x.invariant.places)

-- its waiting senders are not all free
pub returns-then-not-enter_senders : goal.returns-then-not-enter_senders
unfolding at
returns-then-not-enter_senders c =
    queue-refused _ (shaped c.args.table _ c.well_formed.0 (omega arith)) (omega arith) c.loop-x.invariant c.loop-x-test.true (c.enter_senders.ensures.no c.if-not-enter_senders.true)

-- thread x passes
pub loop-x-preserved : goal.loop-x-preserved
unfolding at
loop-x-preserved c =
    let whole = shaped c.args.table _ c.well_formed.0 (omega arith) in
    let own = own-told _ c.loop-x.x _ (sym c.thread_alone.ensures ∙ c.if-not-thread_alone.false) (whole.queues _ c.loop-x-test.true) in
    let copy = sym c.copy_fits.ensures ∙ c.if-not-copy_fits.false in
    passed-more _ (omega arith) c.loop-x.invariant _ c.loop-x-test.true own copy (c.enter_senders.ensures.yes c.if-not-enter_senders.false)

-- all threads passed
pub returns : goal.returns
returns c =
    let all : c.loop-x.x ≡ c.args.table.n = omega arith in
    links_verdict _ (shaped c.args.table _ c.well_formed.0 (omega arith)) (omega arith) (omega arith) (sym c.rules_fit.ensures ∙ c.if-not-rules_fit.false) (rw all at c.loop-x.invariant) _ c.links_fit.ensures
