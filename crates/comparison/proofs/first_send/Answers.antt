use Rattle.std.proofs.Common.{◌<◌, ◌∙◌, sym, ap, refl, not, ℕ, length, arith}
use Rattle.model.proofs.Laws.{same?}
use Rattle.columns.specs.Ranks.{senders_of, place_within}
use Rattle.columns.proofs.Places.{senders-many, within_found, within_none, found_within, none_within}
use Rattle.comparison.proofs.Firsts.{send-alone, send-found, first-here, first-nowhere, column-few, column-small}
use Rattle.comparison.proofs.first_send.Goals as goal

pub loop-i-init : goal.loop-i-init
loop-i-init c = λ k l. absurd (omega arith)

-- it has none
pub returns-in_default : goal.returns-in_default
returns-in_default c =
    let pairs = c.args.sends.pairs.now in
    let past = none_within _ _ (sym c.in_default.is ∙ c.find_mate.ensures) in
    let low : c.loop-i.i < length (senders_of pairs) = omega (arith, senders-many pairs) in
    let here = first-here _ _ _ c.loop-i.i c.args.sends.column.many low
    (send-alone _ _ _ _ _ _ c.args.sends.column c.args.receives.column c.loop-i.i _ low refl (omega (arith, senders-many c.args.receives.pairs.now, past))) c.loop-i.invariant in
    within_found (length pairs) c.loop-i.i c.loop-i-test.true ∙ ap (λ (k : ℕ). place_within (length pairs) k) here

pub offset_bounds-sends-i : goal.offset_bounds-sends-i
offset_bounds-sends-i c = omega (arith, senders-many c.args.sends.pairs.now, column-few c.args.sends.log.now _ _ c.args.sends.good c.args.sends.column)

pub offset_bounds-receives-j : goal.offset_bounds-receives-j
offset_bounds-receives-j c =
    let found = found_within _ _ c.in-Some.j (sym c.in-Some.is ∙ c.find_mate.ensures) in
    omega (arith, found.0, found.1, senders-many c.args.receives.pairs.now, column-few c.args.receives.log.now _ _ c.args.receives.good c.args.receives.column)

pub bounds-sends-i : goal.bounds-sends-i
bounds-sends-i c =
    omega (arith, senders-many c.args.sends.pairs.now, column-few c.args.sends.log.now _ _ c.args.sends.good c.args.sends.column)

pub bounds-receives-j : goal.bounds-receives-j
bounds-receives-j c =
    let found = found_within _ _ c.in-Some.j (sym c.in-Some.is ∙ c.find_mate.ensures) in
    omega (arith, found.0, found.1, senders-many c.args.receives.pairs.now, column-few c.args.receives.log.now _ _ c.args.receives.good c.args.receives.column)

pub same_message-requires : goal.same_message-requires
same_message-requires c =
    let found = found_within _ _ c.in-Some.j (sym c.in-Some.is ∙ c.find_mate.ensures) in (
      column-small c.args.sends.log.now _ _ c.args.sends.good c.args.sends.column c.loop-i.i (omega (arith, senders-many c.args.sends.pairs.now)),
      column-small c.args.receives.log.now _ _ c.args.receives.good c.args.receives.column c.in-Some.j (omega (arith, found.0, found.1, senders-many c.args.receives.pairs.now)),
    )

-- it differs
pub returns-then-not-same_message : goal.returns-then-not-same_message
returns-then-not-same_message c =
    let pairs = c.args.sends.pairs.now in
    let found = found_within _ _ c.in-Some.j (sym c.in-Some.is ∙ c.find_mate.ensures) in
    let low : c.loop-i.i < length (senders_of pairs) = omega (arith, senders-many pairs) in
    let decided = send-found _ _ _ _ _ _ c.args.sends.column c.args.receives.column c.loop-i.i c.in-Some.j low found.0 (omega (arith, found.0, found.1, senders-many c.args.receives.pairs.now))
    ∙ ap not (sym c.same_message.ensures ∙ c.if-not-same_message.true) in
    within_found (length pairs) c.loop-i.i c.loop-i-test.true ∙ ap (λ (k : ℕ). place_within (length pairs) k) (first-here _ _ _ c.loop-i.i c.args.sends.column.many low decided c.loop-i.invariant)

pub loop-i-preserved : goal.loop-i-preserved
loop-i-preserved c =
    let pairs = c.args.sends.pairs.now in
    let found = found_within _ _ c.in-Some.j (sym c.in-Some.is ∙ c.find_mate.ensures) in
    let low : c.loop-i.i < length (senders_of pairs) = omega (arith, senders-many pairs) in
    let decided = send-found _ _ _ _ _ _ c.args.sends.column c.args.receives.column c.loop-i.i c.in-Some.j low found.0 (omega (arith, found.0, found.1, senders-many c.args.receives.pairs.now))
    ∙ ap not (sym c.same_message.ensures ∙ c.if-not-same_message.false) in
    λ k l. same? k c.loop-i.i (λ e. rw e decided) (λ d. c.loop-i.invariant k (omega arith))

-- none does
pub returns : goal.returns
returns c =
    let none = first-nowhere _ _ _ c.loop-i.i c.args.sends.column.many (omega (arith, senders-many c.args.sends.pairs.now)) c.loop-i.invariant in
    within_none (length c.args.sends.pairs.now) _ (omega (arith, none, c.loop-i-test.false))
