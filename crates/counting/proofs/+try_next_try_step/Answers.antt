use Rattle.std.proofs.Common.{◌≡◌, ◌+◌, ◌<◌, sym, ◌∙◌, arith}
use Rattle.few.proofs.Fronts.{in_four, queue-front, other-in-four, fits-front, waits_front, coded-ended, leads-ended, whole-ended, leads-on, whole-changed, whole_same, place_in_counts}
use Rattle.few.proofs.Stepping.{leaves-ended, leaves-changed, leaves-same}
use Rattle.counting.proofs.Turns.{counted_none, trying_later, one-fits, counted-last, trying_on, counted_on}
use Rattle.counting.proofs.+try_next_try_step.Goals as goal

-- ---- try_next: no thread is left
pub try_next-returns-else-x-table : goal.try_next-returns-else-x-table
try_next-returns-else-x-table t c = counted_none c.requires c.if-x-table.false

-- ---- try_step: the later threads' turn
pub try_step-try_next-requires : goal.try_step-try_next-requires
try_step-try_next-requires t c = (omega (arith, c.requires.trying.front.front.few, c.requires.trying.front.front.size, c.requires.trying.some), trying_later c.requires.trying c.requires.x_lt_n)

-- the two threads of the step
pub try_step-other_number-o-requires : goal.try_step-other_number-o-requires
try_step-other_number-o-requires t c = queue-front c.requires.trying.front.front c.args.x c.requires.x_lt_n

pub try_step-bounds-table-j : goal.try_step-bounds-table-j
try_step-bounds-table-j t c = other-in-four c.requires.trying.front.front c.args.x c.requires.x_lt_n _ _ c.other_number-o.ensures.partner c.unwrap_or-j.ensures

pub try_step-change_of-change-requires : goal.try_step-change_of-change-requires
try_step-change_of-change-requires t c = fits-front c.requires.trying.front.front c.args.x c.requires.x_lt_n _ _ c.other_number-o.ensures.partner c.unwrap_or-j.ensures

-- ---- the step ends something
pub try_step-end_threads-both-requires : goal.try_step-end_threads-both-requires
try_step-end_threads-both-requires t c = waits_front c.requires.trying.front.front c.args.x c.requires.x_lt_n _ _ c.other_number-o.ensures.partner c.unwrap_or-j.ensures _ c.change_of-change.result c.in-Some.is c.change_of-change.ensures

pub try_step-place_with-p-requires : goal.try_step-place_with-p-requires
try_step-place_with-p-requires t c = record {
  i_lt_counted_threads = (in_four c.requires.trying.front.front c.args.x c.requires.x_lt_n, other-in-four c.requires.trying.front.front c.args.x c.requires.x_lt_n _ _ c.other_number-o.ensures.partner c.unwrap_or-j.ensures);
  coded = coded-ended c.requires.trying.front.front c.args.x c.requires.x_lt_n _ _ c.other_number-o.ensures.partner c.unwrap_or-j.ensures (leaves-ended _ _ _ c.change_of-change.result c.change_of-change.ensures _ _ _ c.in-Some.is c.end_threads-both.ensures);
}

-- it was the last one
pub try_step-overflow_add-counts : goal.try_step-overflow_add-counts
try_step-overflow_add-counts t c = record { fits = one-fits c.requires.trying c.requires.x_lt_n c.try_next.ensures c.try_next.auto.counts c.if-left-eq1.true _ (λ u W. leads-ended W.front c.args.x c.requires.x_lt_n _ _ c.other_number-o.ensures.partner c.unwrap_or-j.ensures (leaves-ended _ _ _ c.change_of-change.result c.change_of-change.ensures _ _ _ c.in-Some.is c.end_threads-both.ensures) _ c.place_with-p.ensures.place) c.place_with-p.ensures.small }

pub try_step-returns-then-left-eq1 : goal.try_step-returns-then-left-eq1
try_step-returns-then-left-eq1 t c = counted-last c.requires.trying c.requires.x_lt_n c.try_next.ensures c.try_next.auto.counts c.if-left-eq1.true _ (λ u W. leads-ended W.front c.args.x c.requires.x_lt_n _ _ c.other_number-o.ensures.partner c.unwrap_or-j.ensures (leaves-ended _ _ _ c.change_of-change.result c.change_of-change.ensures _ _ _ c.in-Some.is c.end_threads-both.ensures) _ c.place_with-p.ensures.place) c.place_with-p.ensures.small

-- or steps are left
pub try_step-bounds-next-j : goal.try_step-bounds-next-j
try_step-bounds-next-j t c = other-in-four c.requires.trying.front.front c.args.x c.requires.x_lt_n _ _ c.other_number-o.ensures.partner c.unwrap_or-j.ensures

pub try_step-try_next-requires-in-Some : goal.try_step-try_next-requires-in-Some
try_step-try_next-requires-in-Some t c = (omega (arith, c.requires.trying.front.front.few, c.requires.trying.front.front.size, c.requires.trying.some), trying_on c.requires.trying c.requires.x_lt_n c.try_next.ensures c.try_next.auto.counts c.if-left-eq1.false (λ u W. whole-ended W.front c.args.x c.requires.x_lt_n _ _ c.other_number-o.ensures.partner c.unwrap_or-j.ensures (leaves-ended _ _ _ c.change_of-change.result c.change_of-change.ensures _ _ _ c.in-Some.is c.end_threads-both.ensures) _ c.place_with-p.ensures.place))

pub try_step-returns-in-Some : goal.try_step-returns-in-Some
try_step-returns-in-Some t c = counted_on c.requires.trying c.requires.x_lt_n c.try_next.ensures c.try_next.auto.counts c.if-left-eq1.false (λ u W. whole-ended W.front c.args.x c.requires.x_lt_n _ _ c.other_number-o.ensures.partner c.unwrap_or-j.ensures (leaves-ended _ _ _ c.change_of-change.result c.change_of-change.ensures _ _ _ c.in-Some.is c.end_threads-both.ensures) _ c.place_with-p.ensures.place) c.try_next-in-Some.ensures

-- ---- it ends nothing
-- it was the last one
pub try_step-bounds-counts-table : goal.try_step-bounds-counts-table
try_step-bounds-counts-table t c = omega (arith, place_in_counts c.requires.trying.front, c.try_next.auto.counts, c.requires.trying.long)

pub try_step-overflow_add-counts-then-left-eq1-2 : goal.try_step-overflow_add-counts-then-left-eq1-2
try_step-overflow_add-counts-then-left-eq1-2 t c = record { fits = one-fits c.requires.trying c.requires.x_lt_n c.try_next.ensures c.try_next.auto.counts c.if-left-eq1-2.true _ (λ u W. leads-on W.front c.args.x c.requires.x_lt_n _ _ c.other_number-o.ensures.partner c.unwrap_or-j.ensures _ (leaves-changed _ _ _ c.change_of-change.result c.change_of-change.ensures c.in_default.is) W.place) (place_in_counts c.requires.trying.front) }

pub try_step-bounds-counts-table-then-left-eq1-2 : goal.try_step-bounds-counts-table-then-left-eq1-2
try_step-bounds-counts-table-then-left-eq1-2 t c = omega (arith, place_in_counts c.requires.trying.front, c.try_next.auto.counts, c.requires.trying.long)

pub try_step-returns-then-left-eq1-2 : goal.try_step-returns-then-left-eq1-2
try_step-returns-then-left-eq1-2 t c = counted-last c.requires.trying c.requires.x_lt_n c.try_next.ensures c.try_next.auto.counts c.if-left-eq1-2.true _ (λ u W. leads-on W.front c.args.x c.requires.x_lt_n _ _ c.other_number-o.ensures.partner c.unwrap_or-j.ensures _ (leaves-changed _ _ _ c.change_of-change.result c.change_of-change.ensures c.in_default.is) W.place) (place_in_counts c.requires.trying.front)

-- it changes nothing
pub try_step-try_next-requires-then-changes_nothing : goal.try_step-try_next-requires-then-changes_nothing
try_step-try_next-requires-then-changes_nothing t c = (omega (arith, c.requires.trying.front.front.few, c.requires.trying.front.front.size, c.requires.trying.some), trying_on c.requires.trying c.requires.x_lt_n c.try_next.ensures c.try_next.auto.counts c.if-left-eq1-2.false (λ u W. whole_same W.front c.args.x c.requires.x_lt_n _ _ c.other_number-o.ensures.partner c.unwrap_or-j.ensures _ (leaves-changed _ _ _ c.change_of-change.result c.change_of-change.ensures c.in_default.is) W.place (leaves-same _ _ _ c.change_of-change.result c.change_of-change.ensures c.in_default.is (sym c.changes_nothing.ensures ∙ c.if-changes_nothing.true))))

pub try_step-returns-then-changes_nothing : goal.try_step-returns-then-changes_nothing
try_step-returns-then-changes_nothing t c = counted_on c.requires.trying c.requires.x_lt_n c.try_next.ensures c.try_next.auto.counts c.if-left-eq1-2.false (λ u W. whole_same W.front c.args.x c.requires.x_lt_n _ _ c.other_number-o.ensures.partner c.unwrap_or-j.ensures _ (leaves-changed _ _ _ c.change_of-change.result c.change_of-change.ensures c.in_default.is) W.place (leaves-same _ _ _ c.change_of-change.result c.change_of-change.ensures c.in_default.is (sym c.changes_nothing.ensures ∙ c.if-changes_nothing.true))) c.try_next-then-changes_nothing.ensures

-- it sets some fields of both
pub try_step-bounds-next-j-2 : goal.try_step-bounds-next-j-2
try_step-bounds-next-j-2 t c = other-in-four c.requires.trying.front.front c.args.x c.requires.x_lt_n _ _ c.other_number-o.ensures.partner c.unwrap_or-j.ensures

pub try_step-try_next-requires-2 : goal.try_step-try_next-requires-2
try_step-try_next-requires-2 t c = (omega (arith, c.requires.trying.front.front.few, c.requires.trying.front.front.size, c.requires.trying.some), trying_on c.requires.trying c.requires.x_lt_n c.try_next.ensures c.try_next.auto.counts c.if-left-eq1-2.false (λ u W. whole-changed W.front c.args.x c.requires.x_lt_n _ _ c.other_number-o.ensures.partner c.unwrap_or-j.ensures _ (leaves-changed _ _ _ c.change_of-change.result c.change_of-change.ensures c.in_default.is) W.place c.change_own.ensures c.change_other.ensures))

pub try_step-returns : goal.try_step-returns
try_step-returns t c = counted_on c.requires.trying c.requires.x_lt_n c.try_next.ensures c.try_next.auto.counts c.if-left-eq1-2.false (λ u W. whole-changed W.front c.args.x c.requires.x_lt_n _ _ c.other_number-o.ensures.partner c.unwrap_or-j.ensures _ (leaves-changed _ _ _ c.change_of-change.result c.change_of-change.ensures c.in_default.is) W.place c.change_own.ensures c.change_other.ensures) c.try_next-2.ensures
