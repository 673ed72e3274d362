use Rattle.model.specs.Threads.{at, put}
use Rattle.unchecked.proofs.Stepped.{in_array, queue-fits, held_stays, other-in-array, slice-ends, fits-here, ending-waits, stepped_on, stepped-to-end}
use Rattle.unchecked.proofs.step_in.Goals as goal

pub bounds-table-i : goal.bounds-table-i
bounds-table-i c = in_array _ _ c.requires.accepted c.requires.shaped

-- the lock is owned: thread x is held
pub returns-then-own : goal.returns-then-own
unfolding at
returns-then-own c = held_stays _ _ c.requires.accepted c.requires.shaped c.if-own.true

pub other_number-o-requires : goal.other_number-o-requires
unfolding at
other_number-o-requires c = queue-fits _ _ c.requires.accepted c.requires.shaped

-- the thread that is read as the other one has a place in the array
pub bounds-table-j : goal.bounds-table-j
unfolding at
bounds-table-j c = other-in-array _ _ c.requires.accepted c.requires.shaped _ _ c.other_number-o.ensures.partner c.unwrap_or-j.ensures

pub slice_bounds-step_threads-end : goal.slice_bounds-step_threads-end
unfolding at
slice_bounds-step_threads-end c = slice-ends _ _ c.requires.accepted c.requires.shaped _ _ c.other_number-o.ensures.partner c.unwrap_or-j.ensures

pub step_threads-change-requires-clause-fit : goal.step_threads-change-requires-clause-fit
unfolding at
step_threads-change-requires-clause-fit c = fits-here _ _ c.requires.accepted c.requires.shaped _ _ c.other_number-o.ensures.partner c.unwrap_or-j.ensures

-- the step ends a part of an operation
pub end_threads-both-requires : goal.end_threads-both-requires
unfolding at
end_threads-both-requires c =
    ending-waits _ _ c.requires.accepted c.requires.shaped _ _ c.other_number-o.ensures.partner c.unwrap_or-j.ensures c.if-own.false _
    c.step_threads-change.result c.in-Some.is c.step_threads-change.ensures.acted

pub bounds-table-j-in-Some : goal.bounds-table-j-in-Some
unfolding at
bounds-table-j-in-Some c = other-in-array _ _ c.requires.accepted c.requires.shaped _ _ c.other_number-o.ensures.partner c.unwrap_or-j.ensures

pub returns-in-Some : goal.returns-in-Some
unfolding at put
returns-in-Some c =
    stepped-to-end _ _ c.requires.accepted c.requires.shaped _ _ c.other_number-o.ensures.partner c.unwrap_or-j.ensures c.if-own.false
    c.step_threads-change.result c.step_threads-change.ensures.acted _ c.step_threads-change.ensures.words _ _ _ c.in-Some.is c.end_threads-both.ensures

-- it ends nothing
pub bounds-table-j-2 : goal.bounds-table-j-2
unfolding at
bounds-table-j-2 c = other-in-array _ _ c.requires.accepted c.requires.shaped _ _ c.other_number-o.ensures.partner c.unwrap_or-j.ensures

pub returns : goal.returns
unfolding at put
returns c =
    stepped_on _ _ c.requires.accepted c.requires.shaped _ _ c.other_number-o.ensures.partner c.unwrap_or-j.ensures c.if-own.false
    c.step_threads-change.result c.step_threads-change.ensures.acted _ c.step_threads-change.ensures.words _ _ c.in_default.is c.change_own.ensures c.change_other.ensures

pub bounds-table-j-in-Some-2 : goal.bounds-table-j-in-Some-2
unfolding at
bounds-table-j-in-Some-2 c = other-in-array _ _ c.requires.accepted c.requires.shaped _ _ c.other_number-o.ensures.partner c.unwrap_or-j.ensures
