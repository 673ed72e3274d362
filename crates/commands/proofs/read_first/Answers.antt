use Rattle.std.proofs.lemmas.Result.{err_from_is_err_and}
use Rattle.commands.proofs.Returned.{demands_as, first-none, set-thread, set-wrong, first-row}
use Rattle.commands.proofs.read_first.Goals as goal

-- the word names no command
pub returns-in_default : goal.returns-in_default
returns-in_default c = first-none _ _ c.requires.placed c.in_default.ensures

-- the thread of `set` is none
pub returns-in_err-thread : goal.returns-in_err-thread
returns-in_err-thread c =
    let p = err_from_is_err_and c.from_residual.result c.from_residual.ensures.1 in
    rw (p.1, p.2) (set-wrong _ _ c.requires.placed _ c.in-Some.ensures.0 c.in-Some.ensures.1 c.if-row-eq-SET_ROW.true c.in_err-thread.ensures)

-- it is one
pub returns-then-row-eq-SET_ROW : goal.returns-then-row-eq-SET_ROW
returns-then-row-eq-SET_ROW c =
    demands_as _ _ _ (set-thread _ _ c.requires.placed _ c.in-Some.ensures.0 c.in-Some.ensures.1 c.if-row-eq-SET_ROW.true c.in_ok-thread.ensures.means) c.read_field.ensures

-- it is another row
pub returns : goal.returns
returns c = demands_as _ _ _ (first-row _ _ c.requires.placed _ c.in-Some.ensures.0 c.in-Some.ensures.1 c.if-row-eq-SET_ROW.false) c.read_row.ensures
