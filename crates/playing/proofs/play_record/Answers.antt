use Rattle.std.proofs.Common.{false, refl, sym, ◌∙◌, arith}
use Rattle.model.specs.Threads.{at}
use Rattle.laws.proofs.Schedule.{lawful-long, lawful-head-long}
use Rattle.unchecked.proofs.Stepped.{in_array}
use Rattle.refusals.proofs.Laws.{some-refused, none-refused}
use Rattle.playing.proofs.Ways.{tick-runs, step-runs, cancel-runs, begin-runs, begins, way_tick, way_beyond, way_step, way_owned, way_cancel, way_refused, way_begin}
use Rattle.playing.proofs.play_record.Goals as goal

-- the record's head is there
pub bounds-bytes-2 : goal.bounds-bytes-2
bounds-bytes-2 c = omega (arith, lawful-head-long _ false c.requires.lawful)

pub bounds-bytes-3 : goal.bounds-bytes-3
bounds-bytes-3 c = omega (arith, lawful-head-long _ false c.requires.lawful)

-- a tick
pub tick_in-requires : goal.tick_in-requires
tick_in-requires c = tick-runs _ _ c.requires

pub returns-then-kind-eq-TICK : goal.returns-then-kind-eq-TICK
returns-then-kind-eq-TICK c = way_tick _ _ c.requires c.if-kind-eq-TICK.true _ _ (c.tick_in.ensures _)

-- a call of no thread
pub returns-then-table-x : goal.returns-then-table-x
returns-then-table-x c = way_beyond _ _ c.requires c.if-kind-eq-TICK.false c.if-table-x.true

-- a step
pub step_in-requires : goal.step_in-requires
step_in-requires c = record { accepted = step-runs _ _ c.requires c.if-table-x.false; shaped = c.requires.runnable.checked.shaped }

pub returns-then-kind-eq-STEP : goal.returns-then-kind-eq-STEP
returns-then-kind-eq-STEP c = way_step _ _ c.requires c.if-table-x.false c.if-kind-eq-STEP.true _ _ c.step_in.ensures

pub bounds-table-i : goal.bounds-table-i
bounds-table-i c = in_array _ _ (step-runs _ _ c.requires c.if-table-x.false) c.requires.runnable.checked.shaped

-- a cancel
pub returns-then-table-i : goal.returns-then-table-i
unfolding at
returns-then-table-i c = way_owned _ _ c.requires c.if-table-x.false c.if-kind-eq-CANCEL.true c.if-table-i.true

pub cancel_in-requires : goal.cancel_in-requires
unfolding at
cancel_in-requires c = cancel-runs _ _ c.requires c.if-table-x.false _ c.if-table-i.false

pub returns-then-kind-eq-CANCEL : goal.returns-then-kind-eq-CANCEL
unfolding at
returns-then-kind-eq-CANCEL c = way_cancel _ _ c.requires c.if-table-x.false c.if-kind-eq-CANCEL.true c.if-table-i.false _ _ (c.cancel_in.ensures _)

-- a begin
pub operation_at-op-requires : goal.operation_at-op-requires
operation_at-op-requires c = record {
  bytes_value = begins _ _ c.requires c.if-table-x.false c.if-kind-eq-TICK.false c.if-kind-eq-STEP.false c.if-kind-eq-CANCEL.false;
  bytes_in_bounds = lawful-long _ false c.requires.lawful;
}

pub returns-then-is_err : goal.returns-then-is_err
unfolding at
returns-then-is_err c =
    way_refused _ _ c.requires c.if-table-x.false c.if-kind-eq-TICK.false c.if-kind-eq-STEP.false c.if-kind-eq-CANCEL.false
    _ c.operation_at-op.ensures _ (c.begin_refusal.ensures _ refl refl) (some-refused _ (sym c.is_err.ensures.value ∙ c.if-is_err.true))

pub begin_in-requires : goal.begin_in-requires
unfolding at
begin_in-requires c = record {
  accepted = begin-runs _ _ c.requires c.if-table-x.false c.if-kind-eq-TICK.false c.if-kind-eq-STEP.false c.if-kind-eq-CANCEL.false
      _ c.operation_at-op.ensures _ (c.begin_refusal.ensures _ refl refl) (none-refused _ (sym c.is_err.ensures.value ∙ c.if-is_err.false));
  shaped = c.requires.runnable.checked.shaped;
}

pub returns : goal.returns
unfolding at
returns c =
    way_begin _ _ c.requires c.if-table-x.false c.if-kind-eq-TICK.false c.if-kind-eq-STEP.false c.if-kind-eq-CANCEL.false
    _ c.operation_at-op.ensures _ (c.begin_refusal.ensures _ refl refl) (none-refused _ (sym c.is_err.ensures.value ∙ c.if-is_err.false)) _ _ c.begin_in.ensures

pub bounds-table-i-2 : goal.bounds-table-i-2
bounds-table-i-2 c = in_array _ _ (step-runs _ _ c.requires c.if-table-x.false) c.requires.runnable.checked.shaped
