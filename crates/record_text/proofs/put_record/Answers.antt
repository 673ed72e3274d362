use Rattle.std.proofs.Common.{sym, ◌∙◌}
use borrow.Author.Tests.{eq-eqb, ne_eqb}
use Rattle.model.specs.Lists.{up_to}
use Rattle.model.specs.Bondtrace.{ascii}
use Rattle.roundtrip.proofs.Typed.{record_typed}
use Rattle.spelling.proofs.Lines.{line_of_table, line_of_begin, line_of_step, line_of_cancel, line_of_tick, line-short}
use Rattle.record_text.specs.Lines.{begin_line}
use Rattle.record_text.proofs.put_record.Goals as goal

pub returns-then-kind-eq-TABLE-clause-written : goal.returns-then-kind-eq-TABLE-clause-written
unfolding ascii up_to
returns-then-kind-eq-TABLE-clause-written c = rw (line_of_table c.args.item (eq-eqb _ _ c.if-kind-eq-TABLE.true)) c.put_named.ensures

pub returns-then-kind-eq-TABLE-clause-item_len_bound : goal.returns-then-kind-eq-TABLE-clause-item_len_bound
returns-then-kind-eq-TABLE-clause-item_len_bound c = line-short _ (record_typed _ _ c.well_formed.1.0)

pub returns-then-is_begin-clause-written : goal.returns-then-is_begin-clause-written
unfolding begin_line ascii up_to
returns-then-is_begin-clause-written c = rw (line_of_begin c.args.item (ne_eqb _ _ c.if-kind-eq-TABLE.false) (sym c.is_begin.ensures ∙ c.if-is_begin.true)) c.put_begin.ensures

pub returns-then-is_begin-clause-item_len_bound : goal.returns-then-is_begin-clause-item_len_bound
returns-then-is_begin-clause-item_len_bound c = line-short _ (record_typed _ _ c.well_formed.1.0)

pub returns-then-kind-eq-STEP-clause-written : goal.returns-then-kind-eq-STEP-clause-written
unfolding ascii up_to
returns-then-kind-eq-STEP-clause-written c = rw (line_of_step c.args.item (ne_eqb _ _ c.if-kind-eq-TABLE.false) (sym c.is_begin.ensures ∙ c.if-is_begin.false) (eq-eqb _ _ c.if-kind-eq-STEP.true)) c.put_named-then-kind-eq-STEP.ensures

pub returns-then-kind-eq-STEP-clause-item_len_bound : goal.returns-then-kind-eq-STEP-clause-item_len_bound
returns-then-kind-eq-STEP-clause-item_len_bound c = line-short _ (record_typed _ _ c.well_formed.1.0)

pub returns-then-kind-eq-CANCEL-clause-written : goal.returns-then-kind-eq-CANCEL-clause-written
unfolding ascii up_to
returns-then-kind-eq-CANCEL-clause-written c = rw (line_of_cancel c.args.item (ne_eqb _ _ c.if-kind-eq-TABLE.false) (sym c.is_begin.ensures ∙ c.if-is_begin.false) (ne_eqb _ _ c.if-kind-eq-STEP.false) (eq-eqb _ _ c.if-kind-eq-CANCEL.true)) c.put_named-then-kind-eq-CANCEL.ensures

pub returns-then-kind-eq-CANCEL-clause-item_len_bound : goal.returns-then-kind-eq-CANCEL-clause-item_len_bound
returns-then-kind-eq-CANCEL-clause-item_len_bound c = line-short _ (record_typed _ _ c.well_formed.1.0)

pub returns-clause-written : goal.returns-clause-written
unfolding ascii up_to
returns-clause-written c = rw (line_of_tick c.args.item (ne_eqb _ _ c.if-kind-eq-TABLE.false) (sym c.is_begin.ensures ∙ c.if-is_begin.false) (ne_eqb _ _ c.if-kind-eq-STEP.false) (ne_eqb _ _ c.if-kind-eq-CANCEL.false)) c.bytes.ensures

pub returns-clause-item_len_bound : goal.returns-clause-item_len_bound
returns-clause-item_len_bound c = line-short _ (record_typed _ _ c.well_formed.1.0)
