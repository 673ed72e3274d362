use Rattle.std.proofs.Common.{◌≡◌, ◌*◌, ◌≤◌, true, sym, ◌∙◌, arith}
use lib.Seq.{length-take-le}
use Rattle.model.specs.declared.Table.{Table}
use Rattle.model.specs.WellFormed.{well_formed}
use Rattle.model.proofs.Tested.{formed-few}
use Rattle.resting.proofs.Trying.{try_accepted, try_stays}
use Rattle.resting.proofs.would_stay.Goals as goal

-- 256 words are enough for the threads of a well-formed table
room : (t : Table) → well_formed t ≡ true → 8 * t.n ≤ 256
room t formed = omega (arith, formed-few t formed)

pub slice_bounds-store-end : goal.slice_bounds-store-end
slice_bounds-store-end c = room c.args.table c.requires.table_value

pub slice_bounds-step-end : goal.slice_bounds-step-end
slice_bounds-step-end c = sym (length-take-le _ _ (room c.args.table c.requires.table_value))

pub step-requires : goal.step-requires
step-requires c = try_accepted _ _ c.requires.table_value c.requires.x_lt_n _ (length-take-le _ _ (room c.args.table c.requires.table_value))

pub returns : goal.returns
returns c = c.has_stayed.ensures ∙ try_stays _ _ c.requires.table_value c.requires.x_lt_n _ (length-take-le _ _ (room c.args.table c.requires.table_value)) _ _ c.step.ensures
