use Rattle.std.proofs.Common.{◌≡◌, true, eqb, get_or}
use Rattle.model.specs.Lists.{all_below}
use Rattle.language.specs.Grammar.{column}
use Rattle.commands.proofs.rows.is_name.Given as goal

-- the first i columns are those of the word
abbrev pub invariant-loop-i : goal.invariant-loop-i
invariant-loop-i l = all_below l.i (λ k. eqb (get_or l.word k 32) (column l.row.place k)) ≡ true
