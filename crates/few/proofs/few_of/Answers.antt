use Rattle.std.proofs.Common.{List, sym, ap, ◌∙◌, subst}
use Rattle.model.specs.declared.Outcome.{Outcome}
use Rattle.model.specs.Counting.{place_from}
use Rattle.digits.specs.Coded.{code_at, Coded}
use Rattle.few.proofs.Fronts.{front_of, coded-front, place-front}
use Rattle.few.proofs.few_of.Goals as goal

pub place-requires : goal.place-requires
place-requires c = subst (Coded c.args.table.n) (sym c.outcomes_of.ensures) (coded-front (front_of c.args.table c.requires.checked c.requires.n_le_counted_threads 0))

pub returns : goal.returns
returns c =
    let table = c.args.table in
    record {
      front = front_of table c.requires.checked c.requires.n_le_counted_threads _;
      place = c.place.ensures.place ∙ ap (λ (o : List Outcome). place_from (code_at o) table.n 0) c.outcomes_of.ensures ∙ place-front (front_of table c.requires.checked c.requires.n_le_counted_threads 0);
    }
