-- What trying lists of steps relies on, and what it counts.
use Rattle.std.specs.Prelude.{◌≡◌, ℕ, ◌+◌, ◌-◌, ◌<◌, ◌≤◌, List, length, replicate, slice_index}
use Rattle.model.specs.declared.Table.{Table}
use Rattle.model.specs.Lists.{up_to}
use Rattle.model.specs.Counting.{count_places, count_of}
use Rattle.step_lists.specs.Firsts.{count_from}
use Rattle.few.specs.declared.Few.{Few}
use Rattle.few.specs.Front.{Whole}

-- the four threads are those of a table, at least one step is left, and no count will overflow
pub record Trying (f : Few) (x left : ℕ) (counts : List ℕ) : Type 0 where
  pub whole : Table
  pub front : Whole f whole
  pub some : 1 ≤ left
  pub long : length counts ≡ count_places
  pub room : (p : ℕ) → p < count_places → slice_index counts p + count_from whole (f.n - x) x (left - 1) p < 4294967296

-- each place has gained the lists that lead there, whatever table the four threads are of
pub record Counted (f : Few) (x left : ℕ) (before after : List ℕ) : Type 0 where
  pub gains : (t : Table) → Whole f t → (p : ℕ) → p < count_places → slice_index after p ≡ slice_index before p + count_from t (f.n - x) x (left - 1) p

-- the four threads are those of a table, the length is at most 10, and nothing is counted yet
pub record Countable (f : Few) (k : ℕ) (counts : List ℕ) : Type 0 where
  pub whole : Table
  pub front : Whole f whole
  pub short : k ≤ 10
  pub zeros : counts ≡ replicate count_places 0

-- each place has its count, whatever table the four threads are of
abbrev pub CountedAll : Few → ℕ → List ℕ → Type 0
CountedAll f k counts = (t : Table) → Whole f t → counts ≡ up_to count_places (count_of t k)
