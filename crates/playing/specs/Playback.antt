-- What playing a schedule on relies on, and what it promises.
use Rattle.std.specs.Prelude.{◌≡◌, ℕ, ◌+◌, ◌*◌, ◌<◌, ◌≤◌, Bool, List, length}
use Rattle.model.specs.Bondtrace.{Tally, tally}
use Rattle.pieces.specs.Playing.{played_on}
use Rattle.opening.specs.Opened.{Steady}
use Rattle.opening.specs.declared.Playback.{Playback}

-- the table, the store and the counts of a playback
unfoldable pub tally_of : Playback → List ℕ → Tally
tally_of t store = tally t.table store t.records t.refused

-- it can go on by this many bytes with this store: the store has the table's length, and the counts have room
pub record Playable (t : Playback) (store : List ℕ) (bytes : ℕ) : Type 0 where
  pub steady : Steady t
  pub words : length store ≡ 8 * t.table.n
  pub room : t.place + bytes < 18446744073709551616

-- what playing promises of the playback and the store afterwards
pub record PlayPromise (from : Playback) (store input : List ℕ) (to : Playback) (after : List ℕ) (bad : Bool) : Type 0 where
  pub plays : tally_of to after ≡ (played_on (tally_of from store) input).tally
  pub takes : to.place ≡ from.place + (played_on (tally_of from store) input).taken
  pub stops : bad ≡ (played_on (tally_of from store) input).bad

-- what else is known of a playback and its store: it can go on, it came no further than the bytes, and it has as many threads
pub record Carries (from : Playback) (bytes : ℕ) (to : Playback) (after : List ℕ) : Type 0 where
  pub steady : Steady to
  pub words : length after ≡ 8 * to.table.n
  pub onward : from.place ≤ to.place
  pub within : to.place ≤ from.place + bytes
  pub size : to.table.n ≡ from.table.n
