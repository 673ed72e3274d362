-- What reading the table record returns, and what playing on from there relies on.
use Rattle.std.specs.Prelude.{◌≡◌, ℕ, ◌≤◌, true, cond, List}
use Rattle.model.specs.Threads.{new_table}
use Rattle.model.specs.Refusals.{unless, make_refusal}
use Rattle.model.specs.RecordBytes.{head_length, thread_byte, lawful}
use Rattle.model.specs.Decoding.{front}
use Rattle.unchecked.specs.Runnable.{Checked}
use Rattle.opening.specs.declared.Playback.{Playback}

-- the number by which the first record is refused, or 0
unfoldable pub open_refusal : List ℕ → ℕ
open_refusal input = cond (lawful true (front input)) (make_refusal (thread_byte input)) 12

-- the size of the table that is made; refused, none is
unfoldable pub open_size : List ℕ → ℕ
open_size input = unless (open_refusal input) (λ g. 0) (thread_byte input)

-- only a table record of n threads is played
unfoldable pub opened : ℕ → Playback
opened n = record { table = new_table n; records = 1; refused = 0; place = head_length }

-- a playback that can go on: its table has passed the check, or was left by calls that started from one that had, no rules are loaded, since no record loads any, and no count is ahead of the bytes
pub record Steady (t : Playback) : Type 0 where
  pub checked : Checked t.table
  pub unruled : t.table.rules.len ≡ 0
  pub fewer : t.refused ≤ t.records
  pub counted : t.records ≤ t.place
