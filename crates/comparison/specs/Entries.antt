-- A log that is not refused, and the columns of its entries.
use Rattle.std.specs.Prelude.{◌≡◌, List, [], ℕ, ◌≤◌, ◌<◌, length, get_or}
use Rattle.model.specs.declared.Pair.{Pair}
use Rattle.model.specs.Operations.{word_limit}
use Rattle.logs.specs.declared.LogEntry.{LogEntry}
use Rattle.logs.specs.declared.Log.{Log}
use Rattle.logs.specs.Comparison.{Logged, entry_at, log_room}

-- the columns of some entries
pub record Columns (entries : List Logged) (senders targets : List ℕ) : Type 0 where
  pub many : length senders ≡ length entries
  pub as_many : length targets ≡ length entries
  pub sender : (k : ℕ) → k < length entries → get_or senders k 0 ≡ (entry_at entries k).sender
  pub target : (k : ℕ) → k < length entries → get_or targets k 0 ≡ (entry_at entries k).target

-- no entry
abbrev pub no_entry : LogEntry
no_entry = record { sender = 0; target = 0; count = 0; words = [] }

-- the sender and the target of an entry
abbrev pub pair_of : LogEntry → Pair
pair_of entry = record { sender = entry.sender; target = entry.target }

-- a log that is not refused
pub record Good (log : Log) : Type 0 where
  pub few : log.len ≤ log_room
  pub small : (i : ℕ) → i < log.len → (get_or log.entries i no_entry).count ≤ word_limit
