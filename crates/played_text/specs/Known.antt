-- What is known of a schedule that is played: how far it has come, the bytes behind that are kept, and how long its text is at most.
use Rattle.std.specs.Prelude.{◌≡◌, ◌⊎◌, Bool, true, false, List, [], ℕ, ◌-◌, ◌*◌, ◌≤◌, length, take, replicate}
use Rattle.model.specs.Refusals.{make_refusal}
use Rattle.model.specs.RecordBytes.{head_length, thread_byte, lawful}
use Rattle.model.specs.Bondtrace.{started}
use Rattle.pieces.specs.Pieces.{Piecewise, KeepsPace}
use Rattle.printing.specs.Texts.{longest_text}
use Rattle.opening.specs.declared.Playback.{Playback}
use Rattle.playing.specs.Playback.{tally_of}

-- a playback, its store and the bytes behind it, in the terms of `pieces`
unfoldable pub known : Bool → Playback → List ℕ → List ℕ → Piecewise
known bad t store rest = record { progress = record { tally = tally_of t store; taken = t.place - head_length; bad = bad }; rest = rest }

-- the playback, its store and the bytes behind it are what has come of a schedule that starts with the table record `head` and then `input`
pub record Reached (head input : List ℕ) (bad : Bool) (t : Playback) (store rest : List ℕ) : Type 0 where
  pub lawfully : lawful true head ≡ true
  pub made : make_refusal (thread_byte head) ≡ 0
  pub behind : head_length ≤ t.place
  pub paced : KeepsPace (started (thread_byte head)) input (known bad t store rest)

-- the playback is that of the table record at the front of the bytes, and nothing behind it was played
pub record Starts (t : Playback) (bytes : List ℕ) : Type 0 where
  pub reached : Reached (take head_length bytes) [] false t (replicate (8 * t.table.n) 0) []
  pub four : head_length ≤ length bytes
  pub place : t.place ≡ head_length

-- more may come behind these bytes and change nothing of the table record: they hold it, or nothing comes
abbrev pub Settled : List ℕ → List ℕ → Type 0
Settled bytes more = (head_length ≤ length bytes) ⊎ (more ≡ [])

-- the most bytes that are printed: the end of a schedule of 32 threads
abbrev pub longest_end : ℕ
longest_end = longest_text 32
