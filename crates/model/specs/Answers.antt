-- Document 01's answers, and for each case of an answer enum the number or value that it stands for. Promises speak of these.
use Rattle.std.specs.Prelude.{ℕ, Result, Ok, Err}
use Rattle.model.specs.declared.Outcome.{Outcome}
use Rattle.model.specs.declared.Answer.{Answer}
use Rattle.model.specs.declared.Answer.TheVariants.{Refused, Accepted, Marked, NothingToCancel, Moved, Idle, Held, Wants, Asleep}

-- what a call answers where it is not refused
pub data Reply : Type 0 where
  accepted marked nothing_to_cancel moved idle held wants asleep : Reply

-- a refusal by its number, or a reply
pub data Said : Type 0 where
  refused : ℕ → Said
  replied : Reply → Said

-- what each case of `Answer` stands for
abbrev pub said : Answer → Said
said (Refused number) = refused number
said Accepted = replied accepted
said Marked = replied marked
said NothingToCancel = replied nothing_to_cancel
said Moved = replied moved
said Idle = replied idle
said Held = replied held
said Wants = replied wants
said Asleep = replied asleep

-- of an outcome: a refusal by its number, or code, source and count
pub data SaidOutcome : Type 0 where
  refused : ℕ → SaidOutcome
  shown : Outcome → SaidOutcome

-- what each case of an answer of the outcome call stands for: an `Err` has the number of a refusal
abbrev pub said_outcome : Result Outcome ℕ → SaidOutcome
said_outcome (Err number) = refused number
said_outcome (Ok outcome) = shown outcome

-- of a search: a refusal by its number, that the thread is not receiving, or the sender that it settles on, or nobody, and how many places it read
pub data SaidSearch : Type 0 where
  refused : ℕ → SaidSearch
  not_receiving : SaidSearch
  searched : ℕ → ℕ → SaidSearch

-- of the question whether a table is at rest: a refusal by its number, that it is, or the lowest thread whose step would move
pub data SaidRest : Type 0 where
  refused : ℕ → SaidRest
  resting : SaidRest
  would_move : ℕ → SaidRest
