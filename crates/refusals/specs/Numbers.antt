-- The number that document 01's table gives each refusal, and 0 for none.
use Rattle.std.specs.Prelude.{ℕ, Result, Ok, Err}
use Rattle.refusals.specs.declared.Refusal.{Refusal}
use Rattle.refusals.specs.declared.Refusal.TheVariants.{BadSize, NotWellFormed, NoThread, LockOwned, NotIdle, NeitherPart, WithItself, NoPartner, TooManyWords, BadTime, BadLength, BadRecord, NotPermitted, BadRules, NoMember, TooManySparkWords}

-- "Returned"
abbrev pub number : Refusal → ℕ
number BadSize = 1
number NotWellFormed = 2
number NoThread = 3
number LockOwned = 4
number NotIdle = 5
number NeitherPart = 6
number WithItself = 7
number NoPartner = 8
number TooManyWords = 9
number BadTime = 10
number BadLength = 11
number BadRecord = 12
number NotPermitted = 13
number BadRules = 14
number NoMember = 15
number TooManySparkWords = 16

-- the number by which a call or a record is refused, or 0
abbrev pub number_of : {A : Type 0} → Result A Refusal → ℕ
number_of (Ok _) = 0
number_of (Err refusal) = number refusal
