-- Document 01, "The table": the parts of an operation, which sender a receive part accepts, and a message's words.
use Rattle.std.specs.Prelude.{Bool, true, false, cond, ◌&&◌, ◌||◌, List, ℕ, ◌/◌, ◌%◌, ◌^◌, eqb, leb, get_or}
use Rattle.model.specs.declared.SendPart.{SendPart}
use Rattle.model.specs.declared.Receive.{Receive}
use Rattle.model.specs.declared.Receive.TheVariants.{Absent, Open, Closed, OneOf}
use Rattle.model.specs.declared.Operation.{Operation}
use Rattle.model.specs.Lists.{up_to}

-- an operation has a receive part
abbrev pub has_receive : Receive → Bool
has_receive Absent = false
has_receive (Open w) = true
has_receive (Closed w) = true
has_receive (OneOf time set) = true

-- the time code of a receive part
abbrev pub receive_time : Receive → ℕ
receive_time Absent = 0
receive_time (Open w) = w.time
receive_time (Closed w) = w.time
receive_time (OneOf time set) = time

-- the receive part is open
abbrev pub open_part : Receive → Bool
open_part Absent = false
open_part (Open w) = true
open_part (Closed w) = false
open_part (OneOf time set) = false

-- the receive part names a set
abbrev pub names_set : Receive → Bool
names_set Absent = false
names_set (Open w) = false
names_set (Closed w) = false
names_set (OneOf time set) = true

-- document 02, #104: s is a member of a set, "one bit of a 32-bit number each, thread 0 the lowest"
unfoldable pub member : ℕ → ℕ → Bool
member set s = eqb (set / 2 ^ s % 2) 1

-- document 02, #104: on whom the receive part is closed; "A closed wait on one partner is the set with one member"
abbrev pub partners : Receive → ℕ
partners Absent = 0
partners (Open w) = 0
partners (Closed w) = 2 ^ w.partner
partners (OneOf time set) = set

-- the receive part is closed on s
unfoldable pub closed_on : Receive → ℕ → Bool
closed_on r s = member (partners r) s

-- document 01's "acceptable": the receive part is "open or closed on s"
abbrev pub accepts : Receive → ℕ → Bool
accepts r s = open_part r || closed_on r s

-- "closed partner is N or more"; document 02, #104: "for every member", so a set that has a bit from N on
unfoldable pub closed_beyond : ℕ → Receive → Bool
closed_beyond n r = leb (2 ^ n) (partners r)

-- document 02, #104: "empty set"
abbrev pub empty_set : Receive → Bool
empty_set r = names_set r && eqb (partners r) 0

-- "`left` comes from the send code, else the receive code"
abbrev pub first_time : Operation → ℕ
first_time o = cond o.send.present o.send.time (receive_time o.receive)

-- "a target of N or more"
unfoldable pub target_beyond : ℕ → Operation → Bool
target_beyond n o = o.send.present && leb n o.send.target

-- "0 to 8 words"
abbrev pub word_limit : ℕ
word_limit = 8

-- document 02, #107: "at most 3 words"
abbrev pub spark_limit : ℕ
spark_limit = 3

-- the words of a message: the first `count` of the eight
unfoldable pub message : SendPart → List ℕ
message part = up_to part.count (λ i. get_or part.words i 0)
