-- Document 01, "Schedule bytes": writing one record, told whether it is the first.
use Rattle.std.specs.Prelude.{Bool, true, not, cond, ◌&&◌, List, [], ◌∷◌, ◌++◌, map, ◌≡◌, ℕ, ◌+◌, ◌*◌, ◌/◌, ◌%◌, eqb, leb, drop, length}
use Rattle.model.specs.declared.Receive.{Receive}
use Rattle.model.specs.declared.Receive.TheVariants.{Absent, Open, Closed, OneOf}
use Rattle.model.specs.declared.Operation.{Operation}
use Rattle.model.specs.declared.Record.{Record}
use Rattle.model.specs.declared.Answer.{Answer}
use Rattle.model.specs.Operations.{has_receive, receive_time, open_part, names_set}
use Rattle.model.specs.RecordBytes.{is_begin, lawful}
use Rattle.model.specs.Lists.{implies, all_of, bit, concat}
use Rattle.model.specs.Answers.{Said, said, accepted, refused, replied}
use Rattle.model.specs.Refusals.{Row, first_refusal, unless}

-- the partner that a receive part holds; 0 without one
abbrev pub partner_of : Receive → ℕ
partner_of Absent = 0
partner_of (Open w) = w.partner
partner_of (Closed w) = w.partner
partner_of (OneOf time set) = 0

-- a word, "low byte first"
unfoldable pub word_bytes : ℕ → List ℕ
word_bytes word = word % 256 ∷ word / 256 % 256 ∷ word / 65536 % 256 ∷ word / 16777216 % 256 ∷ []

-- the set that a receive part names; 0 without one
abbrev pub set_of : Receive → ℕ
set_of Absent = 0
set_of (Open w) = 0
set_of (Closed w) = 0
set_of (OneOf time set) = set

-- document 02, #104: "the set in four more bytes, low byte first", where the receive part names one
abbrev pub set_bytes : Receive → List ℕ
set_bytes r = cond (names_set r) (word_bytes (set_of r)) []

-- the parts byte of an operation
unfoldable pub parts_of : Operation → ℕ
parts_of o = bit o.send.present + 2 * bit (has_receive o.receive) + 4 * bit (open_part o.receive)

-- what stands past the fourth byte of a begin; "after the words" the set
unfoldable pub operation_bytes : Operation → List ℕ
operation_bytes o =
    parts_of o ∷ o.send.target ∷ partner_of o.receive ∷ o.send.count ∷ o.send.time ∷ receive_time o.receive
    ∷ concat (map word_bytes o.send.words) ++ set_bytes o.receive

-- the bytes of a record
unfoldable pub encode : Record → List ℕ
encode r = 0x4C ∷ 0x34 ∷ r.kind ∷ r.thread ∷ cond (is_begin r.kind) (operation_bytes r.op) []

-- each number of the list is 0
unfoldable pub all_zero : List ℕ → Bool
all_zero [] = true
all_zero (a ∷ l) = eqb a 0 && all_zero l

-- a record is lawful if its bytes are and, where it is no begin, it has no operation
unfoldable pub lawful_record : Bool → Record → Bool
lawful_record first r = all_of (lawful first (encode r) ∷ implies (not (is_begin r.kind)) (all_zero (operation_bytes r.op)) ∷ [])

-- "in writing, record unlawful or the lent run shorter than it"
unfoldable pub unwritable : Bool → Record → List ℕ → Row
unwritable first r buffer = record { when = not (lawful_record first r && leb (length (encode r)) (length buffer)); number = 12 }

-- the number by which writing is refused, or 0
unfoldable pub encode_refusal : Bool → Record → List ℕ → ℕ
encode_refusal first r buffer = first_refusal (unwritable first r buffer ∷ [])

-- what writing answers
unfoldable pub encode_answer : Bool → Record → List ℕ → Said
encode_answer first r buffer = unless (encode_refusal first r buffer) refused (replied accepted)

-- "writing leaves the lent run past the record unchanged"; refused, "the run unchanged"
unfoldable pub encode_buffer : Bool → Record → List ℕ → List ℕ
encode_buffer first r buffer = unless (encode_refusal first r buffer) (λ g. buffer) (encode r ++ drop (length (encode r)) buffer)

-- what writing a record promises of its answer and of the caller's bytes
pub record EncodePromise (first : Bool) (r : Record) (buffer : List ℕ) (a : Answer) (after : List ℕ) : Type 0 where
  pub answers : said a ≡ encode_answer first r buffer
  pub writes : after ≡ encode_buffer first r buffer
