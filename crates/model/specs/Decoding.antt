-- Document 01, "Schedule bytes": reading one record, told whether it is the first.
use Rattle.std.specs.Prelude.{Bool, not, cond, List, [], ◌∷◌, ◌≡◌, ℕ, eqb, take}
use Rattle.model.specs.declared.Receive.{Receive}
use Rattle.model.specs.declared.Receive.TheVariants.{Absent, Open, Closed, OneOf}
use Rattle.model.specs.declared.Operation.{Operation}
use Rattle.model.specs.declared.Wait.{Wait}
use Rattle.model.specs.declared.Record.{Record}
use Rattle.model.specs.declared.Answer.{Answer}
use Rattle.model.specs.Threads.{no_operation}
use Rattle.model.specs.RecordBytes.{begin_kind, set_kind, set_word, record_length, kind_byte, thread_byte, parts_byte, target_byte, partner_byte, count_byte, send_time_byte, receive_time_byte, word_at, send_bit, receive_bit, open_bit, lawful}
use Rattle.model.specs.Answers.{Said, said, accepted, refused, replied}
use Rattle.model.specs.Refusals.{Row, first_refusal, unless}
use Rattle.model.specs.Lists.{up_to}

-- the receive part of a begin
abbrev pub receive_of : List ℕ → Receive
receive_of bytes =
    let wait : Wait = record { time = receive_time_byte bytes; partner = partner_byte bytes } in
    cond (receive_bit (parts_byte bytes)) (cond (open_bit (parts_byte bytes)) (Open wait) (Closed wait)) Absent

-- the operation of a begin
unfoldable pub operation_of : List ℕ → Operation
operation_of bytes = record {
  send = record {
    present = send_bit (parts_byte bytes);
    target = target_byte bytes;
    count = count_byte bytes;
    time = send_time_byte bytes;
    words = up_to 8 (word_at bytes);
  };
  receive = receive_of bytes;
}

-- the operation of a begin with a set
unfoldable pub set_operation_of : List ℕ → Operation
set_operation_of bytes = record { send = (operation_of bytes).send; receive = OneOf (receive_time_byte bytes) (set_word bytes) }

-- the operation of a record, by its kind
unfoldable pub operation_by : ℕ → List ℕ → Operation
operation_by kind bytes = cond (eqb kind begin_kind) (operation_of bytes) (cond (eqb kind set_kind) (set_operation_of bytes) no_operation)

-- the record that lawful bytes stand for
unfoldable pub record_of : List ℕ → Record
record_of bytes = record {
  kind = kind_byte bytes;
  thread = thread_byte bytes;
  op = operation_by (kind_byte bytes) bytes;
}

-- the bytes of the record at the front of an input; fewer where it is cut short
unfoldable pub front : List ℕ → List ℕ
front input = take (record_length (kind_byte input)) input

-- "record cut short, unlawful, or input empty"
unfoldable pub unreadable : Bool → List ℕ → Row
unreadable first input = record { when = not (lawful first (front input)); number = 12 }

-- the number by which reading is refused, or 0
unfoldable pub decode_refusal : Bool → List ℕ → ℕ
decode_refusal first input = first_refusal (unreadable first input ∷ [])

-- what reading answers
unfoldable pub decode_answer : Bool → List ℕ → Said
decode_answer first input = unless (decode_refusal first input) refused (replied accepted)

-- refused, the record is all zero
unfoldable pub decode : Bool → List ℕ → Record
decode first input = unless (decode_refusal first input) (λ g. record { kind = 0; thread = 0; op = no_operation }) (record_of (front input))

-- what reading a record promises
pub record DecodePromise (first : Bool) (input : List ℕ) (a : Answer) (item : Record) : Type 0 where
  pub answers : said a ≡ decode_answer first input
  pub reads : item ≡ decode first input
