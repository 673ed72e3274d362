-- "The lines `table N`, `begin`, `step X`, `cancel X` and `tick` are also the text of a schedule, a line for each record".
use Rattle.std.specs.Prelude.{Bool, true, false, cond, ◌&&◌, List, [], ◌∷◌, ◌++◌, map, ℕ, eqb, leb, get_or, replicate}
use Rattle.std.proofs.Math.Option.{Option, none, some}
use Rattle.model.specs.declared.SendPart.{SendPart}
use Rattle.model.specs.declared.Receive.{Receive}
use Rattle.model.specs.declared.Receive.TheVariants.{Absent, Open, Closed, OneOf}
use Rattle.model.specs.declared.Operation.{Operation}
use Rattle.model.specs.declared.Record.{Record}
use Rattle.model.specs.Lists.{up_to}
use Rattle.model.specs.Operations.{names_set}
use Rattle.model.specs.RecordBytes.{table_kind, begin_kind, step_kind, cancel_kind, tick_kind, set_kind, is_begin}
use Rattle.model.specs.Encoding.{lawful_record}
use Rattle.model.specs.Bondtrace.{ascii, spaced}
use Rattle.language.specs.Commands.{Command, skipped, wrong, asked}

-- ---- the text of a record
-- as many words as the count; those past the eighth are not kept, and 0 stands for them
unfoldable pub sent_words : SendPart → List ℕ
sent_words send = up_to send.count (λ i. get_or send.words i 0)

-- "a send part `send T CODE WORD ..` or none"
unfoldable pub send_text : SendPart → List ℕ
send_text send = cond send.present (ascii " send" ++ spaced (send.target ∷ send.time ∷ sent_words send)) []

-- "a receive part `receive any CODE`, `receive P CODE` or none"; closed on a set, "`receive set M CODE`"
unfoldable pub receive_text : Receive → List ℕ
receive_text Absent = []
receive_text (Open wait) = ascii " receive any" ++ spaced (wait.time ∷ [])
receive_text (Closed wait) = ascii " receive" ++ spaced (wait.partner ∷ wait.time ∷ [])
receive_text (OneOf time set) = ascii " receive set" ++ spaced (set ∷ time ∷ [])

-- the line of a record
unfoldable pub record_line : Record → List ℕ
record_line r =
    let thread = spaced (r.thread ∷ []) in
    cond (eqb r.kind table_kind) (ascii "table" ++ thread)
    (cond (is_begin r.kind) (ascii "begin" ++ thread ++ send_text r.op.send ++ receive_text r.op.receive)
    (cond (eqb r.kind step_kind) (ascii "step" ++ thread)
    (cond (eqb r.kind cancel_kind) (ascii "cancel" ++ thread) (ascii "tick"))))

-- with what ends it
unfoldable pub record_text : Record → List ℕ
record_text r = record_line r ++ ascii "\n"

-- ---- the records of a line
-- "`step X Y ..` and `tick K` mean as many records": the thread of each
unfoldable pub threads_of : ℕ → List ℕ → List ℕ
threads_of kind numbers = cond (eqb kind tick_kind) (replicate (get_or numbers 0 1) 0) numbers

-- the kind of the records of a line: the first rows of the grammar are the kinds, but "`receive set M CODE` is kind 5"
unfoldable pub kind_asked : ℕ → Operation → ℕ
kind_asked row operation = cond (eqb row begin_kind && names_set operation.receive) set_kind row

-- the records that a command stands for
unfoldable pub records_asked : ℕ → List ℕ → Operation → List Record
records_asked row numbers operation = map (λ thread. record { kind = kind_asked row operation; thread = thread; op = operation }) (threads_of row numbers)

-- each record is lawful where it stands, the first of them told whether it is the first
unfoldable pub lawful_row : Bool → List Record → Bool
lawful_row first [] = true
lawful_row first (r ∷ later) = lawful_record first r && lawful_row false later

-- the records of a line, told whether they are the first; none where it is no such line
unfoldable pub records_of : Bool → Command → Option (List Record)
records_of first skipped = some []
records_of first (wrong reason word) = none
records_of first (asked row numbers operation) =
    let records = records_asked row numbers operation in
    cond (leb row tick_kind && lawful_row first records) (some records) none
