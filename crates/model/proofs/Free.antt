-- The list of what document 01 leaves free, with what ours holds there. Each is settled by a definition; here it is said in one place.
use mathlib.Core.Path.{◌≡◌, refl, ◌∙◌}
use mathlib.Core.Logic.{◌≢◌}
use mathlib.Core.Bool.{Bool, true, false}
use mathlib.Core.List.{List, [], ◌∷◌, map}
use Prim.Native.Nat.{ℕ, suc, ◌+◌, ◌-◌, ◌*◌}
use lib.ListN.{length, get_or, set, drop, replicate}
use lib.Seq.{get_or-set_other, get_or-append-add, get_or-drop}
use lib.IntN.{ℤ}
use Rattle.model.specs.declared.Operation.{Operation}
use Rattle.model.specs.declared.Outcome.{Outcome}
use Rattle.model.specs.declared.Thread.{Thread}
use Rattle.model.specs.declared.Table.{Table}
use Rattle.model.specs.declared.Record.{Record}
use Rattle.model.specs.Answers.{accepted, replied}
use Rattle.model.specs.Codes.{no_receiver, nobody, code_only}
use Rattle.model.specs.Times.{never, tick_count, fall}
use Rattle.model.specs.Operations.{target_beyond}
use Rattle.model.specs.Lists.{implies, all_of, without, up_to}
use Rattle.model.specs.Phases.{Phase, phases, phase_of, phase_number}
use Rattle.model.specs.Threads.{no_operation, new_thread, new_table, edit, ended, without_receive}
use Rattle.model.specs.Queues.{senders, joined, departed}
use Rattle.model.specs.Step.{abort_send, start_copy, copy_word, finish_call, finish_send, free_target, abort_receive, take_sender, own_after, received, store_after}
use Rattle.model.specs.Store.{word_copied}
use Rattle.model.specs.Calls.{State, begun, begin_table}
use Rattle.model.specs.Refusals.{unless, make_refusal, outcome_refusal, report_refusal}
use Rattle.model.specs.Promise.{make_answer, made_table, outcome_place, report_answer}
use Rattle.model.specs.Atomic.{AtomicThread, first_machine, ending}
use Rattle.model.specs.Decoding.{decode_refusal, decode_answer, decode}
use Rattle.model.specs.RecordBytes.{is_begin, lawful}
use Rattle.model.specs.Encoding.{operation_bytes, encode, all_zero, lawful_record, encode_refusal, encode_answer}
use Rattle.model.specs.Bondtrace.{ascii, started}
use Rattle.model.proofs.Laws.{by}

-- what an ending leaves as it was: the operation, `left`, and the two numbers that belong to other phases
pub record Rest : Type 0 where
  pub operation : Operation
  pub left : ℕ
  pub copied : ℕ
  pub waking : ℕ

-- these of a thread
abbrev pub rest : Thread → Rest
rest h = record { operation = h.op; left = h.left; copied = h.copied; waking = h.waking }

-- 1. the table where none is made: one of no thread
pub unmade : (n g : ℕ) → make_refusal n ≡ suc g → made_table n ≡ new_table 0
unfolding made_table unless
unmade n g e = rw e refl

-- 2. the numbers of a new table's unused fields: zero
pub new-numbers : (new_thread.op ≡ no_operation) × (new_thread.queue.items ≡ replicate 32 0) × (new_thread.copied ≡ 0) × (new_thread.waking ≡ 0)
unfolding new_thread
new-numbers = (refl, refl, refl, refl)

-- 3. after -2: the thread ends as it stood, and no other is touched
pub target-beyond : (x : ℕ) (o : Operation) (t : Table) → target_beyond t.n o ≡ true → begin_table x o t ≡ edit x (ended (code_only no_receiver)) t
unfolding begin_table
target-beyond x o t e = rw e refl

-- and that ending leaves the rest of it as it was
pub after-beyond : (h : Thread) → rest (ended (code_only no_receiver) h) ≡ rest h
after-beyond h = refl

-- 4. after a completed send: the operation and `left` stay as they were
pub after-send : (h : Thread) → rest (own_after finish_send h) ≡ rest h
unfolding own_after
after-send h = refl

-- 5. after -5 and -3: the same
pub after-wait : (c : ℤ) (h : Thread) → rest (own_after (abort_receive c) h) ≡ rest h
unfolding own_after
after-wait c h = refl

-- 6. after a completed receive: the same, whatever phase the receiver is in
pub after-receive : (x : ℕ) (h r : Thread) → rest (received x h r) ≡ rest r
unfolding received departed
after-receive x h r = refl

-- 7. after -6 and -4: the same but for the receive part, which document 01 drops
pub after_abort : (c : ℤ) (h : Thread) → rest (own_after (abort_send c) h) ≡ rest (without_receive h)
unfolding own_after
after_abort c h = refl

-- 8. a call past its send part: the send part stays stored
pub after-first-part : (h : Thread) → (own_after finish_call h).op ≡ h.op
unfolding own_after
after-first-part h = refl

-- 9. words copied and the woken sender outside their phases: what they last were; a begin leaves them, and of the actions only `start_copy` and
-- `copy_word` change the one and only `take_sender` the other, as `own_after` is written
pub at-begin : (o : Operation) (p : Phase) (h : Thread) → ((begun o p h).copied ≡ h.copied) × ((begun o p h).waking ≡ h.waking)
unfolding begun
at-begin o p h = (refl, refl)

-- 10. queue places past the length: what they last held. Joining sets the place at the length alone; leaving keeps what stood from the last
-- sender's place on
pub at_join : (s i : ℕ) (h : Thread) → i ≢ h.queue.len → get_or (joined s h).queue.items i 0 ≡ get_or h.queue.items i 0
unfolding joined
at_join s i h d = get_or-set_other h.queue.items h.queue.len i s 0 d

-- the same of leaving
pub at_leave : (s i : ℕ) (h : Thread) → get_or (departed s h).queue.items (length (without s (senders h)) + i) 0 ≡ get_or h.queue.items (h.queue.len - 1 + i) 0
unfolding departed
at_leave s i h = get_or-append-add (without s (senders h)) (drop (h.queue.len - 1) h.queue.items) i 0 ∙ get_or-drop (h.queue.len - 1) h.queue.items i 0

-- 11. the record of a refused reading: all zero
pub no_record : (first : Bool) (bytes : List ℕ) (g : ℕ) → decode_refusal first bytes ≡ suc g → decode first bytes ≡ record { kind = 0; thread = 0; op = no_operation }
unfolding decode unless
no_record first bytes g e = rw e refl

-- 12. threads from N on: what they were when the table was made. No call changes them: the theorem `next-beyond` of the crate `invariant`

-- 13. the numbers of the phases: 0 to 8, in the order in which document 01 lists the phases of a step
pub phase-numbers : map phase_number phases ≡ up_to 9 (λ i. i)
unfolding up_to
phase-numbers = refl

-- and the phases of these numbers
pub number-phases : map phase_of (up_to 9 (λ i. i)) ≡ phases
unfolding up_to phase_of
number-phases = refl

-- 14. the owner of a lock that is free: 255, as the source that is none
pub no-owner : (nobody ≡ 255) × (new_thread.owner ≡ nobody)
unfolding new_thread
no-owner = (refl, refl)

-- 15. `left` of a thread whose time never runs out: 65535, and no tick lowers it
pub no_end : (never ≡ 65535) × (tick_count 15 ≡ never) × (fall never ≡ never)
unfolding tick_count fall
no_end = (refl, refl, refl)

-- 16. two fields that document 01 does not name: the words copied, which copying counts from 0, and the sender being woken, which look sets
pub two_fields : (s : ℕ) (h : Thread) → ((own_after start_copy h).copied ≡ 0) × ((own_after copy_word h).copied ≡ h.copied + 1) × ((own_after (take_sender s) h).waking ≡ s)
unfolding own_after
two_fields s h = (refl, refl, refl)

-- 17. the store that `bondtrace` starts with: zeros
pub first_store : (n : ℕ) → (started n).now.store ≡ replicate (8 * n) 0
unfolding started
first_store n = refl

-- 18. the fields of an operation that its parts do not use: begin stores them as they were passed
pub stored_as_passed : (o : Operation) (p : Phase) (h : Thread) → (begun o p h).op ≡ o
unfolding begun
stored_as_passed o p h = refl

-- 19. what is answered where document 01 names no reply: making a table, report, reading and writing answer accepted where they are not refused
pub made-reply : (n : ℕ) → make_refusal n ≡ 0 → make_answer n ≡ replied accepted
unfolding make_answer unless
made-reply n e = rw e refl

-- the same of report
pub report-reply : (t : Table) (records : List Outcome) → report_refusal t (length records) ≡ 0 → report_answer t records ≡ replied accepted
unfolding report_answer unless
report-reply t records e = rw e refl

-- of reading
pub read-reply : (first : Bool) (input : List ℕ) → decode_refusal first input ≡ 0 → decode_answer first input ≡ replied accepted
unfolding decode_answer unless
read-reply first input e = rw e refl

-- and of writing
pub written-reply : (first : Bool) (r : Record) (buffer : List ℕ) → encode_refusal first r buffer ≡ 0 → encode_answer first r buffer ≡ replied accepted
unfolding encode_answer unless
written-reply first r buffer e = rw e refl

-- 20. the order in which copy delivers the words: from the first on, each at its own place of the receiver's eight
pub copied_in_order : (h : Thread) (store : List ℕ)
    → store_after copy_word h store ≡ set store (8 * h.op.send.target + h.copied) (get_or h.op.send.words h.copied 0)
unfolding store_after word_copied
copied_in_order h store = refl

-- 21. `left` of the atomic machine where nothing runs: 0 at first, and after an ending as it was
pub atomic_left : (x : ℕ) (u : Outcome) (words : List ℕ) (p : AtomicThread) → ((first_machine x).left ≡ 0) × ((ending u words p).left ≡ p.left)
atomic_left x u words p = (refl, refl)

-- 22. the end of a printed line: byte 10, behind the last line too, as `final_text` and `bad_line` are written
pub line-end : ascii "\n" ≡ 10 ∷ []
unfolding ascii up_to
line-end = refl

-- 23. a record that is no begin and yet holds an operation: not lawful
pub operation-elsewhere : (first : Bool) (r : Record) → is_begin r.kind ≡ false → all_zero (operation_bytes r.op) ≡ false → lawful_record first r ≡ false
unfolding lawful_record all_of implies
operation-elsewhere first r k o = rw (k, o) (by (lawful first (encode r)) (λ e. rw e refl) (λ e. rw e refl))

-- 24. where in the store the empty slice starts that a refused outcome hands back: at its front
pub empty-at_the_front : (s : State) (x g : ℕ) → outcome_refusal s x ≡ suc g → outcome_place s x ≡ 0
unfolding outcome_place unless
empty-at_the_front s x g e = rw e refl

-- 25. of what no definition speaks: a program's exit status, which is 0; a read or a write that fails: the one ends the input, and what the other should
-- have written is lost; what is printed of an input of 2^63 bytes or more, of which the crate `end_printing` speaks

-- ---- not free, and told by no trace from a new table
-- release leaves the flags as they were, also where `send` is set and `poll` clear, as only a table that is passed in can have them
pub release_keeps_flags : (p : Phase) (h : Thread) → (own_after (free_target p) h).flags ≡ h.flags
unfolding own_after
release_keeps_flags p h = refl
