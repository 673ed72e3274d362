-- Names that open definitions, one for each file and one for all: a proof that says `unfolding computing` works a closed case out.
-- The files of rows stand in a chain, `LawfulBytes` first and `Replays`, the dearest, last: each ends with a name, as `after_forbidden`, that opens what `computing` opens and rests on the rows
-- of its file, and the next file works its rows out by that name. So where a row fails, those behind it are refused at once, and a must-fail edit of the definitions costs about a third less.
use Prim.Native.Nat.{ℕ}
use Rattle.model.specs.Lists
use Rattle.model.specs.Codes
use Rattle.model.specs.Times
use Rattle.model.specs.Operations
use Rattle.model.specs.Phases
use Rattle.model.specs.Rules
use Rattle.model.specs.Threads
use Rattle.model.specs.Queues
use Rattle.model.specs.Locks
use Rattle.model.specs.Store
use Rattle.model.specs.WellFormed
use Rattle.model.specs.Step
use Rattle.model.specs.Calls
use Rattle.model.specs.Counting
use Rattle.model.specs.Refusals
use Rattle.model.specs.Promise
use Rattle.model.specs.Atomic
use Rattle.model.specs.Linearization
use Rattle.model.specs.Linearized
use Rattle.model.specs.Rest
use Rattle.model.specs.RecordBytes
use Rattle.model.specs.Decoding
use Rattle.model.specs.Encoding
use Rattle.model.specs.Schedule
use Rattle.model.specs.Bondtrace
use Rattle.model.specs.Examples
use Rattle.model.proofs.Replay

unfoldable pub lists : ℕ
unfolding Lists.implies Lists.all_of Lists.all_below Lists.first_below Lists.occurs Lists.same_numbers Lists.without Lists.place_where Lists.up_to Lists.update Lists.concat
lists = 0

unfoldable pub shared : ℕ
unfolding Codes.is_failure Times.is_time_code Times.is_left Times.is_hard Times.tick_count Times.fall Operations.member Operations.closed_on Operations.closed_beyond
    Operations.target_beyond Operations.message
shared = 0

unfoldable pub rules : ℕ
unfolding Rules.in_range Rules.holds_pair Rules.rows_in Rules.falls Rules.says_yes Rules.permits Rules.no_rules Rules.pair_or_none Rules.pairs_from Rules.pairs_below Rules.pair_misfit
    Rules.first_misfit Rules.misfit Rules.pair_of Rules.rules_fit
rules = 0

unfoldable pub threads : ℕ
unfolding Phases.phase_of Phases.is_one_of Threads.no_operation Threads.new_thread Threads.new_table Threads.at Threads.put Threads.edit Threads.edit_below
    Queues.senders Queues.joined Queues.departed Locks.lock_free Queues.search_place Queues.find_sender Queues.places_read Queues.ready Locks.lock_held Store.word_copied
    Store.words_at Store.zeroed
threads = 0

unfoldable pub clauses : ℕ
unfolding WellFormed.size_in_range WellFormed.in_phase WellFormed.is_code WellFormed.nobody_or_below WellFormed.send_in_range WellFormed.receive_in_range
    WellFormed.numbers_in_range WellFormed.ipc_with_running WellFormed.bare_unless_done WellFormed.not_with_itself WellFormed.send_and_mark_with_ipc
    WellFormed.poll_with_send WellFormed.receiving_with_part WellFormed.ipc_without_send WellFormed.idle_without_flags WellFormed.release_has_target
    WellFormed.receivers_send_clear WellFormed.senders_send_set WellFormed.copies_to_ready WellFormed.sends_to WellFormed.within WellFormed.owner_of
    WellFormed.chain WellFormed.each WellFormed.all_under WellFormed.queue_test WellFormed.owner_test WellFormed.chain_test WellFormed.clauses
    WellFormed.well_formed
clauses = 0

unfoldable pub steps : ℕ
unfolding Step.other Step.overdue Step.look_at Step.decide_in Step.decide Step.reply_of Step.own_after Step.received Step.other_after Step.act Step.store_after
steps = 0

unfoldable pub calls : ℕ
unfolding Calls.begun_flags Calls.begun Calls.begin_table Calls.cancel_table Calls.cancel_reply Calls.ticked Calls.tick_table Calls.accepted_reply
    Calls.accepted_state
calls = 0

unfoldable pub countings : ℕ
unfolding Counting.after_step Counting.after_steps Counting.step_lists Counting.length_used Counting.standing Counting.digit_of Counting.place_from Counting.place_of Counting.places
    Counting.count_of Counting.total
countings = 0

unfoldable pub refusals : ℕ
unfolding Refusals.first_refusal Refusals.unless Refusals.bad_size Refusals.not_well_formed Refusals.no_thread Refusals.bad_length Refusals.lock_owned
    Refusals.not_idle Refusals.neither_part Refusals.with_itself Refusals.no_partner Refusals.no_member Refusals.more_words Refusals.too_many_words Refusals.bad_time Refusals.not_permitted
    Refusals.bad_rules Refusals.too_many_to_count Refusals.table_rows
    Refusals.argument_rows Refusals.unruled_rows Refusals.begin_rows Refusals.later_rows Refusals.rows_of Refusals.refusal Refusals.make_refusal Refusals.outcome_refusal
    Refusals.search_refusal Refusals.report_refusal Refusals.count_refusal
refusals = 0

unfoldable pub promises : ℕ
unfolding Promise.answer Promise.next Promise.load_misfit Promise.make_answer Promise.made_table Promise.view Promise.outcome_answer Promise.outcome_words
    Promise.outcome_place Promise.search_answer Promise.report_answer Promise.report_after
    Promise.count_answer Promise.count_length Promise.counts_after
promises = 0

unfoldable pub events : ℕ
unfolding Atomic.beginning Atomic.cancelling Atomic.ticking Atomic.receiver_after Atomic.sender_after Atomic.play Atomic.reply Atomic.ready_for
events = 0

unfoldable pub traces : ℕ
unfolding Linearization.played Linearization.latest Linearization.pairs Linearization.fate
traces = 0

unfoldable pub replays : ℕ
unfolding Replay.none_acceptable Replay.abort_test Replay.can_test Replay.same_view Replay.agree
replays = 0

unfoldable pub orders : ℕ
unfolding Linearized.event_of Linearized.accepted_entry Linearized.entry Linearized.linearization
orders = 0

unfoldable pub rests : ℕ
unfolding Rest.step_stays Rest.at_rest Rest.no_lock_owned Rest.nobody_ready Rest.first_to_move Rest.rest_answer
rests = 0

unfoldable pub bytes : ℕ
unfolding RecordBytes.is_begin RecordBytes.record_length RecordBytes.word_at RecordBytes.send_bit RecordBytes.receive_bit RecordBytes.open_bit RecordBytes.lawful_begin
    RecordBytes.lawful_set RecordBytes.lawful Decoding.operation_of Decoding.set_operation_of Decoding.operation_by Decoding.record_of Decoding.front Decoding.unreadable Decoding.decode_refusal Decoding.decode_answer
    Decoding.decode Encoding.word_bytes Encoding.parts_of Encoding.operation_bytes Encoding.encode Encoding.all_zero Encoding.lawful_record
    Encoding.unwritable Encoding.encode_refusal Encoding.encode_answer Encoding.encode_buffer Schedule.read_from Schedule.decode_all Schedule.encode_all
bytes = 0

unfoldable pub texts : ℕ
unfolding Bondtrace.ascii Bondtrace.digits Bondtrace.decimal Bondtrace.signed Bondtrace.spaced Bondtrace.call_of Bondtrace.record_played Bondtrace.records_played
    Bondtrace.started Bondtrace.thread_line Bondtrace.final_text Bondtrace.bad_line Bondtrace.calls_text Bondtrace.reading_text Bondtrace.bondtrace
texts = 0

unfoldable pub rows : ℕ
unfolding Examples.worked Examples.seen Examples.worked_out Examples.row
rows = 0

unfoldable pub computing : ℕ
unfolding lists shared rules threads clauses steps calls countings refusals promises events traces orders rests replays bytes texts rows
computing = 0
