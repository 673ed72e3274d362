-- One name that opens every definition of this crate, and those of the model that they use.
use Prim.Native.Nat.{ℕ}
use Rattle.model.proofs.Computing.{computing as of_model}
use Rattle.language.specs.Words as Words
use Rattle.language.specs.Runs as Runs
use Rattle.language.specs.Grammar as Grammar
use Rattle.language.specs.Commands as Commands
use Rattle.language.specs.RecordText as RecordText
use Rattle.language.specs.ScheduleText as ScheduleText

unfoldable pub computing : ℕ
unfolding of_model Words.joined Words.lines Words.without_return Words.is_blank Words.starts_word Words.words Words.has_comma Words.pieces Words.is_digit Words.all_digits Words.is_number
    Words.grown Words.value Runs.each Runs.last_line Grammar.grammar Grammar.column Grammar.is_name Grammar.find_row Grammar.until_blank Grammar.number_letters Grammar.rest_letter Grammar.largest
    Grammar.least Grammar.takes_sign Grammar.takes_choice Grammar.most_more Commands.reasons Commands.reason_text Commands.is_negative Commands.choice_digits Commands.digits_of Commands.reason_for Commands.wrong_digits Commands.wrong_number Commands.kept Commands.read_number
    Commands.read_numbers Commands.read_more Commands.with_member Commands.read_members Commands.starts_with Commands.closed Commands.read_open Commands.read_closed Commands.read_one_of
    Commands.read_partners Commands.read_wait Commands.read_receive Commands.with_word Commands.read_words
    Commands.empty_send Commands.read_send Commands.read_parts Commands.with_parts Commands.complete Commands.read_rest Commands.read_row Commands.read_field
    Commands.from_words Commands.command_of RecordText.sent_words RecordText.send_text RecordText.receive_text RecordText.record_line RecordText.record_text
    RecordText.threads_of RecordText.kind_asked RecordText.records_asked RecordText.lawful_row RecordText.records_of ScheduleText.records_text ScheduleText.fault_text ScheduleText.totext
    ScheduleText.first_after ScheduleText.read_then ScheduleText.read_lines ScheduleText.read_text ScheduleText.tobytes
computing = 0
