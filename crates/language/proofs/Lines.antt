-- Lines and the commands that they are, worked out from the definitions: for each rule one that keeps it and one that does not.
use mathlib.Core.Bool.{true}
use mathlib.Core.Path.{◌≡◌, refl}
use mathlib.Core.List.{List, [], ◌∷◌, ◌++◌}
use Prim.Native.Nat.{ℕ, ◌+◌}
use Prim.Native.String.{String}
use lib.ListN.{replicate}
use Rattle.model.specs.declared.Receive.TheVariants.{Absent, Open, Closed, OneOf}
use Rattle.model.specs.declared.Operation.{Operation}
use Rattle.model.specs.declared.Receive.{Receive}
use Rattle.model.specs.Threads.{no_operation}
use Rattle.model.specs.Lists.{concat}
use Rattle.model.specs.Bondtrace.{ascii}
use Rattle.language.specs.Grammar.{first_field}
use Rattle.language.specs.Commands.{Command, skipped, wrong, asked, command_of, no_command, no_field, no_part, missing, not_number, too_large, too_small, too_much, too_long, no_choice}
use Rattle.language.proofs.Computing.{computing}

-- a line, and the command that it is
pub record LineRow : Type 0 where
  pub line : String
  pub command : Command

-- a row as it is written below: a command without an operation
abbrev asks : String → ℕ → List ℕ → LineRow
asks line row numbers = record { line = line; command = asked row numbers no_operation }

-- one that is no command: the reason, and the word that is wrong
abbrev refuses : String → ℕ → String → LineRow
refuses line reason word = record { line = line; command = wrong reason (ascii word) }

-- a receive part alone
abbrev receives : Receive → Operation
receives receive = record { send = no_operation.send; receive = receive }

-- the rows
pub data Name : Type 0 where
  empty comment blanks return leading steps step-and-more word_of-digits no-command prefix_of_one missing-one largest-byte above_a_byte a_tick ticks no-ticks ticks-again : Name
  nothing-begun an_open-wait a_call nine_words closed-wait neither-part too_much-behind flags not_a_flag code-below-zero sign_elsewhere only_a_sign field-missing no-field thread-missing : Name
  thread-past_the_array a_search searches_of_two a_spark spark_of_nobody : Name
  a-set largest-set above_a_set set_of_a_list set_of-nothing some-partners same-partner_twice partner-not-below_32 partner_of_letters any_and-more nobody-between_commas nobody-behind_a_comma partners-and-more : Name
  a_rule rule_that_forbids rule_of_neither rule_of_a_prefix rule_undecided rule_of_three rule-and-more all-rules rules_of-one : Name
  a_count count-too_long count_of-two the_places too_many-places : Name
  a_send send_of_no-words largest-word above_a_word send_of_letters send-to-nobody a_receive receive-from_256 both_logs logs_of_one : Name

-- the line and the command of each
unfoldable pub row : Name → LineRow
row empty = record { line = ""; command = skipped }
row comment = record { line = " # step 0"; command = skipped }
row blanks = asks "\tcancel \t 3  " 3 (3 ∷ [])
row return = asks "report\r" 6 []
row leading = asks "table 0032" 0 (32 ∷ [])
row steps = asks "step 0 0 255" 2 (0 ∷ 0 ∷ 255 ∷ [])
row step-and-more = refuses "step 0 x" not_number "x"
row word_of-digits = asks "store 320 4294967295" 9 (320 ∷ 4294967295 ∷ [])
row no-command = refuses "stpe 0" no_command "stpe"
row prefix_of_one = refuses "ste 0" no_command "ste"
row missing-one = refuses "cancel" missing ""
row largest-byte = asks "table 255" 0 (255 ∷ [])
row above_a_byte = refuses "table 256" too_large "256"
row a_tick = asks "tick" 4 []
row ticks = asks "tick 65535" 4 (65535 ∷ [])
row no-ticks = refuses "tick 0" too_small "0"
row ticks-again = refuses "tick 1 1" too_much "1"
row nothing-begun = asks "begin 7" 1 (7 ∷ [])
row an_open-wait = record { line = "begin 1 receive any 15"; command = asked 1 (1 ∷ []) (receives (Open (record { time = 15; partner = 0 }))) }
row closed-wait = record { line = "begin 1 receive 4 15"; command = asked 1 (1 ∷ []) (receives (Closed (record { time = 15; partner = 4 }))) }
row a_call = record {
  line = "begin 0 send 1 15 250 7 receive any 3";
  command = asked 1 (0 ∷ []) (record {
    send = record { present = true; target = 1; count = 2; time = 15; words = 250 ∷ 7 ∷ 0 ∷ 0 ∷ 0 ∷ 0 ∷ 0 ∷ 0 ∷ [] };
    receive = Open (record { time = 3; partner = 0 });
  });
}
row nine_words = record {
  line = "begin 0 send 1 15 1 2 3 4 5 6 7 8 9";
  command = asked 1 (0 ∷ []) (record {
    send = record { present = true; target = 1; count = 9; time = 15; words = 1 ∷ 2 ∷ 3 ∷ 4 ∷ 5 ∷ 6 ∷ 7 ∷ 8 ∷ [] };
    receive = Absent;
  });
}
row neither-part = refuses "begin 0 sent 1 15" no_part "sent"
row too_much-behind = refuses "begin 0 receive any 15 0" too_much "0"
row flags = asks "set 31 flags 1 0 0 0 1" first_field (31 ∷ 1 ∷ 0 ∷ 0 ∷ 0 ∷ 1 ∷ [])
row not_a_flag = refuses "set 0 present 2" too_large "2"
row code-below-zero = asks "set 0 outcome -6 255 0" (first_field + 4) (0 ∷ 1 ∷ 6 ∷ 255 ∷ 0 ∷ [])
row sign_elsewhere = refuses "set 0 outcome 0 -1 0" not_number "-1"
row only_a_sign = refuses "set 0 outcome - 255 0" not_number "-"
row field-missing = refuses "set 0" no_field ""
row no-field = refuses "set 0 flag 1" no_field "flag"
row thread-missing = refuses "set" missing ""
row thread-past_the_array = refuses "set 32 phase 0" too_large "32"
row a_search = asks "search 31" 14 (31 ∷ [])
row searches_of_two = refuses "search 0 1" too_much "1"
row a_spark = record { line = "spark 2 receive any 15"; command = asked 15 (2 ∷ []) (receives (Open (record { time = 15; partner = 0 }))) }
row spark_of_nobody = refuses "spark send 1 15" not_number "send"
row a-set = record { line = "begin 1 receive set 5 15"; command = asked 1 (1 ∷ []) (receives (OneOf 15 5)) }
row largest-set = record { line = "begin 1 receive set 4294967295 255"; command = asked 1 (1 ∷ []) (receives (OneOf 255 4294967295)) }
row above_a_set = refuses "begin 1 receive set 4294967296 15" too_large "4294967296"
row set_of_a_list = refuses "begin 1 receive set 1,2 15" not_number "1,2"
row set_of-nothing = refuses "begin 1 receive set" missing ""
row some-partners = record { line = "begin 1 receive 31,0,2 15"; command = asked 1 (1 ∷ []) (receives (OneOf 15 2147483653)) }
row same-partner_twice = record { line = "begin 1 receive 3,3 15"; command = asked 1 (1 ∷ []) (receives (OneOf 15 8)) }
row partner-not-below_32 = refuses "begin 1 receive 0,32 15" too_large "32"
row partner_of_letters = refuses "begin 1 receive 0,x,32 15" not_number "x"
row any_and-more = refuses "begin 1 receive any,1 15" not_number "any"
row nobody-between_commas = refuses "begin 1 receive 1,,2 15" not_number ""
row nobody-behind_a_comma = refuses "begin 1 receive 1, 15" not_number ""
row partners-and-more = refuses "begin 1 receive 1,2 15 3" too_much "3"
row a_rule = asks "rule 0 255 3 2 yes" 16 (0 ∷ 255 ∷ 3 ∷ 2 ∷ 1 ∷ [])
row rule_that_forbids = asks "rule 00 1 2 3 no" 16 (0 ∷ 1 ∷ 2 ∷ 3 ∷ 0 ∷ [])
row rule_of_neither = refuses "rule 0 1 2 3 1" no_choice "1"
row rule_of_a_prefix = refuses "rule 0 1 2 3 ye" no_choice "ye"
row rule_undecided = refuses "rule 0 1 2 3" no_choice ""
row rule_of_three = refuses "rule 0 1 2 yes" not_number "yes"
row rule-and-more = refuses "rule 0 1 2 3 yes no" too_much "no"
row all-rules = asks "rules" 17 []
row rules_of-one = refuses "rules 3" too_much "3"
row a_count = asks "count 65535" 18 (65535 ∷ [])
row count-too_long = refuses "count 65536" too_large "65536"
row count_of-two = refuses "count 1 2" too_much "2"
row the_places = asks "places 4200" 19 (4200 ∷ [])
row too_many-places = refuses "places 4201" too_large "4201"
row a_send = asks "sent 0 255 7 0 9" 20 (0 ∷ 255 ∷ 7 ∷ 0 ∷ 9 ∷ [])
row send_of_no-words = asks "sent 0 1" 20 (0 ∷ 1 ∷ [])
row largest-word = asks "sent 0 1 4294967295" 20 (0 ∷ 1 ∷ 4294967295 ∷ [])
row above_a_word = refuses "sent 0 1 2 4294967296" too_large "4294967296"
row send_of_letters = refuses "sent 0 1 2 x" not_number "x"
row send-to-nobody = refuses "sent 0" missing ""
row a_receive = asks "received 1 0 7" 21 (1 ∷ 0 ∷ 7 ∷ [])
row receive-from_256 = refuses "received 0 256" too_large "256"
row both_logs = asks "compare" 22 []
row logs_of_one = refuses "compare 0" too_much "0"

-- each line is the command that stands beside it
pub lines-read : (n : Name) → command_of (ascii (row n).line) ≡ (row n).command
unfolding computing row
lines-read empty = refl
lines-read comment = refl
lines-read blanks = refl
lines-read return = refl
lines-read leading = refl
lines-read steps = refl
lines-read step-and-more = refl
lines-read word_of-digits = refl
lines-read no-command = refl
lines-read prefix_of_one = refl
lines-read missing-one = refl
lines-read largest-byte = refl
lines-read above_a_byte = refl
lines-read a_tick = refl
lines-read ticks = refl
lines-read no-ticks = refl
lines-read ticks-again = refl
lines-read nothing-begun = refl
lines-read an_open-wait = refl
lines-read a_call = refl
lines-read nine_words = refl
lines-read closed-wait = refl
lines-read neither-part = refl
lines-read too_much-behind = refl
lines-read flags = refl
lines-read not_a_flag = refl
lines-read code-below-zero = refl
lines-read sign_elsewhere = refl
lines-read only_a_sign = refl
lines-read field-missing = refl
lines-read no-field = refl
lines-read thread-missing = refl
lines-read thread-past_the_array = refl
lines-read a_search = refl
lines-read searches_of_two = refl
lines-read a_spark = refl
lines-read spark_of_nobody = refl
lines-read a-set = refl
lines-read largest-set = refl
lines-read above_a_set = refl
lines-read set_of_a_list = refl
lines-read set_of-nothing = refl
lines-read some-partners = refl
lines-read same-partner_twice = refl
lines-read partner-not-below_32 = refl
lines-read partner_of_letters = refl
lines-read any_and-more = refl
lines-read nobody-between_commas = refl
lines-read nobody-behind_a_comma = refl
lines-read partners-and-more = refl
lines-read a_rule = refl
lines-read rule_that_forbids = refl
lines-read rule_of_neither = refl
lines-read rule_of_a_prefix = refl
lines-read rule_undecided = refl
lines-read rule_of_three = refl
lines-read rule-and-more = refl
lines-read all-rules = refl
lines-read rules_of-one = refl
lines-read a_count = refl
lines-read count-too_long = refl
lines-read count_of-two = refl
lines-read the_places = refl
lines-read too_many-places = refl
lines-read a_send = refl
lines-read send_of_no-words = refl
lines-read largest-word = refl
lines-read above_a_word = refl
lines-read send_of_letters = refl
lines-read send-to-nobody = refl
lines-read a_receive = refl
lines-read receive-from_256 = refl
lines-read both_logs = refl
lines-read logs_of_one = refl

-- ---- lines that are too long to stand in a row
-- "Words past the eighth are counted, to any number (300 words are refused 9 and do not wrap round), and not kept": the count stays at 255
pub many-words : command_of (ascii "begin 0 send 1 15" ++ concat (replicate 300 (ascii " 7")))
    ≡ asked 1 (0 ∷ []) (record { send = record { present = true; target = 1; count = 255; time = 15; words = replicate 8 7 }; receive = Absent })
unfolding computing
many-words = refl

-- every word of an entry is read: 264 words are not 8
pub many-sent : command_of (ascii "sent 0 1" ++ concat (replicate 264 (ascii " 7"))) ≡ asked 20 (0 ∷ 1 ∷ replicate 264 7) no_operation
unfolding computing
many-sent = refl

-- a line of 4,095 bytes is read
pub long-enough : command_of (ascii "#" ++ replicate 4094 32) ≡ skipped
unfolding computing
long-enough = refl

-- "line too long (above 4,095 bytes)"
pub too-long : command_of (ascii "#" ++ replicate 4095 32) ≡ wrong too_long []
unfolding computing
too-long = refl
