-- Each clause of well-formedness counts, and of an "and" or an "exactly" each half: for each there is a table that breaks its clause and no other.
-- And a table that is odd only in what document 01's list does not ask is accepted.
use mathlib.Core.Path.{◌≡◌, refl}
use mathlib.Core.Bool.{Bool, true, false, cond}
use mathlib.Core.List.{List, [], ◌∷◌}
use Prim.Native.Nat.{ℕ, suc}
use lib.ListN.{replicate}
use lib.IntN.{pos}
use Rattle.model.specs.declared.Receive.TheVariants.{Absent}
use Rattle.model.specs.declared.Operation.{Operation}
use Rattle.model.specs.declared.Table.{Table}
use Rattle.model.specs.Codes.{done, running, never_begun, nobody, code_only}
use Rattle.model.specs.Phases.{Phase, idle, lock, check, copy, release, sleep, look, wake, unlock, unknown}
use Rattle.model.specs.Threads.{new_table, with_rules, edit, with_flags, entering, with_op, with_left, with_queue, with_owner, with_outcome, with_copied, with_waking, polled, marked, without_receive}
use Rattle.model.specs.WellFormed.{clauses, well_formed}
use Rattle.model.specs.Calls.{begin_table}
use Rattle.model.specs.Examples.{send_to, receive_only, open_for, closed_for, one_of_for, rule, rules_of, flags}
use Rattle.model.proofs.Forbidden.{after_forbidden}

-- the places of a list of tests at which one fails
unfoldable pub failing : ℕ → List Bool → List ℕ
failing k [] = []
failing k (b ∷ bs) = let later = failing (suc k) bs in cond b later (k ∷ later)

-- ---- tables of three threads, made by begins and by hand, so that no rule of a step comes in
-- 1 receives
unfoldable pub receiver : Table
receiver = begin_table 1 (receive_only (open_for 15)) (new_table 3)

-- 0 sends to 1
unfoldable pub sender : Table
sender = begin_table 0 (send_to 1 (5 ∷ []) 15 Absent) (new_table 3)

-- 0 sends to 1 and has its lock
unfoldable pub locker : Table
locker = edit 1 (with_owner 0) (edit 0 (λ h. entering check (polled true h)) sender)

-- 0 copies to 1
unfoldable pub copier : Table
copier = edit 1 (with_owner 0) (edit 0 (λ h. entering copy (polled true h)) (begin_table 0 (send_to 1 (5 ∷ []) 15 Absent) receiver))

-- 0 and 1 call each other
unfoldable pub crossed : Table
crossed = begin_table 0 (send_to 1 (5 ∷ []) 15 (open_for 15)) (begin_table 1 (send_to 0 (5 ∷ []) 15 (open_for 15)) (new_table 3))

-- 2 has begun an operation and is in a phase that holds the lock of 0, which sleeps at 1
unfoldable pub waker_in : Phase → Operation → Table
waker_in p o = edit 2 (λ h. entering p (with_waking 0 h)) (edit 0 (λ h. entering sleep (polled true (with_owner 2 h))) (begin_table 2 o sender))

-- 2 wakes 0, which sleeps at 1
unfoldable pub waker : Table
waker = waker_in wake (receive_only (open_for 15))

-- ---- a table for each clause, in the order of document 01's list
-- the tables, each by its clause's name; one more of the same clause by what is odd in it
pub data Clause : Type 0 where
  size numbers ipc_exactly ipc_with_other_code bare_outcome count_without_done with_others own_target own_member : Clause
  queues queued_twice stranger_queued owners owned_not_held chains : Clause
  send_and_mark send_without_ipc poll receiving receiving_without_part without_send idle_flags release_target : Clause
  send_clear send_in_wake send_in_unlock send_set no_send_in_lock no_send_in_check no_send_in_copy : Clause
  copies_to_marked copies_to_sending copies_to_other rules too_many_rules : Clause

-- the table itself
unfoldable pub broken : Clause → Table
broken size = new_table 0
broken numbers = edit 0 (entering unknown) (new_table 3)
broken ipc_exactly = edit 0 (with_outcome (code_only running)) (new_table 3)
broken ipc_with_other_code = edit 1 (with_outcome (code_only done)) receiver
broken bare_outcome = edit 0 (with_outcome (record { code = never_begun; source = 1; count = 0 })) (new_table 3)
broken count_without_done = edit 0 (with_outcome (record { code = never_begun; source = nobody; count = 1 })) (new_table 3)
broken with_others = edit 1 (with_op (receive_only (closed_for 1 15))) receiver
broken own_target = edit 1 (with_op (send_to 1 [] 15 (open_for 15))) receiver
broken own_member = edit 1 (with_op (receive_only (one_of_for 7 15))) receiver
broken queues = edit 1 (with_queue (record { items = replicate 32 0; len = 0 })) sender
broken queued_twice = edit 1 (with_queue (record { items = replicate 32 0; len = 2 })) sender
broken stranger_queued = edit 1 (with_queue (record { items = 0 ∷ 2 ∷ replicate 30 0; len = 2 })) sender
broken owners = edit 1 (with_owner nobody) locker
broken owned_not_held = edit 1 (with_owner 0) (new_table 3)
broken chains = edit 0 (λ h. entering check (with_owner 1 h)) (edit 1 (λ h. entering check (with_owner 0 h)) crossed)
broken send_and_mark = edit 0 (λ h. entering look (marked h)) (new_table 3)
broken send_without_ipc = edit 0 (λ h. with_outcome (code_only never_begun) (with_flags (flags 0 1 0 0 0) h)) sender
broken poll = edit 1 (polled true) receiver
broken receiving = edit 1 (with_flags (flags 1 0 0 0 0)) receiver
broken receiving_without_part = edit 0 (with_flags (flags 1 1 1 0 0)) sender
broken without_send = edit 1 (λ h. without_receive (with_flags (flags 1 0 0 0 0) h)) receiver
broken idle_flags = edit 1 (entering idle) receiver
broken release_target = edit 0 (λ h. entering release (with_op (send_to 3 [] 15 Absent) h)) (new_table 3)
broken send_clear = edit 0 (entering look) sender
broken send_in_wake = waker_in wake (send_to 1 [] 15 Absent)
broken send_in_unlock = waker_in unlock (send_to 1 [] 15 Absent)
broken send_set = edit 1 (entering sleep) receiver
broken no_send_in_lock = edit 1 (entering lock) receiver
broken no_send_in_check = edit 0 (with_owner 1) (edit 1 (entering check) receiver)
broken no_send_in_copy = edit 0 (with_owner 1) (edit 1 (entering copy) (begin_table 0 (receive_only (open_for 15)) receiver))
broken copies_to_marked = edit 1 marked copier
broken copies_to_sending = edit 1 (with_owner 0) (edit 0 (entering copy) crossed)
broken copies_to_other = edit 1 (with_op (receive_only (closed_for 2 15))) copier
broken rules = with_rules (rules_of (rule 0 2 0 1 true ∷ [])) (new_table 3)
broken too_many_rules = with_rules (rules_of (rule 0 2 0 2 true ∷ replicate 64 (rule 1 0 0 2 true))) (new_table 3)

-- the place of its clause in the list, counted from 0
unfoldable pub place : Clause → ℕ
place size = 0
place numbers = 1
place ipc_exactly = 2
place ipc_with_other_code = 2
place bare_outcome = 3
place count_without_done = 3
place with_others = 4
place own_target = 4
place own_member = 4
place queues = 5
place queued_twice = 5
place stranger_queued = 5
place owners = 6
place owned_not_held = 6
place chains = 7
place send_and_mark = 8
place send_without_ipc = 8
place poll = 9
place receiving = 10
place receiving_without_part = 10
place without_send = 11
place idle_flags = 12
place release_target = 13
place send_clear = 14
place send_in_wake = 14
place send_in_unlock = 14
place send_set = 15
place no_send_in_lock = 15
place no_send_in_check = 15
place no_send_in_copy = 15
place copies_to_marked = 16
place copies_to_sending = 16
place copies_to_other = 16
place rules = 17
place too_many_rules = 17

-- opens the tables above
unfoldable pub tables : ℕ
unfolding after_forbidden failing receiver sender locker copier crossed waker_in waker broken place
tables = 0

-- each table breaks its own clause and no other
pub clause_counts : (c : Clause) → failing 0 (clauses (broken c)) ≡ place c ∷ []
unfolding tables
clause_counts size = refl
clause_counts numbers = refl
clause_counts ipc_exactly = refl
clause_counts ipc_with_other_code = refl
clause_counts bare_outcome = refl
clause_counts count_without_done = refl
clause_counts with_others = refl
clause_counts own_target = refl
clause_counts own_member = refl
clause_counts queues = refl
clause_counts queued_twice = refl
clause_counts stranger_queued = refl
clause_counts owners = refl
clause_counts owned_not_held = refl
clause_counts chains = refl
clause_counts send_and_mark = refl
clause_counts send_without_ipc = refl
clause_counts poll = refl
clause_counts receiving = refl
clause_counts receiving_without_part = refl
clause_counts without_send = refl
clause_counts idle_flags = refl
clause_counts release_target = refl
clause_counts send_clear = refl
clause_counts send_in_wake = refl
clause_counts send_in_unlock = refl
clause_counts send_set = refl
clause_counts no_send_in_lock = refl
clause_counts no_send_in_check = refl
clause_counts no_send_in_copy = refl
clause_counts copies_to_marked = refl
clause_counts copies_to_sending = refl
clause_counts copies_to_other = refl
clause_counts rules = refl
clause_counts too_many_rules = refl

-- ---- "every number in use is in range": a table for each number, but for the queue's length, which no table breaks alone
pub data Number : Type 0 where
  phase target count send_time receive_time partner members no_members send_part release_part left owner code source word_count copied waking : Number

-- the table itself
unfoldable pub out_of_range : Number → Table
out_of_range phase = edit 0 (entering unknown) (new_table 3)
out_of_range target = edit 1 (with_op (send_to 3 [] 15 (open_for 15))) receiver
out_of_range count = edit 0 (with_op (record { send = record { present = true; target = 1; count = 9; time = 15; words = replicate 8 0 }; receive = Absent })) sender
out_of_range send_time = edit 0 (with_op (send_to 1 [] 16 Absent)) sender
out_of_range receive_time = edit 1 (with_op (receive_only (open_for 16))) receiver
out_of_range partner = edit 1 (with_op (receive_only (closed_for 3 15))) receiver
out_of_range members = edit 1 (with_op (receive_only (one_of_for 13 15))) receiver
out_of_range no_members = edit 1 (with_op (receive_only (one_of_for 0 15))) receiver
out_of_range send_part = edit 0 (with_op (record { send = record { present = false; target = 1; count = 0; time = 15; words = replicate 8 0 }; receive = Absent })) sender
out_of_range release_part = edit 0 (λ h. entering release (with_op (record { send = record { present = false; target = 1; count = 0; time = 0; words = replicate 8 0 }; receive = Absent }) h)) (edit 1 (with_owner 0) (new_table 3))
out_of_range left = edit 1 (with_left 20001) receiver
out_of_range owner = edit 0 (with_owner 3) (new_table 3)
out_of_range code = edit 0 (with_outcome (code_only (pos 3))) (new_table 3)
out_of_range source = edit 0 (with_outcome (record { code = done; source = 3; count = 0 })) (new_table 3)
out_of_range word_count = edit 0 (with_outcome (record { code = done; source = 1; count = 9 })) (new_table 3)
out_of_range copied = edit 0 (with_copied 2) copier
out_of_range waking = edit 2 (with_waking 3) (edit 0 (with_owner nobody) waker)

-- each table breaks the clause on numbers and no other
pub number_counts : (k : Number) → failing 0 (clauses (out_of_range k)) ≡ 1 ∷ []
unfolding tables out_of_range
number_counts phase = refl
number_counts target = refl
number_counts count = refl
number_counts send_time = refl
number_counts receive_time = refl
number_counts partner = refl
number_counts members = refl
number_counts no_members = refl
number_counts send_part = refl
number_counts release_part = refl
number_counts left = refl
number_counts owner = refl
number_counts code = refl
number_counts source = refl
number_counts word_count = refl
number_counts copied = refl
number_counts waking = refl

-- ---- what the list does not ask
pub data Odd : Type 0 where
  -- a woken sender that is not in the waker's queue; `poll` clear in check; `left` above its code's count; a count without a source;
  -- code 2 in release; numbers of an ended operation, or its empty set; a queue place past the length; a sender queued whom the rules
  -- do not permit; rows past those in use
  woken_elsewhere poll_clear left_above count_alone never_begun_in_release ended_numbers ended_set past_the_queue queued_against_rules past_the_rules : Odd

-- the table itself
unfoldable pub odd : Odd → Table
odd woken_elsewhere = waker
odd poll_clear = edit 0 (polled false) locker
odd left_above = edit 1 (λ h. with_left 20000 (with_op (receive_only (open_for 1)) h)) receiver
odd count_alone = edit 0 (with_outcome (record { code = done; source = nobody; count = 8 })) (new_table 3)
odd never_begun_in_release = edit 0 (λ h. entering release (with_op (send_to 1 [] 15 Absent) h)) (edit 1 (with_owner 0) (new_table 3))
odd ended_numbers = edit 0 (λ h. with_left 30000 (with_op (send_to 0 [] 99 (closed_for 99 99)) h)) (new_table 3)
odd ended_set = edit 0 (with_op (receive_only (one_of_for 0 15))) (new_table 3)
odd past_the_queue = edit 1 (with_queue (record { items = 77 ∷ replicate 31 0; len = 0 })) (new_table 3)
odd queued_against_rules = with_rules (rules_of (rule 0 2 0 2 false ∷ [])) sender
odd past_the_rules = with_rules (record { rows = replicate 64 (rule 0 2 0 2 true); len = 1 }) (new_table 3)

-- each of them is well-formed
pub odd-accepted : (k : Odd) → well_formed (odd k) ≡ true
unfolding tables odd
odd-accepted woken_elsewhere = refl
odd-accepted poll_clear = refl
odd-accepted left_above = refl
odd-accepted count_alone = refl
odd-accepted never_begun_in_release = refl
odd-accepted ended_numbers = refl
odd-accepted ended_set = refl
odd-accepted past_the_queue = refl
odd-accepted queued_against_rules = refl
odd-accepted past_the_rules = refl

-- opens what the rows of the next file are worked out from, once those of this file hold
unfoldable pub after_clauses : ℕ
unfolding after_forbidden
after_clauses = let first = clause_counts in let second = number_counts in let third = odd-accepted in 0
