-- Document 02, #112, worked out: what comparing answers, which logs are refused, and the logs of a run.
use mathlib.Core.Path.{◌≡◌, refl}
use mathlib.Core.List.{List, [], ◌∷◌, ◌++◌, map}
use Prim.Native.Nat.{ℕ, ◌-◌}
use lib.ListN.{length, replicate}
use Rattle.model.specs.Calls.{Call, begin, spark_begin, step}
use Rattle.model.specs.Threads.{no_operation}
use Rattle.model.specs.Examples.{first_state, send_to, receive_only, open_for, steps}
use Rattle.model.specs.declared.Receive.TheVariants.{Absent}
use Rattle.model.proofs.Traces.{trace_of}
use Rattle.model.proofs.Computing.{computing}
use Rattle.logs.specs.declared.LogEntry.{LogEntry}
use Rattle.logs.specs.declared.Log.{Log}
use Rattle.logs.specs.Comparison
use Rattle.logs.specs.Comparison.{Logged, agree, send, receive, refused, compare, log_room, compare_refusal, compare_answer}
use Rattle.logs.specs.OneRun
use Rattle.logs.specs.OneRun.{send_log, receive_log}

-- opens the definitions
unfoldable comparing : ℕ
unfolding computing Comparison.logged Comparison.entries_of Comparison.entry_at Comparison.same_pair Comparison.same_message Comparison.count_below Comparison.rank Comparison.mates
    Comparison.send_differs Comparison.receive_unsent Comparison.compare Comparison.bad_log Comparison.compare_refusal Comparison.compare_answer OneRun.send_log OneRun.receive_log
comparing = 0

-- an entry of so many words, and of all of them
abbrev counted : ℕ → ℕ → ℕ → List ℕ → LogEntry
counted s t count words = record { sender = s; target = t; count = count; words = words ++ replicate (8 - length words) 0 }

abbrev entry : ℕ → ℕ → List ℕ → LogEntry
entry s t words = counted s t (length words) words

-- a log of these
abbrev log_of : List LogEntry → Log
log_of entries = record { entries = entries ++ replicate (log_room - length entries) (entry 0 0 []); len = length entries }

-- ---- logs that agree
-- none; those of two senders, and of two targets, in another order; "Words past the count are not compared"
pub agreeing : (compare_answer (log_of []) (log_of []) ≡ agree)
    × (compare_answer (log_of (entry 1 2 (5 ∷ []) ∷ entry 3 2 [] ∷ entry 1 2 (6 ∷ []) ∷ [])) (log_of (entry 3 2 [] ∷ entry 1 2 (5 ∷ []) ∷ entry 1 2 (6 ∷ []) ∷ [])) ≡ agree)
    × (compare_answer (log_of (entry 1 2 (5 ∷ []) ∷ entry 1 3 (6 ∷ []) ∷ [])) (log_of (entry 1 3 (6 ∷ []) ∷ entry 1 2 (5 ∷ []) ∷ [])) ≡ agree)
    × (compare_answer (log_of (counted 1 2 1 (5 ∷ 6 ∷ []) ∷ [])) (log_of (counted 1 2 1 (5 ∷ 7 ∷ []) ∷ [])) ≡ agree)
unfolding comparing
agreeing = (refl, refl, refl, refl)

-- ---- the first send that differs, or has none
-- in its words; in its count; two of one sender and target in another order; one too many; another target; sender and target swapped
pub sends_differ : (compare_answer (log_of (entry 1 2 (5 ∷ 6 ∷ []) ∷ [])) (log_of (entry 1 2 (5 ∷ 7 ∷ []) ∷ [])) ≡ send 0)
    × (compare_answer (log_of (entry 1 2 (5 ∷ []) ∷ [])) (log_of (entry 1 2 (5 ∷ 0 ∷ []) ∷ [])) ≡ send 0)
    × (compare_answer (log_of (entry 3 2 [] ∷ entry 1 2 (5 ∷ []) ∷ entry 1 2 (6 ∷ []) ∷ [])) (log_of (entry 1 2 (6 ∷ []) ∷ entry 1 2 (5 ∷ []) ∷ entry 3 2 [] ∷ [])) ≡ send 1)
    × (compare_answer (log_of (entry 1 2 [] ∷ entry 1 2 [] ∷ [])) (log_of (entry 1 2 [] ∷ [])) ≡ send 1)
    × (compare_answer (log_of (entry 1 2 [] ∷ [])) (log_of (entry 1 3 [] ∷ [])) ≡ send 0)
    × (compare_answer (log_of (entry 1 2 [] ∷ [])) (log_of (entry 2 1 [] ∷ [])) ≡ send 0)
unfolding comparing
sends_differ = (refl, refl, refl, refl, refl, refl)

-- ---- "else the first receive whose rank has no send"
-- one too many; of a sender that sent nothing; where a send differs, that is told
pub receives-unsent : (compare_answer (log_of (entry 1 2 [] ∷ [])) (log_of (entry 1 2 [] ∷ entry 1 2 [] ∷ [])) ≡ receive 1)
    × (compare_answer (log_of (entry 1 2 [] ∷ [])) (log_of (entry 3 2 [] ∷ entry 1 2 [] ∷ entry 3 2 [] ∷ [])) ≡ receive 0)
    × (compare_answer (log_of (entry 1 2 [] ∷ entry 1 2 (5 ∷ []) ∷ [])) (log_of (entry 3 2 [] ∷ entry 1 2 [] ∷ entry 1 2 [] ∷ [])) ≡ send 1)
unfolding comparing
receives-unsent = (refl, refl, refl)

-- ---- "22, a log above 512 entries or a count above 8, before anything is compared"
-- a log of len entries, each of so many words
abbrev full : ℕ → ℕ → Log
full len count = record { entries = replicate 512 (counted 1 2 count []); len = len }

-- of 512 entries and of 513, of 8 words and of 9, in the log of receives and in that of sends; an entry past its end does not count
pub lengths-refused : map (λ (log : Log). compare_refusal (log_of []) log) (full 512 8 ∷ full 513 8 ∷ full 65535 0 ∷ full 1 9 ∷ full 0 9 ∷ []) ≡ 0 ∷ 22 ∷ 22 ∷ 22 ∷ 0 ∷ []
unfolding comparing
lengths-refused = refl

pub either-refused : (compare_answer (full 513 0) (log_of []) ≡ refused 22) × (compare_answer (log_of (counted 1 2 9 [] ∷ [])) (log_of []) ≡ refused 22) × (compare_answer (log_of (entry 1 2 [] ∷ [])) (full 513 0) ≡ refused 22)
unfolding comparing
either-refused = (refl, refl, refl)

-- ---- the logs of one run
-- 2 would send to 1, which is not ready, and aborts; it may not send to itself. 0 receives twice, and 1 sends it two words and then, through the other entry, none
abbrev run : List Call
run = begin 2 (send_to 1 (3 ∷ []) 0 Absent) ∷ steps 3 2 ++ (begin 2 (send_to 2 (4 ∷ []) 15 Absent) ∷ begin 0 (receive_only (open_for 15)) ∷ begin 1 (send_to 0 (8 ∷ 9 ∷ []) 15 Absent) ∷ step 0 ∷ steps 6 1
    ++ (step 0 ∷ begin 0 (receive_only (open_for 15)) ∷ spark_begin 1 (send_to 0 [] 15 Absent) ∷ steps 4 1))

-- an entry of a run's logs
abbrev says : ℕ → ℕ → List ℕ → Logged
says s t words = record { sender = s; target = t; count = length words; words = words }

pub run-logged : (send_log (λ x. no_operation) (first_state 3) (trace_of (first_state 3) run) ≡ says 1 0 (8 ∷ 9 ∷ []) ∷ says 1 0 [] ∷ [])
    × (receive_log (first_state 3) (trace_of (first_state 3) run) ≡ says 1 0 (8 ∷ 9 ∷ []) ∷ says 1 0 [] ∷ [])
unfolding comparing trace_of
run-logged = (refl, refl)
