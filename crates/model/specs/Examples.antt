-- Document 01, "Marked meetings": P1 to P12 as rows of a single table. `proofs/Examples` works each row out from the step rules.
use Rattle.std.specs.Prelude.{Bool, true, false, List, [], ◌∷◌, ◌++◌, ℕ, ◌-◌, ◌*◌, length, replicate, eqb}
use Rattle.std.proofs.Math.Option.{none, some}
use Rattle.model.specs.declared.Flags.{Flags}
use Rattle.model.specs.declared.Receive.{Receive}
use Rattle.model.specs.declared.Receive.TheVariants.{Absent, Open, Closed, OneOf}
use Rattle.model.specs.declared.Operation.{Operation}
use Rattle.model.specs.declared.Outcome.{Outcome}
use Rattle.model.specs.declared.Thread.{Thread}
use Rattle.model.specs.declared.Rule.{Rule}
use Rattle.model.specs.declared.Rules.{Rules}
use Rattle.model.specs.Answers.{Reply, accepted, marked, moved, held, asleep, Said, refused, replied}
use Rattle.model.specs.Lists.{up_to}
use Rattle.model.specs.Codes.{done, running, never_begun, no_receiver, receive_time_over, send_time_over, receive_cancelled, send_cancelled, nobody, code_only}
use Rattle.model.specs.Phases.{Phase, idle, lock, check, release, look, phase_of}
use Rattle.model.specs.Rules.{row_limit, zero_rule}
use Rattle.model.specs.Threads.{new_table, no_flags, at}
use Rattle.model.specs.Queues.{senders}
use Rattle.model.specs.Calls.{Call, begin, step, cancel, tick, State}
use Rattle.model.specs.Promise.{state, answer, next}
use Rattle.model.specs.Atomic.{begins, cancels, ticks, rendezvous, aborts}
use Rattle.model.specs.Linearization.{Entry}
use Rattle.model.specs.Linearized.{entry}

-- what a row shows of a thread
pub record Seen : Type 0 where
  pub phase : Phase
  pub flags : Flags
  pub owner : ℕ
  pub queue : List ℕ
  pub outcome : Outcome

-- what a row's calls answer and leave, and the event at each place
pub record Result : Type 0 where
  pub answers : List Said
  pub threads : List Seen
  pub store : List ℕ
  pub linearization : List Entry

-- the calls on a new table of n threads, with a store of sevens
pub record ExampleRow : Type 0 where
  pub n : ℕ
  pub calls : List Call
  pub result : Result

-- ---- working a row out
-- what some calls answer, the table and the store after them, and their linearization
pub record Worked : Type 0 where
  pub answers : List Said
  pub last : State
  pub linearization : List Entry

unfoldable pub worked : State → List Call → Worked
worked s [] = record { answers = []; last = s; linearization = [] }
worked s (c ∷ cs) =
    let after = next c s in
    let later = worked after cs in
    record { answers = answer c s ∷ later.answers; last = later.last; linearization = entry c s ∷ later.linearization }

-- what a row shows of a thread
unfoldable pub seen : Thread → Seen
seen h = record { phase = phase_of h.phase; flags = h.flags; owner = h.owner; queue = senders h; outcome = h.outcome }

-- a new table of n threads, and a store of sevens
abbrev pub first_state : ℕ → State
first_state n = state (new_table n) (replicate (8 * n) 7)

-- a row worked out from the step rules
unfoldable pub worked_out : ExampleRow → Result
worked_out row =
    let all = worked (first_state row.n) row.calls in
    record {
      answers = all.answers;
      threads = up_to row.n (λ x. seen (at all.last.table x));
      store = all.last.store;
      linearization = all.linearization;
    }

-- ---- short forms that the rows are written in
-- a send of some words, then a receive part
abbrev pub send_to : ℕ → List ℕ → ℕ → Receive → Operation
send_to target words time receive = record {
  send = record { present = true; target = target; count = length words; time = time; words = words ++ replicate (8 - length words) 0 };
  receive = receive;
}

-- a receive part alone
abbrev pub receive_only : Receive → Operation
receive_only receive = record { send = record { present = false; target = 0; count = 0; time = 0; words = replicate 8 0 }; receive = receive }

-- an open receive with a time code
abbrev pub open_for : ℕ → Receive
open_for time = Open (record { time = time; partner = 0 })

-- a receive closed on a partner, with a time code
abbrev pub closed_for : ℕ → ℕ → Receive
closed_for partner time = Closed (record { time = time; partner = partner })

-- a receive closed on a set, with a time code
abbrev pub one_of_for : ℕ → ℕ → Receive
one_of_for set time = OneOf time set

-- a row of rules: senders from a to b, targets from c to d, yes or no
abbrev pub rule : ℕ → ℕ → ℕ → ℕ → Bool → Rule
rule a b c d permits = record { senders = record { from = a; to = b }; targets = record { from = c; to = d }; permits = permits }

-- these rows
abbrev pub rules_of : List Rule → Rules
rules_of rows = record { rows = rows ++ replicate (row_limit - length rows) zero_rule; len = length rows }

-- k steps of thread x
abbrev pub steps : ℕ → ℕ → List Call
steps k x = replicate k (step x)

-- ipc, send, receiving, poll, mark as 0 or 1
abbrev pub flags : ℕ → ℕ → ℕ → ℕ → ℕ → Flags
flags i s r p m = record { ipc = eqb i 1; send = eqb s 1; receiving = eqb r 1; poll = eqb p 1; mark = eqb m 1 }

-- phase, flags, lock owner, queue, outcome
abbrev pub thread : Phase → Flags → ℕ → List ℕ → Outcome → Seen
thread p f owner queue outcome = record { phase = p; flags = f; owner = owner; queue = queue; outcome = outcome }

-- idle, no flag, a free lock, an empty queue
abbrev pub resting : Outcome → Seen
resting outcome = thread idle no_flags nobody [] outcome

-- the outcome of a completed receive
abbrev pub received_from : ℕ → ℕ → Outcome
received_from source count = record { code = done; source = source; count = count }

-- eight words of the store in front of the rest: as they were at first, or two words and six zeros
abbrev pub untouched : List ℕ → List ℕ
untouched rest = 7 ∷ 7 ∷ 7 ∷ 7 ∷ 7 ∷ 7 ∷ 7 ∷ 7 ∷ rest

abbrev pub words : ℕ → ℕ → List ℕ → List ℕ
words a b rest = a ∷ b ∷ 0 ∷ 0 ∷ 0 ∷ 0 ∷ 0 ∷ 0 ∷ rest

-- ---- the table
pub data Name : Type 0 where
  P1 P2 P3 P4 P5 P6 P7 P8 P9 P10 P11 P12 : Name

unfoldable pub row : Name → ExampleRow
-- P1: "N 2; 1 begins open receive, code 15; 0 begins send to 1, word 250, code 15; five steps of 0, one of 1"
row P1 = record {
  n = 2;
  calls = begin 1 (receive_only (open_for 15)) ∷ begin 0 (send_to 1 (250 ∷ []) 15 Absent) ∷ steps 5 0 ++ steps 1 1;
  result = record {
    answers = replied accepted ∷ replied accepted ∷ replied moved ∷ replied moved ∷ replied moved ∷ replied moved ∷ replied moved ∷ replied moved ∷ [];
    threads = resting (code_only done) ∷ resting (received_from 0 1) ∷ [];
    store = words 0 0 (words 250 0 []);
    linearization = some (begins 1 (receive_only (open_for 15))) ∷ some (begins 0 (send_to 1 (250 ∷ []) 15 Absent)) ∷ none ∷ none ∷ none ∷ some (rendezvous 0 1) ∷ none ∷ none ∷ [];
  };
}
-- P2: "N 2, send to 2: -2, idle"
row P2 = record {
  n = 2;
  calls = begin 0 (send_to 2 (250 ∷ []) 15 Absent) ∷ steps 1 0;
  result = record {
    answers = replied accepted ∷ replied Reply.idle ∷ [];
    threads = resting (code_only no_receiver) ∷ resting (code_only never_begun) ∷ [];
    store = words 0 0 (untouched []);
    linearization = some (begins 0 (send_to 2 (250 ∷ []) 15 Absent)) ∷ none ∷ [];
  };
}
-- P3: "send code 0 to an idle thread; lock, check: -4"
row P3 = record {
  n = 2;
  calls = begin 0 (send_to 1 (250 ∷ []) 0 Absent) ∷ steps 2 0;
  result = record {
    answers = replied accepted ∷ replied moved ∷ replied moved ∷ [];
    threads = thread release no_flags nobody [] (code_only send_time_over) ∷ thread idle no_flags 0 [] (code_only never_begun) ∷ [];
    store = words 0 0 (untouched []);
    linearization = some (begins 0 (send_to 1 (250 ∷ []) 0 Absent)) ∷ none ∷ some (aborts 0 send_time_over) ∷ [];
  };
}
-- P4: "open receive code 0, empty queue, look: -3"
row P4 = record {
  n = 2;
  calls = begin 0 (receive_only (open_for 0)) ∷ steps 1 0;
  result = record {
    answers = replied accepted ∷ replied moved ∷ [];
    threads = resting (code_only receive_time_over) ∷ resting (code_only never_begun) ∷ [];
    store = words 0 0 (untouched []);
    linearization = some (begins 0 (receive_only (open_for 0))) ∷ some (aborts 0 receive_time_over) ∷ [];
  };
}
-- P5: "N 3, 0 closed on 1; 2 sends to 0, code 0: -4, 0 still running"
row P5 = record {
  n = 3;
  calls = begin 0 (receive_only (closed_for 1 15)) ∷ begin 2 (send_to 0 (5 ∷ []) 0 Absent) ∷ steps 2 2;
  result = record {
    answers = replied accepted ∷ replied accepted ∷ replied moved ∷ replied moved ∷ [];
    threads = thread look (flags 1 0 1 0 0) 2 [] (code_only running) ∷ resting (code_only never_begun) ∷ thread release no_flags nobody [] (code_only send_time_over) ∷ [];
    store = words 0 0 (untouched (words 0 0 []));
    linearization = some (begins 0 (receive_only (closed_for 1 15))) ∷ some (begins 2 (send_to 0 (5 ∷ []) 0 Absent)) ∷ none ∷ some (aborts 2 send_time_over) ∷ [];
  };
}
-- P6: "sender asleep, cancel, three steps: -6"
row P6 = record {
  n = 2;
  calls = begin 0 (send_to 1 (5 ∷ []) 15 Absent) ∷ steps 4 0 ++ cancel 0 ∷ steps 3 0;
  result = record {
    answers = replied accepted ∷ replied moved ∷ replied moved ∷ replied moved ∷ replied asleep ∷ replied marked ∷ replied moved ∷ replied moved ∷ replied moved ∷ [];
    threads = thread release no_flags nobody [] (code_only send_cancelled) ∷ thread idle no_flags 0 [] (code_only never_begun) ∷ [];
    store = words 0 0 (untouched []);
    linearization = some (begins 0 (send_to 1 (5 ∷ []) 15 Absent)) ∷ none ∷ none ∷ none ∷ none ∷ some (cancels 0) ∷ none ∷ none ∷ some (aborts 0 send_cancelled) ∷ [];
  };
}
-- P7: "waiting receiver, cancel, step: -5"
row P7 = record {
  n = 2;
  calls = begin 0 (receive_only (open_for 15)) ∷ steps 1 0 ++ cancel 0 ∷ steps 1 0;
  result = record {
    answers = replied accepted ∷ replied asleep ∷ replied marked ∷ replied moved ∷ [];
    threads = resting (code_only receive_cancelled) ∷ resting (code_only never_begun) ∷ [];
    store = words 0 0 (untouched []);
    linearization = some (begins 0 (receive_only (open_for 15))) ∷ none ∷ some (cancels 0) ∷ some (aborts 0 receive_cancelled) ∷ [];
  };
}
-- P8: "0 owns 1's lock: step of 1 answers held, cancel of 1 returns 4"
row P8 = record {
  n = 2;
  calls = begin 0 (send_to 1 [] 15 Absent) ∷ steps 1 0 ++ step 1 ∷ cancel 1 ∷ [];
  result = record {
    answers = replied accepted ∷ replied moved ∷ replied held ∷ refused 4 ∷ [];
    threads = thread check (flags 1 1 0 1 0) nobody [] (code_only running) ∷ thread idle no_flags 0 (0 ∷ []) (code_only never_begun) ∷ [];
    store = words 0 0 (untouched []);
    linearization = some (begins 0 (send_to 1 [] 15 Absent)) ∷ none ∷ none ∷ none ∷ [];
  };
}
-- P9: "0 then 2 queue at open receiver 1; only 2 steps: 2 delivers"
row P9 = record {
  n = 3;
  calls = begin 1 (receive_only (open_for 15)) ∷ begin 0 (send_to 1 (5 ∷ []) 15 Absent) ∷ begin 2 (send_to 1 (6 ∷ []) 15 Absent) ∷ steps 4 2;
  result = record {
    answers = replied accepted ∷ replied accepted ∷ replied accepted ∷ replied moved ∷ replied moved ∷ replied moved ∷ replied moved ∷ [];
    threads = thread lock (flags 1 1 0 0 0) nobody [] (code_only running) ∷ thread look no_flags 2 (0 ∷ []) (received_from 2 1) ∷ thread release no_flags nobody [] (code_only done) ∷ [];
    store = words 0 0 (words 6 0 (words 0 0 []));
    linearization =
        some (begins 1 (receive_only (open_for 15))) ∷ some (begins 0 (send_to 1 (5 ∷ []) 15 Absent)) ∷ some (begins 2 (send_to 1 (6 ∷ []) 15 Absent))
        ∷ none ∷ none ∷ none ∷ some (rendezvous 2 1) ∷ [];
  };
}
-- P10: "0 calls 1; 1 replies with send code 0: succeeds"
row P10 = record {
  n = 2;
  calls =
      begin 1 (receive_only (open_for 15)) ∷ begin 0 (send_to 1 (5 ∷ []) 15 (closed_for 1 15)) ∷ steps 5 0 ++ steps 1 1
      ++ begin 1 (send_to 0 (6 ∷ 7 ∷ []) 0 Absent) ∷ steps 5 1;
  result = record {
    answers = replied accepted ∷ replied accepted ∷ replied moved ∷ replied moved ∷ replied moved ∷ replied moved ∷ replied moved ∷ replied moved ∷ replied accepted ∷ replied moved ∷ replied moved ∷ replied moved ∷ replied moved ∷ replied moved ∷ [];
    threads = thread look no_flags 1 [] (received_from 1 2) ∷ thread release no_flags nobody [] (code_only done) ∷ [];
    store = words 6 7 (words 0 0 []);
    linearization =
        some (begins 1 (receive_only (open_for 15))) ∷ some (begins 0 (send_to 1 (5 ∷ []) 15 (closed_for 1 15)))
        ∷ none ∷ none ∷ none ∷ some (rendezvous 0 1) ∷ none ∷ none
        ∷ some (begins 1 (send_to 0 (6 ∷ 7 ∷ []) 0 Absent)) ∷ none ∷ none ∷ none ∷ none ∷ some (rendezvous 1 0) ∷ [];
  };
}
-- P11: "no words: lock, check, finish, release; count 0"
row P11 = record {
  n = 2;
  calls = begin 1 (receive_only (open_for 15)) ∷ begin 0 (send_to 1 [] 15 Absent) ∷ steps 4 0;
  result = record {
    answers = replied accepted ∷ replied accepted ∷ replied moved ∷ replied moved ∷ replied moved ∷ replied moved ∷ [];
    threads = resting (code_only done) ∷ thread look no_flags nobody [] (received_from 0 0) ∷ [];
    store = words 0 0 (words 0 0 []);
    linearization = some (begins 1 (receive_only (open_for 15))) ∷ some (begins 0 (send_to 1 [] 15 Absent)) ∷ none ∷ none ∷ some (rendezvous 0 1) ∷ none ∷ [];
  };
}
-- P12: "send code 1, asleep, tick, three steps: -4"
row P12 = record {
  n = 2;
  calls = begin 0 (send_to 1 (5 ∷ []) 1 Absent) ∷ steps 4 0 ++ tick ∷ steps 3 0;
  result = record {
    answers = replied accepted ∷ replied moved ∷ replied moved ∷ replied moved ∷ replied asleep ∷ replied accepted ∷ replied moved ∷ replied moved ∷ replied moved ∷ [];
    threads = thread release no_flags nobody [] (code_only send_time_over) ∷ thread idle no_flags 0 [] (code_only never_begun) ∷ [];
    store = words 0 0 (untouched []);
    linearization = some (begins 0 (send_to 1 (5 ∷ []) 1 Absent)) ∷ none ∷ none ∷ none ∷ none ∷ some ticks ∷ none ∷ none ∷ some (aborts 0 send_time_over) ∷ [];
  };
}
