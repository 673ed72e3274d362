-- The linearization computed on one trace: with a thread number of 200, a second begin, a cancel at a held lock, and a target that does not exist.
use mathlib.Core.Path.{◌≡◌, refl, ap, ◌∙◌}
use mathlib.Core.Option.{none, some}
use mathlib.Core.List.{List, [], ◌∷◌, ◌++◌}
use native.Mathlib.Omega.{arith}
use lib.ListN.{replicate}
use Rattle.model.specs.declared.Operation.{Operation}
use Rattle.model.specs.declared.Receive.TheVariants.{Absent}
use Rattle.model.specs.Answers.{accepted, moved, refused, replied}
use Rattle.model.specs.Threads.{new_table}
use Rattle.model.specs.Calls.{Call, begin, step, cancel, State}
use Rattle.model.specs.Promise.{state}
use Rattle.model.specs.Atomic.{begins, rendezvous}
use Rattle.model.specs.Linearization.{Entry}
use Rattle.model.specs.Linearized.{linearization}
use Rattle.model.specs.Examples.{worked, send_to, receive_only, open_for, steps}
use Rattle.model.proofs.Computing.{computing}
use Rattle.model.proofs.Traces.{trace_of, trace_of-calls, calls_of_trace}
use Rattle.linearization.proofs.Applied.{entries, entries_computed}

-- a message of one word to thread 1
abbrev hello : Operation
hello = send_to 1 (250 ∷ []) 15 Absent

-- a call of a thread that does not exist
abbrev to_nobody : Operation
to_nobody = send_to 2 [] 15 (open_for 15)

-- an open receive
abbrev open_receive : Operation
open_receive = receive_only (open_for 15)

-- thread 200 begins, 0 begins twice, 1 is cancelled while 0 holds its lock, 1 calls nobody; then 1 receives from 0
abbrev calls : List Call
calls = begin 200 open_receive ∷ begin 0 hello ∷ begin 0 hello ∷ step 0 ∷ cancel 1 ∷ step 0 ∷ step 0 ∷ begin 1 to_nobody ∷ begin 1 open_receive ∷ steps 3 1 ++ steps 5 0

-- a new table of two threads, and a store of sevens
abbrev first : State
first = state (new_table 2) (replicate 16 7)

-- what the calls answer
pub calls-answered : (worked first calls).answers ≡
    refused 3 ∷ replied accepted ∷ refused 5 ∷ replied moved ∷ refused 4 ∷ replied moved ∷ replied moved ∷ replied accepted ∷ replied accepted
    ∷ replied moved ∷ replied moved ∷ replied moved ∷ replied moved ∷ replied moved ∷ replied moved ∷ replied moved ∷ replied moved ∷ []
unfolding computing
calls-answered = refl

-- the begins where they were accepted, and the rendezvous at the step that finishes the copy
abbrev expected : List Entry
expected =
    none ∷ some (begins 0 hello) ∷ none ∷ none ∷ none ∷ none ∷ none ∷ some (begins 1 to_nobody) ∷ some (begins 1 open_receive)
    ∷ none ∷ none ∷ none ∷ none ∷ none ∷ none ∷ none ∷ some (rendezvous 0 1) ∷ []

-- that is their linearization
pub calls_linearized : linearization first calls ≡ expected
unfolding computing
calls_linearized = refl

-- and it is what demand 3 gives for their trace
pub trace_linearized : entries 2 (omega arith) (omega arith) (replicate 16 7) refl (trace_of first calls) (trace_of-calls first calls) ≡ expected
trace_linearized =
    entries_computed 2 (omega arith) (omega arith) (replicate 16 7) refl (trace_of first calls) (trace_of-calls first calls)
    ∙ ap (linearization first) (calls_of_trace first calls) ∙ calls_linearized
