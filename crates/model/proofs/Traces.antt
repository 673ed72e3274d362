-- Every list of calls has its trace, so the statement about traces speaks of every list of calls.
use mathlib.Core.Path.{◌≡◌, refl, ap}
use mathlib.Core.List.{List, [], ◌∷◌, map}
use Rattle.model.specs.Calls.{Call, State}
use Rattle.model.specs.Promise.{answer, next}
use Rattle.model.specs.Linearization.{Observed, Trace}
use Rattle.model.proofs.Answers.{answering, said-answering}

-- the calls of a trace
abbrev pub calls_of : List Observed → List Call
calls_of trace = map (λ c. c.call) trace

-- the calls, each with what it answers and leaves
unfoldable pub trace_of : State → List Call → List Observed
trace_of s [] = []
trace_of s (c ∷ cs) = record { call = c; answer = answering (answer c s); after = next c s } ∷ trace_of (next c s) cs

-- it is a trace
pub trace_of-calls : (s : State) (cs : List Call) → Trace s (trace_of s cs)
unfolding trace_of
trace_of-calls s [] = tt
trace_of-calls s (c ∷ cs) = (record { answers = said-answering (answer c s); leaves = refl }, trace_of-calls (next c s) cs)

-- of these calls
pub calls_of_trace : (s : State) (cs : List Call) → calls_of (trace_of s cs) ≡ cs
unfolding trace_of
calls_of_trace s [] = refl
calls_of_trace s (c ∷ cs) = ap {B = List Call} (λ l. c ∷ l) (calls_of_trace (next c s) cs)
