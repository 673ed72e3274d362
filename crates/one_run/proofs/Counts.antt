-- The counts of a run's log are at most 8, since every table of the run is well-formed. So its logs are not refused.
use mathlib.Core.Path.{◌≡◌, sym, ap, ◌∙◌, subst}
use mathlib.Core.Bool.{false, not}
use mathlib.Core.Option.{none, some}
use mathlib.Core.List.{List, [], ◌∷◌, ◌++◌}
use Prim.Native.Nat.{ℕ, zero, suc, ◌≤◌, ◌<◌}
use native.Mathlib.Omega.{arith}
use lib.ListN.{length}
use borrow.Author.Tests.{le-leb, leb-true, le-ltb}
use Rattle.model.specs.Operations.{word_limit}
use Rattle.model.specs.Threads.{at}
use Rattle.model.specs.Calls.{State}
use Rattle.model.specs.WellFormed.{numbers_in_range}
use Rattle.model.specs.Promise.{view}
use Rattle.model.specs.Atomic.{Machine, begins, cancels, ticks, rendezvous, aborts}
use Rattle.model.specs.Linearization.{Observed, Trace, Entry, play_entry, Allowed}
use Rattle.model.specs.Linearized.{entry}
use Rattle.model.proofs.Laws.{all_of-read, all-below-made}
use Rattle.laws.proofs.Rows.{first-later, first-none}
use Rattle.invariant.proofs.Traces.{Lasting}
use Rattle.linearization.proofs.Represents.{Represents, call_simulated}
use Rattle.logs.specs.declared.Log.{Log}
use Rattle.logs.specs.Comparison.{Logged, entry_at, bad_log, compare_refusal}
use Rattle.logs.specs.OneRun.{received_at, receive_log, Holds}

-- each count is at most 8
abbrev pub Small : List Logged → Type 0
Small log = (i : ℕ) → i < length log → (entry_at log i).count ≤ word_limit

-- a first entry more
small-first : (a : Logged) (log : List Logged) → a.count ≤ word_limit → Small log → Small (a ∷ log)
unfolding entry_at
small-first a log few small zero low = few
small-first a log few small (suc i) low = small i (omega arith)

-- a thread of a well-formed table shows at most 8 words
outcome-small : (n : ℕ) (s : State) → Lasting n s → (x : ℕ) → x < n → (view s x).outcome.count ≤ word_limit
unfolding view numbers_in_range
outcome-small n s lasting x below =
    let (phase, (send, (receive, (part, (release, (left, (queue, (owner, (code, (source, (count, more))))))))))) = all_of-read _ (lasting.formed.numbers x (omega (arith, lasting.size))) in
    leb-true (at s.table x).outcome.count word_limit count

-- what a call adds is small
received-small : (n : ℕ) (e : Entry) (p : Machine) → Allowed n e p → (after : State) → Lasting n after → (log : List Logged) → Small log → Small (received_at e after ++ log)
received-small n none p may after lasting log small = small
received-small n (some (begins x o)) p may after lasting log small = small
received-small n (some (cancels x)) p may after lasting log small = small
received-small n (some ticks) p may after lasting log small = small
received-small n (some (rendezvous s r)) p (sn, rn, queued, ready) after lasting log small = small-first _ log (outcome-small n after lasting r rn) small
received-small n (some (aborts x c)) p may after lasting log small = small

-- all calls of a trace
pub log_small : (n : ℕ) (trace : List Observed) (s : State) (p : Machine) → Represents n s p → Trace s trace → Small (receive_log s trace)
unfolding receive_log
log_small n [] s p R kept = λ i low. absurd (omega arith)
log_small n (c ∷ cs) s p R (kept, rest) =
    let here = call_simulated n c.call s p R in
    let e = entry c.call s in
    let left : Represents n c.after (play_entry n e p) = subst (λ (after : State). Represents n after (play_entry n e p)) (sym kept.leaves) here.represents in
    received-small n e p here.allowed c.after left.lasting (receive_log c.after cs) (log_small n cs c.after _ left rest)

-- a log of at most 512 entries with such counts is not refused
log_good : (log : Log) (entries : List Logged) → Holds log entries → Small entries → (bad_log log).when ≡ false
unfolding bad_log
log_good log entries holds small = rw (le-ltb 512 log.len holds.few, holds.says) (ap not (all-below-made (length entries) _ (λ i l. le-leb _ word_limit (small i l))))

pub not-refused : (sends receives : Log) (entries : List Logged) → Small entries → Holds sends entries → Holds receives entries → compare_refusal sends receives ≡ 0
unfolding compare_refusal
not-refused sends receives entries small s r = first-later _ _ (log_good sends entries s small) ∙ first-later _ _ (log_good receives entries r small) ∙ first-none
