-- What a call that is not refused has been tested for.
use mathlib.Core.Path.{ap, ◌≡◌, refl}
use mathlib.Core.Logic.{◌≢◌}
use mathlib.Core.Bool.{true, false, not, ◌&&◌, ◌||◌, or-true}
use mathlib.Core.List.{[], ◌∷◌}
use Prim.Native.Nat.{ℕ, ◌*◌, ◌≤◌, ◌<◌}
use native.Mathlib.Omega.{arith}
use lib.ListN.{length}
use lib.Dec.{eqb, leb, ltb}
use borrow.Author.Tests.{ltb-false, leb-false, le-leb, lt-ltb, eqb-true, eqb-false, not-false}
use Rattle.model.specs.declared.Receive.{Receive}
use Rattle.model.specs.declared.Operation.{Operation}
use Rattle.model.specs.declared.EntryPoint.{EntryPoint}
use Rattle.model.specs.declared.EntryPoint.TheVariants.{Main, Spark}
use Rattle.model.specs.declared.Rules.{Rules}
use Rattle.model.specs.Codes.{nobody}
use Rattle.model.specs.Operations.{word_limit, spark_limit, has_receive, receive_time, closed_on, target_beyond, closed_beyond, empty_set}
use Rattle.model.specs.Times.{is_time_code}
use Rattle.model.specs.Phases.{idle, phase_of}
use Rattle.model.specs.Rules.{misfit, is_fit, rules_fit}
use Rattle.model.specs.Threads.{at}
use Rattle.model.specs.Locks.{lock_free}
use Rattle.model.specs.WellFormed.{size_in_range, in_phase, send_in_range, receive_in_range, well_formed}
use Rattle.model.specs.Calls.{Call, begin_via, spark_begin, step, cancel, tick, load, State}
use Rattle.model.specs.Refusals.{first_refusal, bad_size, not_well_formed, no_thread, bad_length, lock_owned, not_idle, neither_part, with_itself, no_partner, no_member, more_words, too_many_words, bad_time, not_permitted, bad_rules, rows_of, refusal, make_refusal, outcome_refusal, table_rows, argument_rows, unruled_rows, begin_rows, later_rows}
use Rattle.model.specs.Promise.{FewWords}
use Rattle.model.proofs.Laws.{implies-made, ◌and◌, all_of-made}
use Rattle.model.proofs.Numbers.{size-read, size-made}
use Rattle.laws.proofs.Rows.{numbered, NoneHolds, none-holds}
use Rattle.laws.proofs.Phases.{in-idle}
use Rattle.laws.proofs.Decided.{lock-free-read}
use Rattle.laws.proofs.Lists.{or_left, or_right, second-fails}

-- the rows of every call have numbers
rows-numbered : (c : Call) (s : State) → numbered (rows_of c s) ≡ true
unfolding rows_of table_rows argument_rows unruled_rows begin_rows later_rows bad_size not_well_formed no_thread bad_length lock_owned not_idle neither_part with_itself no_partner no_member too_many_words bad_time not_permitted bad_rules
rows-numbered (begin_via Main x o) s = refl
rows-numbered (begin_via Spark x o) s = refl
rows-numbered (step x) s = refl
rows-numbered (cancel x) s = refl
rows-numbered tick s = refl
rows-numbered (load rules) s = refl

-- of a call that is not refused no row holds
pub accepted-rows : (c : Call) (s : State) → refusal c s ≡ 0 → NoneHolds (rows_of c s)
unfolding refusal
accepted-rows c s e = none-holds (rows_of c s) (rows-numbered c s) e

-- ---- what a call that is not refused has been tested for
-- step, and the outcome call
pub record AcceptedStep (s : State) (x : ℕ) : Type 0 where
  pub below : x < s.table.n
  pub store : length s.store ≡ 8 * s.table.n

-- cancel
pub record AcceptedCancel (s : State) (x : ℕ) : Type 0 where
  pub below : x < s.table.n
  pub unowned : (at s.table x).owner ≡ nobody

-- begin
pub record AcceptedBegin (s : State) (x : ℕ) (o : Operation) : Type 0 where
  pub below : x < s.table.n
  pub store : length s.store ≡ 8 * s.table.n
  pub unowned : (at s.table x).owner ≡ nobody
  pub in_idle : phase_of (at s.table x).phase ≡ idle
  pub part : (o.send.present || has_receive o.receive) ≡ true
  pub other_target : o.send.present ≡ true → o.send.target ≢ x
  pub other_partner : closed_on o.receive x ≡ false
  pub sends : target_beyond s.table.n o ≡ false → send_in_range s.table.n o.send ≡ true
  pub receives : receive_in_range s.table.n o.receive ≡ true

-- the second row is the same for every call
second-row : (c : Call) (s : State) → NoneHolds (rows_of c s) → not (well_formed s.table) ≡ false
unfolding rows_of table_rows bad_size not_well_formed
second-row c s r = r.1.0

-- every call that is not refused finds a well-formed table
pub accepted-table : (c : Call) (s : State) → refusal c s ≡ 0 → well_formed s.table ≡ true
accepted-table c s e = not-false (well_formed s.table) (second-row c s (accepted-rows c s e))

-- a step that is not refused is of a thread of the table, and the store has its words
pub accepted-step : (x : ℕ) (s : State) → refusal (step x) s ≡ 0 → AcceptedStep s x
unfolding rows_of table_rows argument_rows later_rows no_thread bad_length
accepted-step x s e = let (size, (formed, (below, (store, end)))) = accepted-rows (step x) s e in
    record { below = leb-false s.table.n x below; store = eqb-true (length s.store) (8 * s.table.n) (not-false (eqb (length s.store) (8 * s.table.n)) store) }

-- the outcome call is refused as a step is
pub outcome_as_step : (s : State) (x : ℕ) → outcome_refusal s x ≡ refusal (step x) s
unfolding outcome_refusal refusal rows_of table_rows argument_rows later_rows
outcome_as_step s x = refl

-- a cancel that is not refused is of a thread of the table, and its lock is free
pub accepted-cancel : (x : ℕ) (s : State) → refusal (cancel x) s ≡ 0 → AcceptedCancel s x
unfolding rows_of table_rows later_rows no_thread lock_owned
accepted-cancel x s e = let (size, (formed, (below, (free, end)))) = accepted-rows (cancel x) s e in
    record { below = leb-false s.table.n x below; unowned = lock-free-read (at s.table x) (not-false (lock_free (at s.table x)) free) }

-- a send part whose target is in the table has its numbers in range
send-in_range : (n : ℕ) (o : Operation) → (o.send.present ≡ true → o.send.count ≤ word_limit) → (o.send.present ≡ true → is_time_code o.send.time ≡ true)
    → target_beyond n o ≡ false → send_in_range n o.send ≡ true
unfolding send_in_range target_beyond
send-in_range n o count time near = implies-made o.send.present _ (λ i. all_of-made _ (
    lt-ltb o.send.target n (leb-false n o.send.target (second-fails o.send.present (leb n o.send.target) near i))
    and le-leb o.send.count word_limit (count i) and time i and tt))

-- a receive part with a lawful time code and partners in the table, at least one, has its numbers in range
receive-in_range : (n : ℕ) (r : Receive) → (has_receive r && not (is_time_code (receive_time r))) ≡ false → closed_beyond n r ≡ false → empty_set r ≡ false → receive_in_range n r ≡ true
unfolding receive_in_range
receive-in_range n r time near some = all_of-made _ (implies-made (has_receive r) _ (λ i. not-false _ (second-fails (has_receive r) _ time i)) and ap not near and ap not some and tt)

-- a send part that is within a limit has no more words
within-limit : (limit : ℕ) (o : Operation) → more_words limit o ≡ false → o.send.present ≡ true → o.send.count ≤ limit
unfolding more_words
within-limit limit o few i = ltb-false limit o.send.count (second-fails o.send.present (ltb limit o.send.count) few i)

-- what passes an entry has at most eight words
words-fit : (via : EntryPoint) (o : Operation) → (too_many_words via o).when ≡ false → o.send.present ≡ true → o.send.count ≤ word_limit
unfolding too_many_words
words-fit Main o few i = within-limit word_limit o few i
words-fit Spark o few i = omega (arith, within-limit spark_limit o few i)

-- what a begin that is not refused has been tested for, whatever its entry
pub accepted-begin : (via : EntryPoint) (x : ℕ) (o : Operation) (s : State) → refusal (begin_via via x o) s ≡ 0 → AcceptedBegin s x o
unfolding rows_of table_rows argument_rows unruled_rows begin_rows later_rows no_thread bad_length lock_owned not_idle neither_part with_itself no_partner no_member bad_time
accepted-begin via x o s e =
    let (size, (formed, (below, (store, (free, (in_idle, (part, (itself, (partner, (named, (words, (time, later)))))))))))) = accepted-rows (begin_via via x o) s e in
    let toItself = o.send.present && eqb o.send.target x in
    let badSend = o.send.present && not (is_time_code o.send.time) in
    let badWait = has_receive o.receive && not (is_time_code (receive_time o.receive)) in
    let send_time : o.send.present ≡ true → is_time_code o.send.time ≡ true
    = λ i. not-false (is_time_code o.send.time) (second-fails o.send.present (not (is_time_code o.send.time)) (or_left badSend badWait time) i) in
    record {
      below = leb-false s.table.n x below;
      store = eqb-true (length s.store) (8 * s.table.n) (not-false (eqb (length s.store) (8 * s.table.n)) store);
      unowned = lock-free-read (at s.table x) (not-false (lock_free (at s.table x)) free);
      in_idle = in-idle (at s.table x) (not-false (in_phase (idle ∷ []) (at s.table x)) in_idle);
      part = not-false (o.send.present || has_receive o.receive) part;
      other_target = λ i. eqb-false o.send.target x (second-fails o.send.present (eqb o.send.target x) (or_left toItself (closed_on o.receive x) itself) i);
      other_partner = or_right toItself (closed_on o.receive x) itself;
      sends = send-in_range s.table.n o (words-fit via o words) send_time;
      receives = receive-in_range s.table.n o.receive (or_right badSend badWait time) partner named;
    }

-- through the spark entry also for at most three words
pub spark-words : (x : ℕ) (o : Operation) (s : State) → refusal (spark_begin x o) s ≡ 0 → FewWords o
unfolding rows_of table_rows argument_rows unruled_rows begin_rows later_rows too_many_words
spark-words x o s e =
    let (size, (formed, (below, (store, (free, (in_idle, (part, (itself, (partner, (named, (words, later))))))))))) = accepted-rows (spark_begin x o) s e in
    within-limit spark_limit o words

-- the rules of a loading that is not refused fit
pub accepted-load : (rules : Rules) (s : State) → refusal (load rules) s ≡ 0 → rules_fit s.table.n rules ≡ true
unfolding rows_of table_rows later_rows bad_rules rules_fit
accepted-load rules s e =
    let (size, (formed, (fit, end))) = accepted-rows (load rules) s e in
    rw (not-false (is_fit (misfit s.table.n rules)) fit) (or-true (eqb rules.len 0))

-- ---- making a table
-- a making that is not refused is of 1 to 32 threads
pub making_accepted : (n : ℕ) → make_refusal n ≡ 0 → (1 ≤ n) × (n ≤ 32)
unfolding make_refusal bad_size
making_accepted n e = size-read n (not-false (size_in_range n) (none-holds (bad_size n ∷ []) refl e).0)

-- a making of 1 to 32 threads is not refused
pub accepted_making : (n : ℕ) → 1 ≤ n → n ≤ 32 → make_refusal n ≡ 0
unfolding make_refusal first_refusal bad_size
accepted_making n some few = rw (size-made n some few) refl
