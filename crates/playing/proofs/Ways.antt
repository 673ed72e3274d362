-- The ways through a record, by its kind and the code's tests: which calls may run, and what is played.
use Rattle.std.proofs.Common.{◌≡◌, ℕ, zero, suc, ◌<◌, ◌≤◌, true, false, not, eqb, ◌≢◌, List, [], sym, refl, ap, ◌∙◌, arith, eq-eqb, ne_eqb, le-leb}
use borrow.Author.Tests.{lt-leb}
use Rattle.model.specs.declared.Operation.{Operation}
use Rattle.model.specs.declared.EntryPoint.TheVariants.{Main}
use Rattle.model.specs.declared.Answer.{Answer}
use Rattle.model.specs.Codes.{nobody}
use Rattle.model.specs.Threads.{at}
use Rattle.model.specs.Locks.{lock_free}
use Rattle.model.specs.WellFormed.{well_formed}
use Rattle.model.specs.Calls.{Call, begin, step, cancel, tick, State}
use Rattle.model.specs.Refusals.{first_refusal, no_thread, lock_owned, argument_rows, unruled_rows, begin_rows, later_rows, refusal}
use Rattle.model.specs.Promise.{state, next, Promise}
use Rattle.model.specs.RecordBytes.{step_kind, cancel_kind, tick_kind, is_begin, kind_byte, thread_byte}
use Rattle.model.specs.Decoding.{operation_by, front, record_of}
use Rattle.model.specs.Bondtrace.{call_of}
use Rattle.model.proofs.Laws.{same?}
use Rattle.laws.proofs.Accepted.{tick-accepted, cancel-accepted, step-accepted, begin-number}
use Rattle.laws.proofs.Calls.{refused-next}
use Rattle.laws.proofs.Rows.{first-here, first-later}
use Rattle.laws.proofs.Groups.{later-refusal, without-rules}
use Rattle.playing.specs.Record.{Ready, Plays}
use Rattle.playing.proofs.Records.{calls_tick, calls-step, calls-cancel, calls-begin, must_begin}

-- ---- what refuses a call on a checked table
-- a refusal by a number is none by 0
not-zero : (f g : ℕ) → f ≡ suc g → f ≢ 0
not-zero f g is e = omega arith

module _ (s : State) (formed : well_formed s.table ≡ true) (x : ℕ) where
  module _ (beyond : s.table.n ≤ x) where
    -- a step of no thread
    step-beyond : refusal (step x) s ≢ 0
    unfolding later_rows argument_rows no_thread
    step-beyond = not-zero _ 2 (later-refusal (step x) s formed ∙ first-here _ _ (le-leb s.table.n x beyond))

    -- a cancel of no thread
    cancel-beyond : refusal (cancel x) s ≢ 0
    unfolding later_rows no_thread
    cancel-beyond = not-zero _ 2 (later-refusal (cancel x) s formed ∙ first-here _ _ (le-leb s.table.n x beyond))

    -- a begin of no thread
    begin-beyond : (o : Operation) → refusal (begin x o) s ≢ 0
    unfolding later_rows argument_rows no_thread
    begin-beyond o = not-zero _ 2 (later-refusal (begin x o) s formed ∙ first-here _ _ (le-leb s.table.n x beyond))

  -- a cancel of a thread whose lock is owned
  cancel_owned : x < s.table.n → (at s.table x).owner ≢ nobody → refusal (cancel x) s ≢ 0
  unfolding later_rows no_thread lock_owned lock_free
  cancel_owned below owned = not-zero _ 3 (later-refusal (cancel x) s formed ∙ first-later _ _ (lt-leb s.table.n x below) ∙ first-here _ _ (ap not (ne_eqb (at s.table x).owner nobody owned)))

-- ---- the ways
module _ (s : State) (bytes : List ℕ) (R : Ready s bytes) where
  -- the thread of the record
  abbrev x : ℕ
  x = thread_byte bytes

  -- the table has passed the check
  formed : well_formed s.table ≡ true
  formed = R.runnable.checked.formed

  module _ (c : Call) (calls : call_of (record_of (front bytes)) ≡ c) where
    -- a call that is accepted and keeps its promise
    accepted : refusal c s ≡ 0 → (a : Answer) (after : State) → Promise c s a after → Plays bytes s true after
    accepted e a after kept = record {
      tells = sym (ap (λ (d : Call). eqb (refusal d s) 0) calls ∙ eq-eqb (refusal c s) 0 e);
      leaves = kept.leaves ∙ ap (λ (d : Call). next d s) (sym calls);
    }

    -- a call that is refused
    refused : refusal c s ≢ 0 → Plays bytes s false s
    refused d = record {
      tells = sym (ap (λ (k : Call). eqb (refusal k s) 0) calls ∙ ne_eqb (refusal c s) 0 d);
      leaves = sym (ap (λ (k : Call). next k s) calls ∙ stays (refusal c s) refl);
    }
      where
        stays : (g : ℕ) → refusal c s ≡ g → next c s ≡ s
        stays zero e = absurd (d e)
        stays (suc g) e = refused-next c s g e

  -- a tick may run
  pub tick-runs : refusal tick (state s.table []) ≡ 0
  tick-runs = tick-accepted (state s.table []) formed

  -- a tick
  pub way_tick : kind_byte bytes ≡ tick_kind → (a : Answer) (after : State) → Promise tick s a after → Plays bytes s true after
  way_tick kind a after kept = accepted tick (calls_tick bytes kind) (tick-accepted s formed) a after kept

  module _ (ticks : kind_byte bytes ≢ tick_kind) where
    -- a call of no thread
    pub way_beyond : s.table.n ≤ x → Plays bytes s false s
    way_beyond past =
        same? (kind_byte bytes) step_kind
        (λ e. refused (step x) (calls-step bytes e) (step-beyond s formed x past))
        (λ d. same? (kind_byte bytes) cancel_kind
        (λ e. refused (cancel x) (calls-cancel bytes e) (cancel-beyond s formed x past))
        (λ f. refused (begin x (operation_by (kind_byte bytes) bytes)) (calls-begin bytes (must_begin bytes R.lawful ticks d f)) (begin-beyond s formed x past (operation_by (kind_byte bytes) bytes))))

  module _ (below : x < s.table.n) where
    -- a step may run
    pub step-runs : refusal (step x) s ≡ 0
    step-runs = step-accepted s formed x below R.runnable.words

    -- a step
    pub way_step : kind_byte bytes ≡ step_kind → (a : Answer) (after : State) → Promise (step x) s a after → Plays bytes s true after
    way_step kind a after kept = accepted (step x) (calls-step bytes kind) step-runs a after kept

    -- a cancel that is refused
    pub way_owned : kind_byte bytes ≡ cancel_kind → (at s.table x).owner ≢ nobody → Plays bytes s false s
    way_owned kind owned = refused (cancel x) (calls-cancel bytes kind) (cancel_owned s formed x below owned)

    -- a cancel may run if the thread's lock is free, whatever the store
    pub cancel-runs : (words : List ℕ) → (at s.table x).owner ≡ nobody → refusal (cancel x) (state s.table words) ≡ 0
    unfolding lock_free
    cancel-runs words free = cancel-accepted (state s.table words) formed x below (eq-eqb (at s.table x).owner nobody free)

    -- a cancel
    pub way_cancel : kind_byte bytes ≡ cancel_kind → (at s.table x).owner ≡ nobody → (a : Answer) (after : State) → Promise (cancel x) s a after → Plays bytes s true after
    way_cancel kind free a after kept = accepted (cancel x) (calls-cancel bytes kind) (cancel-runs s.store free) a after kept

    -- a begin: g is what its rows say, whatever the rules
    module _ (ticks : kind_byte bytes ≢ tick_kind) (steps : kind_byte bytes ≢ step_kind) (cancels : kind_byte bytes ≢ cancel_kind) where
      -- the record is one
      pub begins : is_begin (kind_byte bytes) ≡ true
      begins = must_begin bytes R.lawful ticks steps cancels

      module _ (o : Operation) (reads : o ≡ operation_by (kind_byte bytes) bytes) (g : ℕ) (rows : g ≡ first_refusal (unruled_rows Main s.table x o)) where
        calls : call_of (record_of (front bytes)) ≡ begin x o
        calls = calls-begin bytes begins ∙ ap (λ (k : Operation). begin x k) (sym reads)

        -- no rules are loaded, so it is its refusal
        number : g ≡ refusal (begin x o) s
        number = rows ∙ sym (without-rules Main s.table x o R.unruled) ∙ sym (begin-number s formed x below R.runnable.words Main o)

        -- one that is refused
        pub way_refused : g ≢ 0 → Plays bytes s false s
        way_refused d = refused (begin x o) calls (λ e. d (number ∙ e))

        module _ (none : g ≡ 0) where
          -- one that is not may run
          pub begin-runs : refusal (begin x o) s ≡ 0
          begin-runs = sym number ∙ none

          -- one that is accepted
          pub way_begin : (a : Answer) (after : State) → Promise (begin x o) s a after → Plays bytes s true after
          way_begin a after kept = accepted (begin x o) calls begin-runs a after kept
