-- Changes of one thread that keep it well-formed by itself.
use mathlib.Core.Path.{◌≡◌, refl, sym, ◌∙◌}
use mathlib.Core.Bool.{Bool, true, false, not, or-true, true≢false}
use Prim.Native.Nat.{ℕ, ◌+◌, ◌-◌, ◌≤◌, ◌<◌}
use native.Mathlib.Omega.{arith}
use lib.Dec.{eqb}
use lib.IntN.{ℤ}
use borrow.Author.Tests.{le-leb, lt-ltb, ne_eqb}
use mathlib.Core.List.{[], ◌∷◌}
use Rattle.model.specs.declared.SendPart.{SendPart}
use Rattle.model.specs.declared.Operation.{Operation}
use Rattle.model.specs.declared.Outcome.{Outcome}
use Rattle.model.specs.declared.Thread.{Thread}
use Rattle.model.specs.Lists.{implies, all_of, occurs}
use Rattle.model.specs.Times.{is_left}
use Rattle.model.specs.Codes.{done, nobody, codes, same_code, code_only, running}
use Rattle.model.specs.Operations.{word_limit}
use Rattle.model.specs.Phases.{Phase, phase_number, copy, release, wake, unlock, is_one_of}
use Rattle.model.specs.Threads.{no_flags, entering, with_owner, polled, ended}
use Rattle.model.specs.Queues.{senders, joined, departed}
use Rattle.model.specs.WellFormed.{is_code, nobody_or_below}
use Rattle.model.proofs.Laws.{implies-read, implies-made, ◌and◌, all_of-read, all_of-made}
use Rattle.laws.proofs.Queues.{departed-length, joined_length}
use Rattle.formed.specs.Groups.{flags_fit, outcome_fits, operation_fits, phase_fits, queue_fits}
use Rattle.formed.proofs.Flags.{cases, FlagsFit, told_any, told_any_if}
use Rattle.formed.proofs.Own.{Own}
use Rattle.formed.proofs.Facts.{Other, queue-small}

-- ---- numbers
-- a thread of the table may own a lock
pub owner-below : (n x : ℕ) → x < n → nobody_or_below n x ≡ true
unfolding nobody_or_below
owner-below n x xn = rw (lt-ltb x n xn) (or-true (eqb x nobody))

-- of an operation that has ended no number is in use
pub operation-over : (n x : ℕ) (o : Operation) (left : ℕ) → operation_fits n x false o left ≡ true
unfolding operation_fits all_of implies
operation-over n x o left = refl

-- `left` may become another number that is in range where it was
pub operation-left : (n x : ℕ) (ipc : Bool) (o : Operation) (left now : ℕ) → (ipc ≡ true → is_left left ≡ true → is_left now ≡ true)
    → operation_fits n x ipc o left ≡ true → operation_fits n x ipc o now ≡ true
unfolding operation_fits
operation-left n x ipc o left now fits e = let (sends, (receives, (time, (target, (partner, end))))) = all_of-read _ e in
    all_of-made _ (sends and receives and implies-made ipc _ (λ i. fits i (implies-read _ _ time i)) and target and partner and tt)

-- in release the target is in use
pub release-fits : (n x : ℕ) (part : SendPart) (copied waking : ℕ) → Other n x part.target → phase_fits n x (phase_number release) part copied waking ≡ true
unfolding phase_fits cases
release-fits n x part copied waking r = rw (lt-ltb part.target n r.below, ne_eqb part.target x r.apart) refl

-- in copy the number of words copied
pub copy-fits : (n x : ℕ) (part : SendPart) (copied waking : ℕ) → copied ≤ part.count → phase_fits n x (phase_number copy) part copied waking ≡ true
unfolding phase_fits cases
copy-fits n x part copied waking l = rw (le-leb copied part.count l) refl

-- in wake and in unlock, which are neither release nor copy, the sender being woken
pub woken_fits : (n x k : ℕ) (part : SendPart) (copied waking : ℕ) → is_one_of (release ∷ []) k ≡ false → is_one_of (copy ∷ []) k ≡ false → waking < n
    → phase_fits n x k part copied waking ≡ true
unfolding phase_fits
woken_fits n x k part copied waking a b l = all_of-made _ (
    implies-made (is_one_of (release ∷ []) k) _ (λ e. absurd (true≢false (sym e ∙ a)))
    and implies-made (is_one_of (release ∷ []) k) _ (λ e. absurd (true≢false (sym e ∙ a)))
    and implies-made (is_one_of (copy ∷ []) k) _ (λ e. absurd (true≢false (sym e ∙ b)))
    and implies-made (is_one_of (wake ∷ unlock ∷ []) k) _ (λ e. lt-ltb waking n l)
    and tt)

-- an outcome without a message, other than running
pub bare-fits : (n : ℕ) (code : ℤ) → is_code codes code ≡ true → same_code running code ≡ false → outcome_fits n false (code_only code) ≡ true
unfolding outcome_fits all_of nobody_or_below
bare-fits n code known over = rw (known, over, or-true (same_code done code)) refl

-- the outcome of a completed receive
pub received-fits : (n s count : ℕ) → s < n → count ≤ word_limit → outcome_fits n false (record { code = done; source = s; count = count }) ≡ true
unfolding outcome_fits all_of is_code nobody_or_below
received-fits n s count sn l = rw (lt-ltb s n sn, or-true (eqb s nobody), le-leb count word_limit l) refl

-- ---- threads
module _ {n x : ℕ} {h : Thread} (w : Own n x h) where
  -- its lock has another owner
  pub own-owner : (v : ℕ) → nobody_or_below n v ≡ true → Own n x (with_owner v h)
  unfolding queue_fits
  own-owner v e = let (queued, more) = all_of-read _ w.queue in
      record { flags = w.flags; outcome = w.outcome; operation = w.operation; phase = w.phase; queue = all_of-made _ (queued and e and tt); items = w.items }

  -- its `poll` is cleared
  pub own_unpolled : Own n x (polled false h)
  unfolding cases
  own_unpolled = record {
    flags = told_any h w.flags (λ k v r s. flags_fit k (record { ipc = v.ipc; send = v.send; receiving = v.receiving; poll = false; mark = v.mark }) r s) refl;
    outcome = w.outcome;
    operation = w.operation;
    phase = w.phase;
    queue = w.queue;
    items = w.items;
  }

  -- a sender leaves its queue
  pub own-departed : (s : ℕ) → 1 ≤ occurs s (senders h) → Own n x (departed s h)
  unfolding departed queue_fits
  own-departed s there = let (queued, (owner, end)) = all_of-read _ w.queue in let small = queue-small w in
      record {
        flags = w.flags;
        outcome = w.outcome;
        operation = w.operation;
        phase = w.phase;
        queue = all_of-made _ (le-leb (h.queue.len - 1) 32 (omega arith) and owner and tt);
        items = departed-length s h w.items small there;
      }

  -- a sender joins its queue
  pub own-joined : (s : ℕ) → h.queue.len < 32 → Own n x (joined s h)
  unfolding joined queue_fits
  own-joined s room = let (queued, (owner, end)) = all_of-read _ w.queue in
      record {
        flags = w.flags;
        outcome = w.outcome;
        operation = w.operation;
        phase = w.phase;
        queue = all_of-made _ (le-leb (h.queue.len + 1) 32 (omega arith) and owner and tt);
        items = joined_length s h w.items room;
      }

  -- it enters another phase
  pub own-entering : (p : Phase) → FlagsFit (entering p h) → phase_fits n x (phase_number p) h.op.send h.copied h.waking ≡ true → Own n x (entering p h)
  own-entering p fits phase = record { flags = fits; outcome = w.outcome; operation = w.operation; phase = phase; queue = w.queue; items = w.items }

  -- its operation ends while it is not sending
  pub own-ended : h.flags.send ≡ false → (u : Outcome) → outcome_fits n false u ≡ true → Own n x (ended u h)
  unfolding cases
  own-ended quiet u fits = record {
    flags = told_any_if h w.flags (λ k v r s. not v.send) (λ k v r s. flags_fit k no_flags r s) refl (rw quiet refl);
    outcome = fits;
    operation = operation-over n x h.op h.left;
    phase = w.phase;
    queue = w.queue;
    items = w.items;
  }
