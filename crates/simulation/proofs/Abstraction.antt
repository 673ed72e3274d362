-- The atomic machine's thread that a thread and its eight words stand for, and what the store holds while words are copied.
use mathlib.Core.Path.{◌≡◌, refl, sym, ap, ◌∙◌, subst}
use mathlib.Core.Bool.{Bool, true, false, cond}
use mathlib.Core.List.{List}
use Prim.Native.Nat.{ℕ, ◌+◌, ◌*◌, ◌≤◌, ◌<◌}
use native.Mathlib.Omega.{arith}
use lib.ListN.{length, get_or, take}
use Rattle.model.specs.declared.Operation.{Operation}
use Rattle.model.specs.declared.Thread.{Thread}
use Rattle.model.specs.Codes.{nobody}
use Rattle.model.specs.Operations.{word_limit}
use Rattle.model.specs.Threads.{with_copied}
use Rattle.model.specs.Store.{words_at, word_copied}
use Rattle.model.specs.Atomic.{Run, nothing, sending, receiving, runs, AtomicThread}
use Rattle.model.proofs.Laws.{same?}
use Rattle.laws.proofs.Store.{word_place, word-at, word-copied-here, word-copied-elsewhere}
use Rattle.formed.specs.Groups.{copies_to}

-- what runs in a thread, by its `ipc`, its `send` and its operation
unfoldable pub run_of : Bool → Bool → Operation → Run
run_of ipc send o = cond ipc (cond send (sending o) (receiving o.receive)) nothing

-- the thread of the atomic machine that a thread and its eight words stand for
unfoldable pub abstraction : Thread → List ℕ → AtomicThread
unfolding run_of
abstraction h words = record { run = run_of h.flags.ipc h.flags.send h.op; mark = h.flags.mark; left = h.left; outcome = h.outcome; words = take h.outcome.count words }

-- an operation runs where `ipc` is set
pub runs_with_ipc : (ipc send : Bool) (o : Operation) → runs (run_of ipc send o) ≡ ipc
unfolding run_of
runs_with_ipc true true o = refl
runs_with_ipc true false o = refl
runs_with_ipc false send o = refl

-- the words that thread h has copied stand in its receiver's slice of the store
abbrev pub CopiedBy : ℕ → List ℕ → Thread → Type 0
CopiedBy n store h = copies_to h < n → (j : ℕ) → j < h.copied → get_or (words_at store (copies_to h)) j 0 ≡ get_or h.op.send.words j 0

-- so it is of every thread of the table
abbrev pub Copied : ℕ → (ℕ → Thread) → List ℕ → Type 0
Copied n T store = (x : ℕ) → x < n → CopiedBy n store (T x)

-- `CopiedBy` holds of a thread that copies to nobody
pub copies-nowhere : (n : ℕ) (store : List ℕ) (h : Thread) → n ≤ nobody → copies_to h ≡ nobody → CopiedBy n store h
copies-nowhere n store h few e = rw e (λ l. absurd (omega arith))

-- `CopiedBy` holds of a thread that has copied nothing yet
pub copied-nothing : (n : ℕ) (store : List ℕ) (h : Thread) → h.copied ≡ 0 → CopiedBy n store h
copied-nothing n store h e = rw e (λ l j k. absurd (omega arith))

-- `CopiedBy` is kept where the receiver's words stay, whatever else changes in the store
pub copied-kept : (n : ℕ) (store after : List ℕ) (h : Thread)
    → (copies_to h < n → words_at after (copies_to h) ≡ words_at store (copies_to h)) → CopiedBy n store h → CopiedBy n after h
copied-kept n store after h same before l j jk = ap (λ (words : List ℕ). get_or words j 0) (same l) ∙ before l j jk

-- `CopiedBy` is kept where the thread copies one word more
pub copied_more : (n : ℕ) (store : List ℕ) (h : Thread) → length store ≡ 8 * n → h.copied < word_limit → copies_to h ≡ h.op.send.target → CopiedBy n store h
    → CopiedBy n (word_copied h store) (with_copied (h.copied + 1) h)
unfolding copies_to
copied_more n store h fit few to before l j jk =
    let target = h.op.send.target in
    let below : target < n = subst (λ (r : ℕ). r < n) to l in
    word-at (word_copied h store) (copies_to h) j (omega arith) ∙ ap (λ (r : ℕ). get_or (word_copied h store) (word_place r j) 0) to ∙ same? j h.copied
    (λ e. rw e (word-copied-here h store (omega arith)))
    (λ d. word-copied-elsewhere h store (word_place target j) (omega arith) ∙ ap (λ (r : ℕ). get_or store (word_place r j) 0) (sym to) ∙ sym (word-at store (copies_to h) j (omega arith)) ∙ before l j (omega arith))
