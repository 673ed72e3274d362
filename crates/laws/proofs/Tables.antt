-- Laws of a table's threads: what `put`, `edit`, `edit_below` and `act` leave of them.
use mathlib.Core.Path.{◌≡◌, refl, sym, ap, ◌∙◌, fun_ext}
use mathlib.Core.Logic.{◌≢◌, ◌⊎◌, ⊎_elim}
use mathlib.Core.List.{List}
use Prim.Native.Nat.{ℕ, zero, suc, ◌≤◌, ◌<◌}
use native.Mathlib.Omega.{arith}
use lib.ListN.{length, length-set}
use lib.Seq.{get_or-set_same, get_or-set_other, set-get_or, set-set, set_out}
use Rattle.model.specs.declared.Thread.{Thread}
use Rattle.model.specs.declared.Table.{Table}
use Rattle.model.specs.Lists.{update}
use Rattle.model.specs.Threads.{zero_thread, at, with_threads, put, edit, edit_below}
use Rattle.model.specs.Step.{Action, other, own_after, other_after, act}
use Rattle.model.proofs.Laws.{same?}
use Rattle.laws.proofs.Lists.{update_same, update_other, update-own}

-- ---- what is no thread
-- u is t but for its threads
abbrev pub OnlyThreads : Table → Table → Type 0
OnlyThreads t u = with_threads t.threads u ≡ t

-- of two such changes in a row
pub only-both : (t u v : Table) → OnlyThreads t u → OnlyThreads u v → OnlyThreads t v
only-both t u v first second = ap (λ (w : Table). with_threads t.threads w) second ∙ first

-- ---- one thread is put into a table
-- only threads change
pub put_only : (x : ℕ) (h : Thread) (t : Table) → OnlyThreads t (put x h t)
unfolding put
put_only x h t = refl

-- the array keeps its length
pub put-length : (x : ℕ) (h : Thread) (t : Table) → length (put x h t).threads ≡ length t.threads
unfolding put
put-length x h t = length-set t.threads x h

-- the thread is there
pub put_same : (x : ℕ) (h : Thread) (t : Table) → x < length t.threads → at (put x h t) x ≡ h
unfolding at put
put_same x h t l = get_or-set_same t.threads x h zero_thread l

-- every other thread is as it was
pub put_other : (x : ℕ) (h : Thread) (t : Table) (y : ℕ) → y ≢ x → at (put x h t) y ≡ at t y
unfolding at put
put_other x h t y d = get_or-set_other t.threads x y h zero_thread d

-- a thread that is put where it was changes nothing
pub put-own : (x : ℕ) (t : Table) → put x (at t x) t ≡ t
unfolding at put
put-own x t = ap (λ (threads : List Thread). with_threads threads t) (set-get_or t.threads x zero_thread)

-- of two threads that are put at one place the second stays
pub put-over : (x : ℕ) (h k : Thread) (t : Table) → put x h (put x k t) ≡ put x h t
unfolding put
put-over x h k t = ap (λ (threads : List Thread). with_threads threads t) (set-set t.threads x k h)

-- a thread that is put at no place of the array changes nothing
pub put-nowhere : (x : ℕ) (h : Thread) (t : Table) → length t.threads ≤ x → put x h t ≡ t
unfolding put
put-nowhere x h t l = ap (λ (threads : List Thread). with_threads threads t) (set_out t.threads x h l)

-- all threads at once
pub put-at : (x : ℕ) (h : Thread) (t : Table) → x < length t.threads → at (put x h t) ≡ update (at t) x h
put-at x h t l = fun_ext (λ y. same? y x
    (λ e. rw (e, put_same x h t l, update_same) refl)
    (λ d. rw (put_other x h t y d, update_other (at t) x h y d) refl))

-- ---- one thread is edited
-- all threads at once
pub edit-at : (x : ℕ) (f : Thread → Thread) (t : Table) → x < length t.threads → at (edit x f t) ≡ update (at t) x (f (at t x))
unfolding edit
edit-at x f t l = put-at x (f (at t x)) t l

-- only threads change
pub edit-only : (x : ℕ) (f : Thread → Thread) (t : Table) → OnlyThreads t (edit x f t)
unfolding edit
edit-only x f t = put_only x (f (at t x)) t

-- the array keeps its length
pub edit-length : (x : ℕ) (f : Thread → Thread) (t : Table) → length (edit x f t).threads ≡ length t.threads
unfolding edit
edit-length x f t = put-length x (f (at t x)) t

-- every other thread is as it was
pub edit-other : (x : ℕ) (f : Thread → Thread) (t : Table) (y : ℕ) → y ≢ x → at (edit x f t) y ≡ at t y
unfolding edit
edit-other x f t y d = put_other x (f (at t x)) t y d

-- r is edited, and then another thread x
pub edit-two-at : (x r : ℕ) (f g : Thread → Thread) (t : Table) → x < length t.threads → r < length t.threads → x ≢ r
    → at (edit x f (edit r g t)) ≡ update (update (at t) r (g (at t r))) x (f (at t x))
edit-two-at x r f g t xl rl apart =
    edit-at x f (edit r g t) (omega (arith, edit-length r g t))
    ∙ ap (λ (T : ℕ → Thread). update T x (f (T x))) (edit-at r g t rl)
    ∙ ap (λ (h : Thread). update (update (at t) r (g (at t r))) x (f h)) (update_other (at t) r (g (at t r)) x apart)

-- ---- each thread below a number is edited
module _ (f : Thread → Thread) (t : Table) where
  -- only threads change
  pub below-only : (k : ℕ) → OnlyThreads t (edit_below k f t)
  unfolding edit_below
  below-only zero = refl
  below-only (suc k) = only-both t (edit_below k f t) (edit k f (edit_below k f t)) (below-only k) (edit-only k f (edit_below k f t))

  -- the array keeps its length
  pub below_length : (k : ℕ) → length (edit_below k f t).threads ≡ length t.threads
  unfolding edit_below
  below_length zero = refl
  below_length (suc k) = edit-length k f (edit_below k f t) ∙ below_length k

  -- a thread from that number on is as it was
  pub below-beyond : (k y : ℕ) → k ≤ y → at (edit_below k f t) y ≡ at t y
  unfolding edit_below edit
  below-beyond zero y l = refl
  below-beyond (suc k) y l = put_other k _ (edit_below k f t) y (omega arith) ∙ below-beyond k y (omega arith)

  -- a thread below it is edited
  pub below_at : (k y : ℕ) → k ≤ length t.threads → y < k → at (edit_below k f t) y ≡ f (at t y)
  unfolding edit_below edit
  below_at zero y l m = absurd (omega arith)
  below_at (suc k) y l m = same? y k
      (λ e. rw e (put_same k _ (edit_below k f t) (omega (arith, below_length k)) ∙ ap f (below-beyond k k (omega arith))))
      (λ d. put_other k _ (edit_below k f t) y d ∙ below_at k y (omega arith) (omega arith))

-- ---- the action of a step
module _ (a : Action) (x : ℕ) (t : Table) where
  -- the other thread afterwards
  abbrev other_now : Thread
  other_now = other_after a x (at t x) (at t (other (at t x)))

  -- only threads change
  pub act-only : OnlyThreads t (act a x t)
  unfolding act put
  act-only = refl

  -- the array keeps its length
  pub act-length : length (act a x t).threads ≡ length t.threads
  unfolding act
  act-length = put-length x _ (put (other (at t x)) other_now t) ∙ put-length (other (at t x)) other_now t

  -- the other thread is in the array, or the action leaves it as it was
  pub act-at : x < length t.threads → (other (at t x) < length t.threads) ⊎ (other_now ≡ at t (other (at t x)))
      → at (act a x t) ≡ update (update (at t) (other (at t x)) other_now) x (own_after a (at t x))
  unfolding act
  act-at l = λ o. put-at x _ (put (other (at t x)) other_now t) (omega (arith, put-length (other (at t x)) other_now t)) ∙ ap (λ (T : ℕ → Thread). update T x (own_after a (at t x))) (inner o)
    where
      kept : other_now ≡ at t (other (at t x)) → at (put (other (at t x)) other_now t) ≡ update (at t) (other (at t x)) other_now
      kept e = ap (λ (h : Thread). at (put (other (at t x)) h t)) e ∙ ap at (put-own (other (at t x)) t) ∙ sym (update-own (at t) (other (at t x))) ∙ ap (update (at t) (other (at t x))) (sym e)

      inner : (other (at t x) < length t.threads) ⊎ (other_now ≡ at t (other (at t x))) → at (put (other (at t x)) other_now t) ≡ update (at t) (other (at t x)) other_now
      inner = ⊎_elim (put-at (other (at t x)) other_now t) kept
