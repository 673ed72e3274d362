-- A trace has no more than one linearization: what users see after a call forces the entry in its place.
use mathlib.Core.Path.{◌≡◌, refl, sym, ap, ◌∙◌, subst}
use mathlib.Core.Logic.{◌⊎◌, inl, inr, ⊎_elim}
use mathlib.Core.Bool.{true, cond}
use mathlib.Core.Option.{none, some}
use mathlib.Core.List.{List, [], ◌∷◌}
use Prim.Native.Nat.{ℕ, zero, suc, ◌≤◌, ◌<◌}
use native.Mathlib.Omega.{arith}
use lib.Dec.{eqb}
use lib.IntN.{ℤ, pos, negsuc}
use borrow.Author.Tests.{ne_eqb}
use Rattle.model.specs.Answers.{Said, refused, replied, said}
use Rattle.model.specs.Codes.{running, nobody, View}
use Rattle.model.specs.Operations.{has_receive}
use Rattle.model.specs.Calls.{Call, begin_via, step, cancel, tick, load}
use Rattle.model.specs.Atomic.{Run, nothing, sending, receiving, AtomicThread, Machine, begins, cancels, ticks, rendezvous, aborts, runs, sender_after, play, CanAbort, cancelled_sending, late_sending, cancelled_receiving, late_receiving, Can}
use Rattle.model.specs.Linearization.{Observed, Entry, play_entry, played, AtStep, AtCall, Allowed, Follows, FollowsAll, Linearizes}
use Rattle.model.proofs.Laws.{by, same?}
use Rattle.laws.proofs.Lists.{update_same, update_other}
use Rattle.pairing.proofs.Sides.{receiver}
use Rattle.pairing.proofs.Effects.{parties, parties-run, receiver-ends}
use Rattle.pairing.proofs.Operations.{AllAllowed, run-begun}

-- ---- the entry that an outcome tells
-- the entry of a step after which thread x, running until then, shows this code and source: an abort of x, a rendezvous with x as receiver, or none that x tells
abbrev entry_by : ℕ → ℤ → ℕ → Entry
entry_by x (pos zero) source = cond (eqb source nobody) none (some (rendezvous source x))
entry_by x (pos (suc k)) source = none
entry_by x (negsuc k) source = some (aborts x (negsuc k))

-- the entry that x tells by its outcome
abbrev entry_of : ℕ → AtomicThread → Entry
entry_of x q = entry_by x q.outcome.code q.outcome.source

-- a thread that shows running tells none
running-tells : (x : ℕ) (q : AtomicThread) → q.outcome.code ≡ running → entry_of x q ≡ none
running-tells x q r = rw r refl

-- nor does the sender of a rendezvous, running until then
sender-tells : (s : ℕ) (run : Run) (q : AtomicThread) → q.outcome.code ≡ running → entry_of s (sender_after run q) ≡ none
unfolding sender_after
sender-tells s nothing q r = running-tells s q r
sender-tells s (sending o) q r = by (has_receive o.receive) (λ b. rw b (running-tells s q r)) (λ b. rw b refl)
sender-tells s (receiving w) q r = running-tells s q r

module _ (n : ℕ) (small : n ≤ nobody) (p : Machine) where
  -- x runs, and tells the entry after it
  abbrev Tells : ℕ → Entry → Type 0
  Tells x e = (runs (p x).run ≡ true) × (entry_of x (play_entry n e p x) ≡ e)

  -- the receiver of a rendezvous tells it: its source is a thread
  receiver-tells : (s r : ℕ) → Can n (rendezvous s r) p → Tells r (some (rendezvous s r))
  receiver-tells s r l =
      let h = parties n p s r l in
      let thread = l.0 in
      (parties-run p s r h receiver, rw (receiver-ends p s r h n, ne_eqb s nobody (λ e. omega arith)) refl)

  -- a thread that aborts tells it: its code is a failure
  abort_tells : (x : ℕ) (c : ℤ) → CanAbort n p x c → Tells x (some (aborts x c))
  unfolding play
  abort_tells x c (cancelled_sending o e m) = (rw e refl, rw update_same refl)
  abort_tells x c (late_sending o e t k) = (rw e refl, rw update_same refl)
  abort_tells x c (cancelled_receiving w e m) = (rw e refl, rw update_same refl)
  abort_tells x c (late_receiving w e t k) = (rw e refl, rw update_same refl)

  -- an entry of a step is none, or a thread tells it
  told : (e : Entry) → AtStep e → Allowed n e p → (e ≡ none) ⊎ ((x : ℕ) × (x < n) × Tells x e)
  told none a l = inl refl
  told (some (begins y o)) a l = absurd a
  told (some (cancels y)) a l = absurd a
  told (some ticks) a l = absurd a
  told (some (rendezvous s r)) a l = inr (r, l.1, receiver-tells s r l)
  told (some (aborts x c)) a l = inr (x, l.0, abort_tells x c l.1)

  -- no thread that was running tells another entry
  tells-only : (e : Entry) → AtStep e → Allowed n e p → (x : ℕ) → (p x).outcome.code ≡ running → (entry_of x (play_entry n e p x) ≡ none) ⊎ (entry_of x (play_entry n e p x) ≡ e)
  unfolding play
  tells-only none a l x r = inl (running-tells x (p x) r)
  tells-only (some (begins y o)) a l x r = absurd a
  tells-only (some (cancels y)) a l x r = absurd a
  tells-only (some ticks) a l x r = absurd a
  tells-only (some (rendezvous s y)) a l x r = same? x y
      (λ e. rw e (inr (receiver-tells s y l).1))
      (λ d. same? x s
      (λ e. rw (e, update_same) (inl (sender-tells s (p s).run (p s) (rw e at r))))
      (λ k. rw (update_other _ s _ x k, update_other p y _ x d) (inl (running-tells x (p x) r))))
  tells-only (some (aborts y c)) a l x r = same? x y
      (λ e. rw e (inr (abort_tells y c l.1).1))
      (λ d. rw (update_other p y _ x d) (inl (running-tells x (p x) r)))

-- ---- entries are forced
-- the place of a call forces its entry, if that of a step does
place-forced : (call : Call) (a : Said) (p : Machine) (e other : Entry) → AtCall call a e p → AtCall call a other p → (AtStep e → AtStep other → e ≡ other) → e ≡ other
place-forced call (refused g) p e other h k f = h ∙ sym k
place-forced (begin_via via x o) (replied a) p e other h k f = h.event ∙ sym k.event
place-forced (step x) (replied a) p e other h k f = f h k
place-forced (cancel x) (replied a) p e other h k f = h.event ∙ sym k.event
place-forced tick (replied a) p e other h k f = h.event ∙ sym k.event
place-forced (load rules) (replied a) p e other h k f = h ∙ sym k

module _ (n : ℕ) (small : n ≤ nobody) (past : List Entry) (l : AllAllowed n past) (c : Observed) where
  -- of two entries that follow the same step, the first is none or the second
  none-or-same : (e other : Entry) → AtStep e → AtStep other → Follows n past c e → Follows n past c other → (e ≡ none) ⊎ (e ≡ other)
  unfolding played
  none-or-same e other a b f g =
      ⊎_elim inl
      (λ h. let x = h.0 in
      let seen = sym h.2.1 ∙ ap (λ (v : View). entry_by x v.outcome.code v.outcome.source) (sym (f.views x h.1) ∙ g.views x h.1) in
      let shown = (run-begun n x past l h.2.0).runs.shown h.2.0 in
      ⊎_elim (λ i. inl (seen ∙ i)) (λ i. inr (seen ∙ i)) (tells-only n small (played n past) other b g.allowed x shown))
      (told n small (played n past) e a f.allowed)

  -- two entries that follow the same call are the same
  pub same-entry : (e other : Entry) → Follows n past c e → Follows n past c other → e ≡ other
  same-entry e other f g = place-forced c.call (said c.answer) (played n past) e other f.place g.place
      (λ a b. ⊎_elim (λ i. ⊎_elim (λ j. i ∙ sym j) sym (none-or-same other e b a g f)) (λ i. i) (none-or-same e other a b f g))

-- two linearizations of one trace are the same, after any allowed past
pub forced : (n : ℕ) → n ≤ nobody → (past : List Entry) → AllAllowed n past → (trace : List Observed) (one other : List Entry) → FollowsAll n past trace one → FollowsAll n past trace other → one ≡ other
forced n small past l [] [] [] f g = refl
forced n small past l [] (e ∷ one) other f g = absurd f
forced n small past l [] [] (e ∷ other) f g = absurd g
forced n small past l (c ∷ trace) [] other f g = absurd f
forced n small past l (c ∷ trace) (e ∷ one) [] f g = absurd g
forced n small past l (c ∷ trace) (e ∷ one) (d ∷ other) f g =
    let i = same-entry n small past l c e d f.0 g.0 in
    let j = forced n small (e ∷ past) (l, f.0.allowed) trace one other f.1 (subst (λ (v : Entry). FollowsAll n (v ∷ past) trace other) (sym i) g.1) in
    cc

-- two linearizations of one trace are the same
pub linearization-forced : (n : ℕ) → n ≤ nobody → (trace : List Observed) (one other : List Entry) → Linearizes n trace one → Linearizes n trace other → one ≡ other
linearization-forced n small trace one other f g = forced n small [] tt trace one other f.follows g.follows
