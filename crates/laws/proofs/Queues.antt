-- Laws of a thread's queue: what joining it and leaving it make of the waiting senders, and who sends to whom.
use mathlib.Core.Path.{◌≡◌, refl, ap, ◌∙◌, fun_ext}
use mathlib.Core.Bool.{Bool, true, false}
use mathlib.Core.List.{[], ◌∷◌, ◌++◌}
use Prim.Native.Nat.{ℕ, ◌-◌, ◌≤◌, ◌<◌}
use native.Mathlib.Numerals.{add-one}
use native.Mathlib.Omega.{arith}
use lib.ListN.{length, drop, length-append, length-drop, length-set}
use lib.Seq.{length-take-le, take_at, take-suc-set}
use lib.Dec.{eqb}
use Rattle.model.specs.declared.Thread.{Thread}
use Rattle.model.specs.Lists.{occurs, without}
use Rattle.model.specs.Queues.{senders, joined, departed}
use Rattle.model.specs.WellFormed.{sends_to}
use Rattle.laws.proofs.Lists.{length-one_less}

-- as many senders wait as the length says
pub senders-length : (h : Thread) → length h.queue.items ≡ 32 → h.queue.len ≤ 32 → length (senders h) ≡ h.queue.len
unfolding senders
senders-length h whole few = length-take-le h.queue.len h.queue.items (omega arith)

module _ (s : ℕ) (h : Thread) (whole : length h.queue.items ≡ 32) where
  module _ (few : h.queue.len ≤ 32) (there : 1 ≤ occurs s (senders h)) where
    -- without one sender, one less waits
    one_less : length (without s (senders h)) ≡ h.queue.len - 1
    one_less = length-one_less s (senders h) there ∙ ap (λ (k : ℕ). k - 1) (senders-length h whole few)

    -- a sender that leaves is gone, the others wait as before
    pub senders-departed : senders (departed s h) ≡ without s (senders h)
    unfolding departed senders
    senders-departed = take_at (without s (senders h)) (drop (h.queue.len - 1) h.queue.items) (h.queue.len - 1) one_less

    -- the array keeps its length
    pub departed-length : length (departed s h).queue.items ≡ 32
    unfolding departed
    departed-length = simp (length-append, length-drop, one_less) (omega arith)

  module _ (room : h.queue.len < 32) where
    -- a sender that joins waits behind the others
    pub senders-joined : senders (joined s h) ≡ senders h ++ (s ∷ [])
    unfolding joined senders
    senders-joined = rw add-one (take-suc-set h.queue.items h.queue.len s (omega arith))

    -- the array keeps its length
    pub joined_length : length (joined s h).queue.items ≡ 32
    unfolding joined
    joined_length = length-set h.queue.items h.queue.len s ∙ whole

-- ---- who sends to whom
-- a thread that sends, to whom it sends
pub sends-to : (h : Thread) → h.flags.send ≡ true → (u : ℕ) → sends_to h u ≡ eqb h.op.send.target u
unfolding sends_to
sends-to h e u = rw e refl

-- one that does not send, sends to nobody
pub sends-nowhere : (h : Thread) → h.flags.send ≡ false → (u : ℕ) → sends_to h u ≡ false
unfolding sends_to
sends-nowhere h e u = rw e refl

-- the same of the whole function
pub silent : (h : Thread) → h.flags.send ≡ false → ◌≡◌ {A = ℕ → Bool} (sends_to h) (λ u. false)
silent h e = fun_ext (sends-nowhere h e)
