-- What it is for a thread to be ready for a sender.
use mathlib.Core.Path.{fun_ext, ◌≡◌, refl}
use mathlib.Core.Bool.{Bool, true, false, not, ◌&&◌}
use Prim.Native.Nat.{ℕ}
use borrow.Author.Tests.{not-true}
use Rattle.model.specs.declared.Thread.{Thread}
use Rattle.model.specs.Lists.{all_of}
use Rattle.model.specs.Operations.{accepts}
use Rattle.model.specs.Queues.{ready}
use Rattle.model.specs.Atomic.{Machine, accepts_in, is_receiving, ready_for}
use Rattle.model.proofs.Laws.{all_of-read}

-- thread h is ready for s
pub record IsReady (h : Thread) (s : ℕ) : Type 0 where
  pub running : h.flags.ipc ≡ true
  pub receiving : h.flags.receiving ≡ true
  pub not_sending : h.flags.send ≡ false
  pub unmarked : h.flags.mark ≡ false
  pub accepting : accepts h.op.receive s ≡ true

-- a thread that passes the test is ready
pub ready_read : (h : Thread) (s : ℕ) → ready h s ≡ true → IsReady h s
unfolding ready
ready_read h s e =
    let (running, (receiving, (not_sending, (unmarked, (accepting, end))))) = all_of-read _ e in
    record { running = running; receiving = receiving; not_sending = not-true h.flags.send not_sending; unmarked = not-true h.flags.mark unmarked; accepting = accepting }

-- a thread that does not run a receive is ready for nobody
pub not-ready : (h : Thread) → (h.flags.ipc && h.flags.receiving && not h.flags.send) ≡ false → (s : ℕ) → ready h s ≡ false
unfolding ready all_of
not-ready h e s = none h.flags.ipc h.flags.receiving (not h.flags.send) _ e
  where
    none : (a b c d : Bool) → (a && b && c) ≡ false → (a && (b && (c && d))) ≡ false
    none true true c d e = rw e refl
    none true false c d e = refl
    none false b c d e = refl

-- the same of the whole function
pub never-ready : (h : Thread) → (h.flags.ipc && h.flags.receiving && not h.flags.send) ≡ false → ◌≡◌ {A = ℕ → Bool} (ready h) (λ s. false)
never-ready h e = fun_ext (not-ready h e)

-- ---- the atomic machine
-- thread r of the atomic machine is ready for s
pub record IsReadyFor (p : Machine) (r s : ℕ) : Type 0 where
  pub receiving : is_receiving (p r).run ≡ true
  pub unmarked : (p r).mark ≡ false
  pub accepting : accepts_in (p r).run s ≡ true

-- one that passes the test is ready
pub ready_for-read : (p : Machine) (r s : ℕ) → ready_for p r s ≡ true → IsReadyFor p r s
unfolding ready_for
ready_for-read p r s e = let (receiving, (unmarked, (accepting, end))) = all_of-read _ e in
    record { receiving = receiving; unmarked = not-true (p r).mark unmarked; accepting = accepting }
