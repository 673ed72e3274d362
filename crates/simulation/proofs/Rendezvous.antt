-- The end of a copy is the rendezvous of its sender and its receiver.
use mathlib.Core.Path.{◌≡◌, refl, ◌∙◌, subst}
use mathlib.Core.Bool.{true, false}
use mathlib.Core.Option.{some}
use mathlib.Core.List.{List}
use Prim.Native.Nat.{ℕ, ◌≤◌, ◌<◌}
use native.Mathlib.Omega.{arith}
use lib.ListN.{get_or, take}
use Rattle.model.specs.declared.Thread.{Thread}
use Rattle.model.specs.Lists.{update}
use Rattle.model.specs.Operations.{has_receive, message}
use Rattle.model.specs.Codes.{nobody}
use Rattle.model.specs.Phases.{copy, phase_of, is_one_of}
use Rattle.model.specs.Queues.{departed}
use Rattle.model.specs.Store.{words_at}
use Rattle.model.specs.Step.{finish_call, finish_send, received, own_after, other_after}
use Rattle.model.specs.Atomic.{sending, Machine, rendezvous, receiver_after, sender_after, play, Can}
use Rattle.laws.proofs.Store.{words-are-message}
use Rattle.laws.proofs.Decided.{after_action}
use Rattle.formed.proofs.Facts.{sends-runs}
use Rattle.formed.specs.Groups.{copies_to}
use Rattle.formed.proofs.Neighbours.{target-in_copy, below-nobody, sends-in_copy}
use Rattle.formed.proofs.Receivers.{copies-to-target, receiver-ready, message-short}
use Rattle.simulation.proofs.Abstraction.{abstraction, copies-nowhere}
use Rattle.simulation.proofs.Leads.{Simulates, Leads, same_store, both_lead}
use Rattle.simulation.proofs.Conditions.{sends-alike, ready-alike}

-- thread x is in copy and has copied its whole message
module _ {n : ℕ} {p : Machine} {T : ℕ → Thread} {store : List ℕ} (S : Simulates n p T store) (x : ℕ) (xn : x < n)
    (c : phase_of (T x).phase ≡ copy) (all : (T x).op.send.count ≤ (T x).copied) where
  -- the sender
  abbrev h : Thread
  h = T x

  -- its target, the receiver
  abbrev target : ℕ
  target = (T x).op.send.target

  -- its target is a thread of the table
  below : target < n
  below = (target-in_copy S.formed x xn c).below

  -- it sends
  sends : (p x).run ≡ sending h.op
  sends = sends-alike S x xn (sends-in_copy S.formed x xn c)

  -- the rendezvous is allowed
  may : Can n (rendezvous x target) p
  may = (xn, below, record { operation = h.op; runs = sends; target = refl }, ready-alike S target below x ∙ receiver-ready S.formed x xn c)

  -- the receiver's first words are the message
  message-there : take h.op.send.count (words_at store target) ≡ message h.op.send
  message-there = words-are-message store n target S.fit below h.op.send (message-short S.formed x xn c) (λ j l. there j (omega arith))
    where
      there : (j : ℕ) → j < h.copied → get_or (words_at store target) j 0 ≡ get_or h.op.send.words j 0
      there = let to = copies-to-target S.formed x xn c in
          subst (λ (r : ℕ). (j : ℕ) → j < h.copied → get_or (words_at store r) j 0 ≡ get_or h.op.send.words j 0) to (S.copied x xn (rw to below))

  -- the receiver ends alike in both machines
  receiver-alike : receiver_after x (p x).run (p target) ≡ abstraction (received x h (T target)) (words_at store target)
  unfolding receiver_after received departed abstraction
  receiver-alike = rw (sends, S.like target below, message-there) refl

  -- x becomes f, as the sender does in the atomic machine
  rendezvous-leads : (f : Thread) → sender_after (p x).run (p x) ≡ abstraction f (words_at store x) → copies_to f ≡ nobody
      → Leads n (some (rendezvous x target)) p (update (update T target (received x h (T target))) x f) store
  unfolding play received departed copies_to
  rendezvous-leads f alike calm = both_lead S x xn store (same_store S x xn) (some (rendezvous x target)) may target (received x h (T target)) f
      (receiver_after x (p x).run (p target)) (sender_after (p x).run (p x)) refl
      (λ rn d. receiver-alike) alike (λ rn d. S.copied target rn) (copies-nowhere n store f (below-nobody S.formed) calm)

  -- with a receive part it receives
  pub finish_call-leads : has_receive h.op.receive ≡ true → Leads n (some (rendezvous x target)) p (after_action finish_call T x) store
  unfolding own_after other_after sender_after abstraction copies_to is_one_of
  finish_call-leads both = rendezvous-leads (own_after finish_call h) (rw (sends, both, S.like x xn, sends-runs (S.formed.own x xn) (sends-in_copy S.formed x xn c)) refl) refl

  -- without one it ends
  pub finish_send-leads : has_receive h.op.receive ≡ false → Leads n (some (rendezvous x target)) p (after_action finish_send T x) store
  unfolding own_after other_after sender_after abstraction copies_to is_one_of
  finish_send-leads alone = rendezvous-leads (own_after finish_send h) (rw (sends, alone, S.like x xn) refl) refl
