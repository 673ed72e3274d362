-- An accepted begin is its event of the atomic machine, in each of its three cases.
use mathlib.Core.Path.{◌≡◌, refl, sym, ap}
use mathlib.Core.Bool.{true, false, not}
use mathlib.Core.Option.{some}
use mathlib.Core.List.{List, []}
use Prim.Native.Nat.{ℕ, ◌<◌}
use native.Mathlib.Omega.{arith}
use lib.ListN.{length}
use borrow.Author.Tests.{not-true}
use Rattle.model.specs.declared.Operation.{Operation}
use Rattle.model.specs.declared.Thread.{Thread}
use Rattle.model.specs.Lists.{update}
use Rattle.model.specs.Codes.{nobody, no_receiver, code_only}
use Rattle.model.specs.Operations.{target_beyond}
use Rattle.model.specs.Phases.{Phase, idle, lock, look, phase_of, is_one_of}
use Rattle.model.specs.Threads.{at, ended}
use Rattle.model.specs.Queues.{joined}
use Rattle.model.specs.Store.{words_at, zeroed}
use Rattle.model.specs.Calls.{begun_flags, begun, begin_table, State}
use Rattle.model.specs.Atomic.{Machine, begins, ending, beginning, play, Can}
use Rattle.laws.proofs.Tables.{edit-at, edit-two-at}
use Rattle.laws.proofs.Store.{words-zeroed-other}
use Rattle.laws.proofs.Refusals.{AcceptedBegin}
use Rattle.laws.proofs.Calls.{begin-cases}
use Rattle.formed.proofs.Flags.{cases}
use Rattle.formed.specs.Groups.{copies_to}
use Rattle.formed.proofs.Neighbours.{in-phase, copies-in, below-nobody, no-copier}
use Rattle.simulation.proofs.Abstraction.{abstraction, copies-nowhere, copied-kept}
use Rattle.simulation.proofs.Leads.{Simulates, Leads, OthersKept, own-leads, alone-leads}
use Rattle.simulation.proofs.Conditions.{rests-alike}

-- thread x, in idle and with a free lock, begins o
module _ {n : ℕ} {p : Machine} {T : ℕ → Thread} {store : List ℕ} (S : Simulates n p T store) (x : ℕ) (xn : x < n)
    (unowned : (T x).owner ≡ nobody) (in_idle : phase_of (T x).phase ≡ idle) (o : Operation) where
  -- the thread that begins
  abbrev h : Thread
  h = T x

  -- the store afterwards
  abbrev after : List ℕ
  after = zeroed x store

  -- nobody copies to x, whose words are zeroed
  zeroed-kept : OthersKept n T x store after
  zeroed-kept = record {
    words = λ y yn d. ap (abstraction (T y)) (sym (words-zeroed-other store x y d));
    copied = λ y yn d. copied-kept n store after (T y)
        (λ l. words-zeroed-other store x (copies_to (T y)) (no-copier S.formed x xn unowned y yn)) (S.copied y yn);
  }

  -- the begin is allowed
  may : Can n (begins x o) p
  unfolding cases
  may = (xn, rests-alike S x xn (not-true h.flags.ipc (in-phase S.formed x xn idle in_idle (λ v r s. not v.ipc) refl)))

  -- x copies to nobody
  calm : copies_to h ≡ nobody
  unfolding is_one_of
  calm = copies-in S.formed x xn idle in_idle

  -- a target outside the table
  beyond-leads : target_beyond n o ≡ true → Leads n (some (begins x o)) p (update T x (ended (code_only no_receiver) h)) after
  unfolding play beginning abstraction copies_to
  beyond-leads far = alone-leads S x xn after zeroed-kept (some (begins x o)) may (ended (code_only no_receiver) h) (beginning n o (p x)) refl
      (rw far (ap (ending (code_only no_receiver) []) (S.like x xn))) (copies-nowhere n after (ended (code_only no_receiver) h) (below-nobody S.formed) calm)

  -- else x begins alike in both machines, in whatever phase it enters
  begun-alike : (q : Phase) → target_beyond n o ≡ false → beginning n o (p x) ≡ abstraction (begun o q h) (words_at after x)
  unfolding beginning begun begun_flags abstraction
  begun-alike q near = rw near refl

  -- with a send part
  to-send-leads : target_beyond n o ≡ false → Leads n (some (begins x o)) p (update (update T o.send.target (joined x (T o.send.target))) x (begun o lock h)) after
  unfolding play begun joined abstraction copies_to is_one_of
  to-send-leads near = own-leads S x xn after zeroed-kept (some (begins x o)) may o.send.target (joined x (T o.send.target)) (begun o lock h) (beginning n o (p x)) refl refl
      (begun-alike lock near) (λ k. k) (copies-nowhere n after (begun o lock h) (below-nobody S.formed) refl)

  -- without one
  to-receive-leads : target_beyond n o ≡ false → Leads n (some (begins x o)) p (update T x (begun o look h)) after
  unfolding play begun copies_to is_one_of
  to-receive-leads near = alone-leads S x xn after zeroed-kept (some (begins x o)) may (begun o look h) (beginning n o (p x)) refl
      (begun-alike look near) (copies-nowhere n after (begun o look h) (below-nobody S.formed) refl)

-- an accepted begin is its event
pub begin-leads : (s : State) {p : Machine} → Simulates s.table.n p (at s.table) s.store → length s.table.threads ≡ 32 → (x : ℕ) (o : Operation) → AcceptedBegin s x o
    → Leads s.table.n (some (begins x o)) p (at (begin_table x o s.table)) (zeroed x s.store)
begin-leads s {p} S whole x o b = let t = s.table in begin-cases x o t (λ after. Leads t.n (some (begins x o)) p (at after) (zeroed x s.store))
    (λ far. rw (edit-at x (ended (code_only no_receiver)) t (omega arith)) (beyond-leads S x b.below b.unowned b.in_idle o far))
    (λ near sends below. rw (edit-two-at x o.send.target (begun o lock) (joined x) t (omega arith) (omega arith) (λ i. b.other_target sends (sym i)))
    (to-send-leads S x b.below b.unowned b.in_idle o near))
    (λ near alone. rw (edit-at x (begun o look) t (omega arith)) (to-receive-leads S x b.below b.unowned b.in_idle o near))
