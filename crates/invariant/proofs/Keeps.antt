-- Every call keeps a table well-formed, refused or not, from every well-formed table.
use mathlib.Core.Path.{◌≡◌, sym, ◌∙◌, subst}
use mathlib.Core.Logic.{◌≢◌}
use mathlib.Core.Bool.{true, false}
use Prim.Native.Nat.{ℕ, ◌<◌}
use native.Mathlib.Omega.{arith}
use lib.ListN.{length}
use Rattle.model.specs.declared.Operation.{Operation}
use Rattle.model.specs.declared.Thread.{Thread}
use Rattle.model.specs.declared.Table.{Table}
use Rattle.model.specs.Lists.{update}
use Rattle.model.specs.Operations.{target_beyond}
use Rattle.model.specs.Rules.{rules_fit}
use Rattle.model.specs.Threads.{at, edit}
use Rattle.model.specs.Queues.{joined}
use Rattle.model.specs.WellFormed.{Shaped, WellFormed, well_formed}
use Rattle.model.specs.Step.{decide}
use Rattle.model.specs.Calls.{ticked, begin_table, tick_table, Call, begin_via, step, cancel, tick, load, State, accepted_state}
use Rattle.model.specs.Refusals.{refusal}
use Rattle.model.specs.Promise.{next}
use Rattle.model.proofs.Tested.{well_formed-tested, well_formed-told}
use Rattle.laws.proofs.Tables.{edit-at, edit-length, edit-two-at, below_length, act-length}
use Rattle.laws.proofs.Refusals.{AcceptedBegin, accepted-table, accepted-begin, accepted-step, accepted-cancel, accepted-load}
use Rattle.laws.proofs.Calls.{accepted?, accepted-next, refused-next, begin-cases, cancel-cases, rules_after}
use Rattle.formed.proofs.Formed.{Formed, formed_grouped, formed_ungrouped}
use Rattle.invariant.proofs.Frames.{next-size, accepted-rules}
use Rattle.invariant.proofs.Steps.{step_keeps}
use Rattle.invariant.proofs.Begins.{CanBegin, begin-send_keeps, begin-receive_keeps, begin-beyond_keeps, cancel_keeps, tick_keeps}

-- the threads after a change are well-formed, and the array has its 32 places
pub record Kept (n : ℕ) (after : Table) : Type 0 where
  pub whole : length after.threads ≡ 32
  pub formed : Formed n (at after)

module _ (t : Table) (whole : length t.threads ≡ 32) (F : Formed t.n (at t)) where
  -- one thread is edited
  edited : (x : ℕ) (f : Thread → Thread) → x < t.n → Formed t.n (update (at t) x (f (at t x))) → Kept t.n (edit x f t)
  edited x f xn after = let few = F.few in
      record { whole = edit-length x f t ∙ whole; formed = subst (Formed t.n) (sym (edit-at x f t (omega arith))) after }

  -- r is edited, and then x
  edited-two : (x r : ℕ) (f g : Thread → Thread) → x < t.n → r < t.n → x ≢ r → Formed t.n (update (update (at t) r (g (at t r))) x (f (at t x)))
      → Kept t.n (edit x f (edit r g t))
  edited-two x r f g xn rn apart after = let few = F.few in record {
    whole = edit-length x f (edit r g t) ∙ edit-length r g t ∙ whole;
    formed = subst (Formed t.n) (sym (edit-two-at x r f g t (omega arith) (omega arith) apart)) after;
  }

-- an accepted begin
begin-kept : (x : ℕ) (o : Operation) (s : State) → AcceptedBegin s x o → length s.table.threads ≡ 32 → Formed s.table.n (at s.table) → Kept s.table.n (begin_table x o s.table)
begin-kept x o s b whole F = let t = s.table in begin-cases x o t (Kept t.n)
    (λ far. edited t whole F x _ b.below (begin-beyond_keeps F x b.below b.unowned b.in_idle))
    (λ near sends below. edited-two t whole F x o.send.target _ (joined x) b.below below (λ i. b.other_target sends (sym i))
    (begin-send_keeps F x b.below b.unowned b.in_idle o (can_begin near) sends below))
    (λ near alone. edited t whole F x _ b.below (begin-receive_keeps F x b.below b.unowned b.in_idle o (can_begin near) alone (rw alone at b.part)))
  where
    can_begin : target_beyond s.table.n o ≡ false → CanBegin s.table.n x o
    can_begin near = record { sends = b.sends near; receives = b.receives; target = b.other_target; partner = b.other_partner }

-- every accepted call
accepted_keeps : (c : Call) (s : State) → refusal c s ≡ 0 → length s.table.threads ≡ 32 → Formed s.table.n (at s.table) → Kept s.table.n (accepted_state c s).table
unfolding accepted_state tick_table at
accepted_keeps (begin_via via x o) s e whole F = begin-kept x o s (accepted-begin via x o s e) whole F
accepted_keeps (step x) s e whole F = record {
  whole = act-length (decide s.table x) x s.table ∙ whole;
  formed = step_keeps s.table F x (accepted-step x s e).below whole;
}
accepted_keeps (cancel x) s e whole F = let a = accepted-cancel x s e in cancel-cases x s.table (Kept s.table.n)
    (λ runs. edited s.table whole F x _ a.below (cancel_keeps F x a.below a.unowned runs))
    (λ over. record { whole = whole; formed = F })
accepted_keeps tick s e whole F = record {
  whole = below_length ticked s.table s.table.n ∙ whole;
  formed = tick_keeps s.table whole F s.table.n (omega arith);
}
accepted_keeps (load rules) s e whole F = record { whole = whole; formed = F }

-- rules that fit before an accepted call, or are loaded by it, fit after it
rules-kept : (c : Call) (s : State) → refusal c s ≡ 0 → rules_fit s.table.n s.table.rules ≡ true → rules_fit s.table.n (rules_after c s.table.rules) ≡ true
rules-kept (begin_via via x o) s e fit = fit
rules-kept (step x) s e fit = fit
rules-kept (cancel x) s e fit = fit
rules-kept tick s e fit = fit
rules-kept (load rules) s e fit = accepted-load rules s e

-- ---- every call, refused or not
module _ (c : Call) (s : State) where
  -- an accepted call found a well-formed table
  pub found-formed : Shaped s.table → refusal c s ≡ 0 → Formed s.table.n (at s.table)
  found-formed z e = formed_grouped s.table (well_formed-told s.table (accepted-table c s e)) z

  -- what an accepted call leaves
  pub accepted-kept : Shaped s.table → refusal c s ≡ 0 → Kept s.table.n (next c s).table
  accepted-kept z e = subst (λ (after : State). Kept s.table.n after.table) (sym (accepted-next c s e)) (accepted_keeps c s e z.threads (found-formed z e))

  -- arrays keep their lengths
  pub keeps_shaped : Shaped s.table → Shaped (next c s).table
  keeps_shaped z = accepted? c s
      (λ e. let k = accepted-kept z e in record { threads = k.whole; queues = λ x xn. (k.formed.own x (rw (next-size c s) at xn)).items })
      (λ g e. rw (refused-next c s g e) z)

  -- its rules fit
  rules-fit : refusal c s ≡ 0 → WellFormed s.table → rules_fit (next c s).table.n (next c s).table.rules ≡ true
  rules-fit e w = rw (next-size c s, accepted-next c s e, accepted-rules c s) (rules-kept c s e w.rules)

  -- a well-formed table stays well-formed; that its arrays have their places is asked because a sender that joins a queue is put into one
  pub keeps_well_formed : Shaped s.table → WellFormed s.table → WellFormed (next c s).table
  keeps_well_formed z w = accepted? c s
      (λ e. formed_ungrouped (next c s).table (rw (next-size c s) w.size) (rules-fit e w) (rw (next-size c s) (accepted-kept z e).formed))
      (λ g e. rw (refused-next c s g e) w)

  -- as the test has it, which every call computes
  pub keeps_test : Shaped s.table → well_formed s.table ≡ true → well_formed (next c s).table ≡ true
  keeps_test z e = well_formed-tested (next c s).table (keeps_well_formed z (well_formed-told s.table e))
