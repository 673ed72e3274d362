-- From what the code finds to what the test says.
use mathlib.Core.Path.{◌≡◌, sym, ◌∙◌}
use mathlib.Core.Bool.{true≢false, false≢true, Bool, true, false}
use mathlib.Core.List.{List}
use Prim.Native.Nat.{ℕ, ◌≤◌, ◌<◌}
use borrow.Author.Tests.{ltb-true}
use Rattle.model.specs.declared.Table.{Table}
use Rattle.model.specs.Lists.{all_below}
use Rattle.model.specs.Rules.{rules_fit}
use Rattle.model.specs.Threads.{at}
use Rattle.model.specs.Queues.{senders}
use Rattle.model.specs.WellFormed.{Shaped, WellFormed, well_formed}
use Rattle.model.proofs.Laws.{by, implies-made}
use Rattle.model.proofs.Numbers.{size-read, size-made}
use Rattle.model.proofs.Tested.{well_formed-tested, well_formed-told}
use Rattle.formed.proofs.Formed.{Formed, formed_grouped, formed_ungrouped}
use Rattle.clauses.specs.Alone.{own_fits}
use Rattle.clauses.proofs.Alone.{own-tested}
use Rattle.wellformed.specs.Links.{number_at, target_at, owner_at, held_at, link_fits, copy_ready}
use Rattle.wellformed.specs.Waiting.{Free}
use Rattle.wellformed.proofs.Passed.{Passed, next-free, passed-formed, formed-passed}

-- a table that is not well-formed
refused : (t : Table) → (WellFormed t → ⊥) → false ≡ well_formed t
refused t wrong = by (well_formed t) (λ e. absurd (wrong (well_formed-told t e))) sym

-- its size is wrong
pub size-refused : (t : Table) → (1 ≤ t.n → t.n ≤ 32 → ⊥) → false ≡ well_formed t
size-refused t wrong = refused t (λ w. let (some, few) = size-read t.n w.size in wrong some few)

-- its rules do not fit
pub rules-refused : (t : Table) → rules_fit t.n t.rules ≡ false → false ≡ well_formed t
rules-refused t e = refused t (λ w. true≢false (sym w.rules ∙ e))

module _ (t : Table) (z : Shaped t) where
  -- its threads are not well-formed
  not-formed : (Formed t.n (at t) → ⊥) → false ≡ well_formed t
  not-formed wrong = refused t (λ w. wrong (formed_grouped t w z))

  -- thread x is not well-formed by itself
  pub alone-refused : (x : ℕ) → x < t.n → own_fits t.n x (at t x) ≡ false → false ≡ well_formed t
  alone-refused x xn e = not-formed (λ F. true≢false (sym (own-tested t.n x (at t x) (F.own x xn)) ∙ e))

  -- thread x copies to one that is not ready
  pub copy-refused : (x : ℕ) → x < t.n → copy_ready t x (at t x) ≡ false → false ≡ well_formed t
  copy-refused x xn e = not-formed (λ F. true≢false (sym (implies-made _ _ (λ l. F.copies x xn (ltb-true _ _ l))) ∙ e))

  -- the senders of thread k are not free
  pub queue-refused : t.n ≤ 32 → {k : ℕ} {waits : List ℕ} → Passed t k waits → k < t.n → (Free t.n (number_at waits) (senders (at t k)) → ⊥) → false ≡ well_formed t
  queue-refused few P kn clash = not-formed (λ F. clash (next-free t few P F kn))

  module _ (some : 1 ≤ t.n) (few : t.n ≤ 32) (fit : rules_fit t.n t.rules ≡ true) where
    -- its threads are well-formed
    formed : Formed t.n (at t) → true ≡ well_formed t
    formed F = sym (well_formed-tested t (formed_ungrouped t (size-made t.n some few) fit F))

    -- all threads passed, and it is told whether they fit together
    pub links_verdict : {waits : List ℕ} → Passed t t.n waits
        → (b : Bool) → b ≡ all_below t.n (link_fits t.n (number_at waits) (target_at t) (owner_at t) (held_at t)) → b ≡ well_formed t
    links_verdict P true e = formed (passed-formed t few P (sym e))
    links_verdict P false e = not-formed (λ F. false≢true (e ∙ formed-passed t few P F))
