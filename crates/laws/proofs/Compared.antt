-- What a replay compares besides conditions: answers that agree and views that are equal pass its tests.
use mathlib.Core.Path.{◌≡◌, refl, ap, subst}
use mathlib.Core.Bool.{true}
use mathlib.Core.Option.{none, some}
use borrow.Author.Tests.{eq-eqb}
use Rattle.model.specs.Answers.{Said, refused, replied}
use Rattle.model.specs.Calls.{Call, begin_via, step, cancel, tick, load}
use Rattle.model.specs.Codes.{View}
use Rattle.model.specs.Atomic.{Machine, begins, cancels, ticks, rendezvous, aborts}
use Rattle.model.specs.Linearization.{Entry, AtCall}
use Rattle.model.proofs.Replay.{same_view, reply_number, answer_test}
use Rattle.laws.proofs.Codes.{code-itself}
use Rattle.laws.proofs.Same.{same-itself}
use Rattle.model.proofs.Laws.{◌and◌, all_of-made}

-- ---- answers
-- an entry that may stand in a call's place is answered alike
pub placed-tested : (c : Call) (a : Said) (e : Entry) (p : Machine) → AtCall c a e p → answer_test e a p ≡ true
placed-tested c (refused g) e p h = rw h refl
placed-tested (begin_via via x o) (replied a) e p h = rw h.event (eq-eqb _ _ (ap reply_number h.answer))
placed-tested (step x) (replied a) none p h = refl
placed-tested (step x) (replied a) (some (begins y o)) p h = absurd h
placed-tested (step x) (replied a) (some (cancels y)) p h = absurd h
placed-tested (step x) (replied a) (some ticks) p h = absurd h
placed-tested (step x) (replied a) (some (rendezvous s r)) p h = refl
placed-tested (step x) (replied a) (some (aborts y c)) p h = refl
placed-tested (cancel x) (replied a) e p h = rw h.event (eq-eqb _ _ (ap reply_number h.answer))
placed-tested tick (replied a) e p h = rw h.event (eq-eqb _ _ (ap reply_number h.answer))
placed-tested (load rules) (replied a) e p h = rw h refl

-- ---- views
-- views that are equal pass the test
pub view-tested : (v w : View) → v ≡ w → same_view v w ≡ true
unfolding same_view
view-tested v w e = subst (λ (u : View). same_view v u ≡ true) e (all_of-made _ (
    code-itself v.outcome.code and eq-eqb v.outcome.source _ refl and eq-eqb v.outcome.count _ refl and same-itself v.words and tt))
