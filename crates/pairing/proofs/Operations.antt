-- What a thread runs is a part of its latest operation.
use mathlib.Core.Path.{◌≡◌, refl, sym, ap, ◌∙◌, subst}
use mathlib.Core.Logic.{◌⊎◌, inl, inr, ⊎_elim}
use mathlib.Core.Bool.{true≢false, Bool, true, false, cond}
use mathlib.Core.Option.{none, some}
use mathlib.Core.List.{List, [], ◌∷◌}
use Prim.Native.Nat.{ℕ}
use native.Mathlib.Omega.{arith}
use lib.ListN.{length}
use Rattle.model.specs.declared.Operation.{Operation}
use Rattle.model.specs.declared.Outcome.{Outcome}
use Rattle.model.specs.Codes.{running, no_receiver, same_code, code_only}
use Rattle.model.specs.Operations.{target_beyond}
use Rattle.model.specs.Atomic.{Run, nothing, sending, receiving, AtomicThread, Machine, first_machine, runs, ending, beginning, play}
use Rattle.model.specs.Linearization.{Entry, play_entry, played, Allowed, begins_by, latest, is_running, BeginsAt}
use Rattle.model.proofs.Laws.{by}
use Rattle.laws.proofs.Lists.{update_same}
use Rattle.pairing.proofs.Effects.{Alike, equal-alike, Effect, kept, aborted, turned, sent, received, effect, abort_over, idle-kept}
use Rattle.pairing.proofs.Places.{begins-one, is-begin, latest-new, latest_old}

-- each entry of `past` was allowed where it stands
abbrev pub AllAllowed : ℕ → List Entry → Type 0
AllAllowed n [] = Unit {0}
AllAllowed n (e ∷ past) = AllAllowed n past × Allowed n e (played n past)

-- ---- what runs is a part of an operation
-- a part of operation o, or nothing
abbrev pub PartOf : Operation → Run → Type 0
PartOf o nothing = Unit {0}
PartOf o (sending u) = (u ≡ o) × (o.send.present ≡ true)
PartOf o (receiving w) = w ≡ o.receive

-- a thread runs no more than operation o: a part of it, or nothing; and it shows running exactly where it runs
pub record RunsOnly (o : Operation) (q : AtomicThread) : Type 0 where
  pub part : PartOf o q.run
  pub shown : runs q.run ≡ true → q.outcome.code ≡ running
  pub busy : same_code running q.outcome.code ≡ true → runs q.run ≡ true

-- a thread that runs nothing, and shows another code, runs no more than any operation
idle-only : (o : Operation) (q : AtomicThread) → q.run ≡ nothing → same_code running q.outcome.code ≡ false → RunsOnly o q
idle-only o q e f = record { part = subst (PartOf o) (sym e) tt; shown = λ i. absurd (true≢false (sym i ∙ ap runs e)); busy = λ i. absurd (true≢false (sym i ∙ f)) }

-- the part that an operation begins with is a part of it
first_part : (o : Operation) (present : Bool) → o.send.present ≡ present → PartOf o (cond present (sending o) (receiving o.receive))
first_part o true e = (refl, e)
first_part o false e = refl

-- and runs
first_runs : (o : Operation) (present : Bool) → runs (cond present (sending o) (receiving o.receive)) ≡ true
first_runs o true = refl
first_runs o false = refl

-- a thread that has just begun o runs no more than o
begun-only : (n : ℕ) (o : Operation) (q : AtomicThread) → RunsOnly o (beginning n o q)
unfolding beginning
begun-only n o q = by (target_beyond n o)
    (λ e. rw e (idle-only o (ending (code_only no_receiver) [] q) refl refl))
    (λ e. rw e (record { part = first_part o o.send.present refl; shown = λ i. refl; busy = λ i. first_runs o o.send.present }))

-- a thread that runs no more than o does so after an entry that is no begin of its own
kept-only : (n : ℕ) (p : Machine) (x : ℕ) (o : Operation) → RunsOnly o (p x) → (e : Entry) (q : AtomicThread) → Effect n p x e q → RunsOnly o q
kept-only n p x o t e q (kept off a) = record {
  part = subst (PartOf o) (sym a.run) t.part;
  shown = λ i. ap (λ (u : Outcome). u.code) a.outcome ∙ t.shown (rw a.run at i);
  busy = λ i. ap runs a.run ∙ t.busy (rw a.outcome at i);
}
kept-only n p x o t e q (aborted c off g k) = subst (RunsOnly o) (sym k) (idle-only o _ refl (abort_over n p x c g))
kept-only n p x o t e q (turned u on r h k) = subst (RunsOnly o) (sym k) (record {
  part = ap (λ (v : Operation). v.receive) (subst (PartOf o) r t.part).0;
  shown = λ i. t.shown (ap runs r);
  busy = λ i. refl;
})
kept-only n p x o t e q (sent u on r h k) = subst (RunsOnly o) (sym k) (idle-only o _ refl refl)
kept-only n p x o t e q (received s u w on j r a k) = subst (RunsOnly o) (sym k) (idle-only o _ refl refl)

-- ---- the latest operation of a thread
-- x's latest operation and where it began: nothing else runs in x
pub record Latest (n x : ℕ) (past : List Entry) : Type 0 where
  pub place : ℕ
  pub operation : Operation
  pub latest : latest x past ≡ some place
  pub begins : BeginsAt x operation place past
  pub runs : RunsOnly operation (played n past x)

-- x has begun nothing and stands as at first
pub record NeverBegun (n x : ℕ) (past : List Entry) : Type 0 where
  pub latest : latest x past ≡ none
  pub first : Alike (played n past x) (first_machine x)

-- where each entry was allowed, a thread has begun nothing or has its latest operation
pub standing : (n x : ℕ) (past : List Entry) → AllAllowed n past → NeverBegun n x past ⊎ Latest n x past
unfolding played
standing n x [] l = inl (record { latest = unfold latest in refl; first = equal-alike (first_machine x) (first_machine x) refl })
standing n x (e ∷ past) l =
    by (begins_by x e)
    (λ b. let h = is-begin x e b in inr (record {
      place = length past;
      operation = h.0;
      latest = latest-new x e past b;
      begins = inl (h.1, refl);
      runs = subst (λ (v : Entry). RunsOnly h.0 (play_entry n v (played n past) x)) (sym h.1) (unfold play in rw update_same (begun-only n h.0 (played n past x)));
    }))
    (λ b.
    let f = effect n (played n past) x e l.1 b in
    ⊎_elim
    (λ h. let a = idle-kept n (played n past) x e _ f (ap runs h.first.run) in inl (record {
      latest = latest_old x e past b ∙ h.latest;
      first = record { run = a.run ∙ h.first.run; outcome = a.outcome ∙ h.first.outcome; words = a.words ∙ h.first.words };
    }))
    (λ h. inr (record {
      place = h.place;
      operation = h.operation;
      latest = latest_old x e past b ∙ h.latest;
      begins = inr h.begins;
      runs = kept-only n (played n past) x h.operation h.runs e _ f;
    }))
    (standing n x past l.0))

module _ (n x : ℕ) (past : List Entry) (l : AllAllowed n past) where
  -- what runs has begun
  pub run-begun : runs (played n past x).run ≡ true → Latest n x past
  run-begun r = ⊎_elim (λ h. absurd (true≢false (sym r ∙ ap runs h.first.run))) (λ h. h) (standing n x past l)

  -- what shows running has begun
  pub shown-begun : is_running (played n past) x ≡ true → Latest n x past
  shown-begun r = ⊎_elim (λ h. absurd (true≢false (sym r ∙ ap (λ (u : Outcome). same_code running u.code) h.first.outcome))) (λ h. h) (standing n x past l)

  -- the operation that began at the place of the latest is the one that runs
  pub latest-only : (o : Operation) (i : ℕ) → latest x past ≡ some i → BeginsAt x o i past → RunsOnly o (played n past x)
  latest-only o i a b =
      ⊎_elim
      (λ h. let k : none ≡ some i = sym h.latest ∙ a in let z : ◌≡◌ {A = ℕ} 0 1 = cc in absurd (omega arith))
      (λ h. let k : some h.place ≡ some i = sym h.latest ∙ a in
      let one = begins-one x x h.operation o h.place i past h.begins b cc in
      subst (λ (u : Operation). RunsOnly u (played n past x)) one.1 h.runs)
      (standing n x past l)

  -- what shows running runs
  pub shown-runs : is_running (played n past) x ≡ true → runs (played n past x).run ≡ true
  shown-runs r = (shown-begun r).runs.busy r
