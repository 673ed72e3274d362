-- What has to be shown when two threads change.
use mathlib.Core.Path.{◌≡◌, refl, sym, ◌∙◌, subst, subst₂, fun_ext}
use mathlib.Core.Logic.{◌≢◌}
use Prim.Native.Nat.{ℕ, ◌<◌}
use Rattle.model.specs.declared.Thread.{Thread}
use Rattle.model.specs.Lists.{update}
use Rattle.model.specs.Queues.{senders, ready}
use Rattle.model.specs.Locks.{lock_held}
use Rattle.model.specs.WellFormed.{sends_to}
use Rattle.model.proofs.Laws.{same?}
use Rattle.laws.proofs.Lists.{update_same, update_other, update-own}
use Rattle.formed.proofs.Own.{Own}
use Rattle.formed.proofs.Locks.{Owners, Chains}
use Rattle.formed.proofs.Queues.{Queues}
use Rattle.formed.proofs.Copies.{Copies}
use Rattle.formed.specs.Groups.{copies_to}
use Rattle.formed.proofs.Formed.{of, owner, Formed}

-- ---- thread r becomes g and then x becomes f
module _ (T : ℕ → Thread) (x r : ℕ) (f g : Thread) where
  -- how a reading of the threads changes: not at all, at x, at r, or at both
  pub data Change {A : Type 0} (P : Thread → A) : Type 0 where
    kept : P g ≡ P (T r) → P f ≡ P (T x) → Change P
    here : P g ≡ P (T r) → Change P
    there : r ≢ x → P f ≡ P (T x) → Change P
    both : Change P

  -- the reading afterwards
  abbrev pub changed : {A : Type 0} {P : Thread → A} → Change P → ℕ → A
  changed {P = P} (kept k l) = of P T
  changed {P = P} (here k) = update (of P T) x (P f)
  changed {P = P} (there d k) = update (of P T) r (P g)
  changed {P = P} both = update (update (of P T) r (P g)) x (P f)

  -- which it is
  pub seen : {A : Type 0} {P : Thread → A} (c : Change P) → of P (update (update T r g) x f) ≡ changed c
  seen {A} {P} c = fun_ext (λ y. same? y x
      (λ e. rw (e, update_same) (at_x c))
      (λ d. rw (update_other (update T r g) x f y d) (same? y r
      (λ e. rw (e, update_same) (at_r c (λ i. d (e ∙ i))))
      (λ k. rw (update_other T r g y k) (elsewhere c y d k)))))
    where
      at_x : (c : Change P) → P f ≡ changed c x
      at_x (kept k l) = l
      at_x (here k) = sym (update_same (of P T) x (P f))
      at_x (there d k) = k ∙ sym (update_other (of P T) r (P g) x (λ i. d (sym i)))
      at_x both = sym (update_same (update (of P T) r (P g)) x (P f))

      at_r : (c : Change P) → r ≢ x → P g ≡ changed c r
      at_r (kept k l) d = k
      at_r (here k) d = k ∙ sym (update_other (of P T) x (P f) r d)
      at_r (there d' k) d = sym (update_same (of P T) r (P g))
      at_r both d = sym (update_other (update (of P T) r (P g)) x (P f) r d ∙ update_same (of P T) r (P g))

      elsewhere : (c : Change P) (y : ℕ) → y ≢ x → y ≢ r → P (T y) ≡ changed c y
      elsewhere (kept k l) y d e = refl
      elsewhere (here k) y d e = sym (update_other (of P T) x (P f) y d)
      elsewhere (there d' k) y d e = sym (update_other (of P T) r (P g) y e)
      elsewhere both y d e = sym (update_other (update (of P T) r (P g)) x (P f) y d ∙ update_other (of P T) r (P g) y e)

-- how each of the six readings changes
pub record Changes (T : ℕ → Thread) (x r : ℕ) (f g : Thread) : Type 0 where
  pub owner : Change T x r f g owner
  pub held : Change T x r f g lock_held
  pub sends : Change T x r f g sends_to
  pub queue : Change T x r f g senders
  pub copies : Change T x r f g copies_to
  pub ready : Change T x r f g ready

-- what is left to show: of each of the two threads by itself, and of the readings afterwards
pub record StillFormed (n : ℕ) (T : ℕ → Thread) (x r : ℕ) (f g : Thread) (c : Changes T x r f g) : Type 0 where
  pub other : r < n → Own n r g
  pub own : Own n x f
  pub queues : Queues n (changed T x r f g c.sends) (changed T x r f g c.queue)
  pub owners : Owners n (changed T x r f g c.owner) (changed T x r f g c.held)
  pub chains : Chains n (changed T x r f g c.owner)
  pub copies : Copies n (changed T x r f g c.copies) (changed T x r f g c.ready)

module _ {n : ℕ} {T : ℕ → Thread} (F : Formed n T) (x : ℕ) where
  -- then the threads stay well-formed
  pub formed-changed : (r : ℕ) (f g : Thread) (c : Changes T x r f g) → StillFormed n T x r f g c → Formed n (update (update T r g) x f)
  formed-changed r f g c k = record {
    few = F.few;
    own = λ y. same? y x
        (λ e yn. rw (e, update_same) k.own)
        (λ i. rw (update_other (update T r g) x f y i) (same? y r
        (λ e yn. rw (e, update_same) (k.other (rw e at yn)))
        (λ d. rw (update_other T r g y d) (F.own y))));
    queues = subst₂ (Queues n) (sym (seen T x r f g c.sends)) (sym (seen T x r f g c.queue)) k.queues;
    owners = subst₂ (Owners n) (sym (seen T x r f g c.owner)) (sym (seen T x r f g c.held)) k.owners;
    chains = subst (Chains n) (sym (seen T x r f g c.owner)) k.chains;
    copies = subst₂ (Copies n) (sym (seen T x r f g c.copies)) (sym (seen T x r f g c.ready)) k.copies;
  }

  -- the same where x alone becomes f
  pub formed-one : (f : Thread) (c : Changes T x x f (T x)) → StillFormed n T x x f (T x) c → Formed n (update T x f)
  formed-one f c k = subst (λ (before : ℕ → Thread). Formed n (update before x f)) (update-own T x) (formed-changed x f (T x) c k)
