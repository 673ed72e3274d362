-- What a change tells of its action: the fields that are set, or the ending.
use Rattle.std.proofs.Common.{◌≡◌, ℕ, refl, subst}
use Rattle.std.specs.Prelude.{Option, Some, None}
use Rattle.model.specs.declared.Thread.{Thread}
use Rattle.model.specs.Answers.{moved}
use Rattle.model.specs.Step.{Action, reply_of, own_after, other_after}
use Rattle.actions.specs.declared.Change.{Change}
use Rattle.actions.specs.declared.Ending.{Ending}
use Rattle.actions.specs.declared.Ending.TheVariants.{SendCancelled, SendTimeOver, CallFinished, SendFinished, ReceiveCancelled, ReceiveTimeOver}
use Rattle.actions.specs.Acted.{own_changed, other_changed, action_of, Told}

-- every ending answers moved
pub ending-moves : (e : Ending) → reply_of (action_of e) ≡ moved
unfolding reply_of
ending-moves SendCancelled = refl
ending-moves SendTimeOver = refl
ending-moves CallFinished = refl
ending-moves SendFinished = refl
ending-moves ReceiveCancelled = refl
ending-moves ReceiveTimeOver = refl

module _ (a : Action) (x : ℕ) (h r : Thread) (c : Change) where
  -- a change that ends nothing tells the fields that are set
  pub told-fields : c.ending ≡ None → Told a x h r c c.ending → (own_changed c h ≡ own_after a h) × (other_changed c r ≡ other_after a x h r)
  told-fields = go c.ending
    where
      go : (o : Option Ending) → o ≡ None → Told a x h r c o → (own_changed c h ≡ own_after a h) × (other_changed c r ≡ other_after a x h r)
      go None e told = told
      go (Some k) e told = cc

  -- one that ends something tells the action
  pub told-ending : (e : Ending) → c.ending ≡ Some e → Told a x h r c c.ending → action_of e ≡ a
  told-ending e is told = subst (Told a x h r c) is told
