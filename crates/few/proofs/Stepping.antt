-- A step of two threads: what it leaves of both, held or not.
use Rattle.std.proofs.Common.{◌≡◌, ℕ, Bool, true, false, ◌≢◌, ◌⊎◌, sym, refl, ap, ◌∙◌, subst, inl, inr, ⊎_elim, true≢false, eq-eqb, ne_eqb}
use Rattle.std.specs.Prelude.{Some, None}
use Rattle.model.specs.declared.Thread.{Thread}
use Rattle.model.specs.declared.Answer.{Answer}
use Rattle.model.specs.declared.Answer.TheVariants.{Moved}
use Rattle.model.specs.Answers.{Reply, accepted, marked, nothing_to_cancel, moved, idle, held, wants, asleep, replied, said}
use Rattle.model.specs.Codes.{nobody}
use Rattle.model.specs.Phases.{phase_of}
use Rattle.model.specs.Locks.{lock_free}
use Rattle.model.specs.Step.{Action, stay, take_lock, abort_send, start_copy, to_release, copy_word, finish_call, finish_send, free_target, retry, to_idle, abort_receive, take_sender, clear_poll, free_sender, decide_in, reply_of, own_after, other_after}
use Rattle.model.proofs.Laws.{same?}
use Rattle.model.proofs.Answers.{said-settles}
use Rattle.laws.proofs.Lists.{cond-true, cond-false}
use Rattle.actions.specs.declared.Change.{Change}
use Rattle.actions.specs.Acted.{own_changed, other_changed, action_of, Acted}
use Rattle.actions.specs.declared.Ending.{Ending}
use Rattle.actions.proofs.Endings.{ending-moves, told-fields, told-ending}
use Rattle.endings.specs.Ended.{Ended}
use Rattle.few.specs.Front.{changes_nothing, decide_here}

-- an action answers moved, or leaves both threads as they were
moves-or-stays : (a : Action) → (reply_of a ≡ moved) ⊎ ((x : ℕ) (h r : Thread) → (own_after a h ≡ h) × (other_after a x h r ≡ r))
unfolding reply_of own_after other_after
moves-or-stays (stay b) = inr (λ x h r. (refl, refl))
moves-or-stays take_lock = inl refl
moves-or-stays (abort_send c) = inl refl
moves-or-stays start_copy = inl refl
moves-or-stays to_release = inl refl
moves-or-stays copy_word = inl refl
moves-or-stays finish_call = inl refl
moves-or-stays finish_send = inl refl
moves-or-stays (free_target p) = inl refl
moves-or-stays retry = inl refl
moves-or-stays to_idle = inl refl
moves-or-stays (abort_receive c) = inl refl
moves-or-stays (take_sender s) = inl refl
moves-or-stays clear_poll = inl refl
moves-or-stays free_sender = inl refl

-- one that answers moved changes something
says-moved : (a : Answer) → said a ≡ replied moved → changes_nothing a ≡ false
says-moved a e = ap changes_nothing (said-settles a Moved e)

-- held is not moved
held-not-moved : held ≡ moved → ⊥
held-not-moved e = true≢false (ap is_held e)
  where
    is_held : Reply → Bool
    is_held accepted = false
    is_held marked = false
    is_held nothing_to_cancel = false
    is_held moved = false
    is_held idle = false
    is_held held = true
    is_held wants = false
    is_held asleep = false

-- thread x, which was h, and the other thread, which was r, are mine and theirs after the step
pub record Leaves (x : ℕ) (h r mine theirs : Thread) : Type 0 where
  pub own : mine ≡ own_after (decide_here x h r) h
  pub other : theirs ≡ other_after (decide_here x h r) x h r

module _ (x : ℕ) (h r : Thread) where
  -- a thread whose lock is owned is held
  pub here-held : h.owner ≢ nobody → decide_here x h r ≡ stay held
  unfolding decide_here lock_free
  here-held owned = cond-false _ _ _ (ne_eqb h.owner nobody owned)

  -- another goes by its phase
  pub here-free : h.owner ≡ nobody → decide_here x h r ≡ decide_in (phase_of h.phase) x h r
  unfolding decide_here lock_free
  here-free free = cond-true _ _ _ (eq-eqb h.owner nobody free)

  module _ (c : Change) (acted : Acted (decide_here x h r) x h r c) where
    -- a thread whose step ends something is not held
    pub not-held : (e : Ending) → c.ending ≡ Some e → h.owner ≡ nobody
    unfolding reply_of
    not-held e ends = same? h.owner nobody (λ free. free) (λ owned.
        let told = told-ending (decide_here x h r) x h r c e ends acted.told in
        absurd (held-not-moved (sym (ap reply_of (here-held owned)) ∙ sym (ap reply_of told) ∙ ending-moves e)))

    -- what a step leaves that ends something
    pub leaves-ended : (mine theirs : Thread) (e : Ending) → c.ending ≡ Some e → Ended (action_of e) x h r (record { own = mine; other = theirs }) → Leaves x h r mine theirs
    leaves-ended mine theirs e ends ended =
        let both = subst (λ (a : Action). Ended a x h r (record { own = mine; other = theirs })) (told-ending (decide_here x h r) x h r c e ends acted.told) ended in
        record { own = both.own; other = both.other }

    module _ (goes : c.ending ≡ None) where
      -- what one leaves that ends nothing
      pub leaves-changed : Leaves x h r (own_changed c h) (other_changed c r)
      leaves-changed = let fields = told-fields (decide_here x h r) x h r c goes acted.told in record { own = fields.0; other = fields.1 }

      -- by its answer it may leave both as they were
      pub leaves-same : changes_nothing c.answer ≡ true → Leaves x h r h r
      leaves-same stays = ⊎_elim
          (λ e. absurd (true≢false (sym stays ∙ says-moved c.answer (acted.answers ∙ ap replied e))))
          (λ same. record { own = sym (same x h r).0; other = sym (same x h r).1 })
          (moves-or-stays (decide_here x h r))
