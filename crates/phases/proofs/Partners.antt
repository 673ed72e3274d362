-- The one other thread of a step, by the phase: there is none where the model's number is nobody's.
use Rattle.std.proofs.Common.{◌≡◌, ℕ, ◌≤◌, refl, sym, ap, ◌∙◌, arith}
use Rattle.std.specs.Prelude.{Option, Some, None, unwrap_or}
use Rattle.std.proofs.Math.Option as maybe
use Rattle.model.specs.declared.Thread.{Thread}
use Rattle.model.specs.Codes.{nobody}
use Rattle.model.specs.Phases.{Phase, idle, lock, check, copy, release, sleep, look, wake, unlock, unknown, phase_of}
use Rattle.model.specs.Queues.{find_sender}
use Rattle.model.specs.Step.{other, other_in}
use Rattle.model.proofs.Laws.{same?}
use Rattle.laws.proofs.Decisions.{in_number, past-last}
use Rattle.queues.specs.Options.{as_option}
use Rattle.queues.proofs.Options.{option-number}
use Rattle.phases.specs.Fit.{partner_in, partner}

-- by the phase that the thread is known to be in
pub partner-in : (h : Thread) (p : Phase) → phase_of h.phase ≡ p → partner h ≡ partner_in p h
unfolding partner
partner-in h p e = ap (λ (q : Phase). partner_in q h) e

module _ (h : Thread) where
  -- from lock to release it is the target
  pub partner-target : 1 ≤ h.phase → h.phase ≤ 4 → Some h.op.send.target ≡ partner h
  partner-target low high = sym (
      same? h.phase 1 (λ e. partner-in h lock (in_number lock h.phase e)) (λ a.
      same? h.phase 2 (λ e. partner-in h check (in_number check h.phase e)) (λ b.
      same? h.phase 3 (λ e. partner-in h copy (in_number copy h.phase e)) (λ c.
      partner-in h release (in_number release h.phase (omega arith))))))

  -- in wake and unlock the sender being woken
  pub partner-woken : 7 ≤ h.phase → h.phase ≤ 8 → Some h.waking ≡ partner h
  partner-woken low high = sym (
      same? h.phase 7 (λ e. partner-in h wake (in_number wake h.phase e)) (λ a.
      partner-in h unlock (in_number unlock h.phase (omega arith))))

  -- but for look there is none in others
  pub no_partner : (1 ≤ h.phase → 5 ≤ h.phase) → (6 ≤ h.phase → 9 ≤ h.phase) → None ≡ partner h
  no_partner low high = sym (
      same? h.phase 0 (λ e. partner-in h idle (in_number idle h.phase e)) (λ i.
      same? h.phase 5 (λ e. partner-in h sleep (in_number sleep h.phase e)) (λ j.
      partner-in h unknown (past-last h.phase i (λ e. omega arith) (λ e. omega arith) (λ e. omega arith) (λ e. omega arith) j (λ e. omega arith) (λ e. omega arith) (λ e. omega arith)))))

-- its number is the model's
pub partner-number : (h : Thread) → unwrap_or (partner h) nobody ≡ other h
unfolding partner other
partner-number h = go (phase_of h.phase)
  where
    go : (p : Phase) → unwrap_or (partner_in p h) nobody ≡ other_in p h
    go idle = refl
    go lock = refl
    go check = refl
    go copy = refl
    go release = refl
    go sleep = refl
    go look = option-number (find_sender h) nobody
    go wake = refl
    go unlock = refl
    go unknown = refl

-- where there is none, it is nobody's
pub alone-nobody : (h : Thread) → partner h ≡ None → other h ≡ nobody
alone-nobody h e = sym (partner-number h) ∙ ap (λ (o : Option ℕ). unwrap_or o nobody) e

-- in look it is the sender that the search finds
module _ (h : Thread) (e : phase_of h.phase ≡ look) where
  pub partner-unfound : find_sender h ≡ maybe.none → partner h ≡ None
  partner-unfound f = partner-in h look e ∙ ap as_option f

  pub partner-found : (s : ℕ) → find_sender h ≡ maybe.some s → partner h ≡ Some s
  partner-found s f = partner-in h look e ∙ ap as_option f
