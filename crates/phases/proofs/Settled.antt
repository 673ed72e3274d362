-- A step that has done what its tests and its phase settle on, and what it leaves of the words.
use mathlib.Core.Path.{◌≡◌, sym, ap, subst, ◌∙◌}
use mathlib.Core.Logic.{◌≢◌}
use mathlib.Core.List.{List}
use Prim.Native.Nat.{ℕ}
use borrow.Author.Tests.{eq-eqb, ne_eqb}
use Rattle.model.specs.declared.Thread.{Thread}
use Rattle.model.specs.Phases.{Phase, copy, phase_of, phase_number}
use Rattle.model.specs.Step.{Action, decide_in}
use Rattle.laws.proofs.Lists.{cond-true, cond-false}
use Rattle.actions.specs.declared.Change.{Change}
use Rattle.actions.specs.Acted.{Acted}
use Rattle.phases.specs.Fit.{word_added, words_after}
use Rattle.laws.proofs.Decisions.{in_number}

-- a step that has done what it settled on
pub settled : {a b : Action} (x : ℕ) (h r : Thread) (c : Change) → a ≡ b → Acted b x h r c → Acted a x h r c
settled x h r c e = subst (λ (a : Action). Acted a x h r c) (sym e)

-- a step that has done what its phase settles on
pub settled_in : (p : Phase) (x : ℕ) (h r : Thread) (c : Change) → h.phase ≡ phase_number p → Acted (decide_in p x h r) x h r c → Acted (decide_in (phase_of h.phase) x h r) x h r c
settled_in p x h r c e = settled x h r c (ap (λ (q : Phase). decide_in q x h r) (in_number p h.phase e))

-- only a thread in copy changes the other's words
pub words-kept : (h : Thread) (words : List ℕ) → h.phase ≢ phase_number copy → words ≡ words_after h words
unfolding words_after
words-kept h words d = sym (cond-false _ _ _ (ne_eqb _ _ d))

-- and it adds a word, if one remains
pub words_copied : (h : Thread) (words : List ℕ) → h.phase ≡ phase_number copy → word_added h words ≡ words_after h words
unfolding words_after
words_copied h words e = sym (cond-true _ _ _ (eq-eqb _ _ e))

-- a step in a phase other than copy has done what the phase settles on, and changed no word
pub acted_in : (p : Phase) → phase_number p ≢ phase_number copy → (x : ℕ) (h r : Thread) (c : Change) (words : List ℕ) → h.phase ≡ phase_number p
    → Acted (decide_in p x h r) x h r c → Acted (decide_in (phase_of h.phase) x h r) x h r c × (words ≡ words_after h words)
acted_in p d x h r c words e done = (settled_in p x h r c e done, words-kept h words (λ k. d (sym e ∙ k)))
