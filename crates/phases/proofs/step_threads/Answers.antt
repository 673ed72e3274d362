use Rattle.std.proofs.Common.{ap, ◌∙◌, arith}
use Rattle.model.specs.Step.{decide_in}
use Rattle.model.specs.Phases.{Phase, idle, lock, check, copy, release, sleep, look, wake, unlock}
use Rattle.laws.proofs.Decisions.{past-last, in_number}
use Rattle.phases.proofs.Settled.{settled, settled_in, acted_in, words-kept, words_copied}
use Rattle.phases.proofs.step_threads.Goals as goal

-- ---- what the phases ask for
pub in_copy-requires : goal.in_copy-requires
in_copy-requires c = record { count_le_word_limit = c.requires.fit.counts (in_number copy _ c.in-3.is); words_len = c.requires.words_len }

pub in_look-requires : goal.in_look-requires
in_look-requires c = c.requires.fit.finds (in_number look _ c.in-6.is)

-- ---- one for each arm
pub returns-in-0 : goal.returns-in-0
returns-in-0 c = let done = acted_in idle (λ e. omega arith) _ _ _ _ _ c.in-0.is c.in_idle.ensures in record { acted = done.0; words = done.1 }

pub returns-in-1 : goal.returns-in-1
returns-in-1 c = let done = acted_in lock (λ e. omega arith) _ _ _ _ _ c.in-1.is c.in_lock.ensures in record { acted = done.0; words = done.1 }

pub returns-in-2 : goal.returns-in-2
returns-in-2 c = let done = acted_in check (λ e. omega arith) _ _ _ _ _ c.in-2.is c.in_check.ensures in record { acted = done.0; words = done.1 }

-- in copy a word may be written
pub returns-in-3 : goal.returns-in-3
returns-in-3 c = record { acted = settled_in copy _ _ _ _ c.in-3.is c.in_copy.ensures.acted; words = c.in_copy.ensures.words ∙ words_copied c.args.own _ c.in-3.is }

pub returns-in-4 : goal.returns-in-4
returns-in-4 c = let done = acted_in release (λ e. omega arith) _ _ _ _ _ c.in-4.is c.in_release.ensures in record { acted = done.0; words = done.1 }

pub returns-in-5 : goal.returns-in-5
returns-in-5 c = let done = acted_in sleep (λ e. omega arith) _ _ _ _ _ c.in-5.is c.in_sleep.ensures in record { acted = done.0; words = done.1 }

pub returns-in-6 : goal.returns-in-6
returns-in-6 c = let done = acted_in look (λ e. omega arith) _ _ _ _ _ c.in-6.is c.in_look.ensures in record { acted = done.0; words = done.1 }

pub returns-in-7 : goal.returns-in-7
returns-in-7 c = let done = acted_in wake (λ e. omega arith) _ _ _ _ _ c.in-7.is c.in_wake.ensures in record { acted = done.0; words = done.1 }

pub returns-in-8 : goal.returns-in-8
returns-in-8 c = let done = acted_in unlock (λ e. omega arith) _ _ _ _ _ c.in-8.is c.in_unlock.ensures in record { acted = done.0; words = done.1 }

-- no phase has another number
pub returns-in_default : goal.returns-in_default
unfolding decide_in
returns-in_default c =
    let a = c.args in
    let idles = ap (λ (p : Phase). decide_in p a.x a.own a.other) (past-last a.own.phase (λ e. omega arith) (λ e. omega arith) (λ e. omega arith) (λ e. omega arith) (λ e. omega arith) (λ e. omega arith) (λ e. omega arith) (λ e. omega arith) (λ e. omega arith)) in
    record { acted = settled _ _ _ _ idles c.in_idle-in_default.ensures; words = words-kept a.own _ (λ e. omega arith) }
