use Rattle.std.proofs.Common.{◌≡◌, ℕ, sym, ap, ◌∙◌, arith}
use Rattle.std.specs.Prelude.{Option, unwrap_or}
use Rattle.model.specs.declared.Thread.{Thread}
use Rattle.model.specs.Codes.{nobody}
use Rattle.model.specs.Phases.{look}
use Rattle.model.specs.Step.{other}
use Rattle.laws.proofs.Decisions.{in_number}
use Rattle.phases.specs.Fit.{partner}
use Rattle.phases.proofs.Partners.{partner-in, partner-target, partner-woken, no_partner, partner-number}
use Rattle.phases.proofs.other_number.Goals as goal

-- both clauses, from the first
told : (h : Thread) (o : Option ℕ) → o ≡ partner h → (o ≡ partner h) × (unwrap_or o nobody ≡ other h)
told h o e = (e, ap (λ (q : Option ℕ). unwrap_or q nobody) e ∙ partner-number h)

pub returns-in-6 : goal.returns-in-6
returns-in-6 c =
    let both = told c.args.own _ (c.first_acceptable.ensures.sender ∙ sym (partner-in c.args.own look (in_number look _ c.in-6.is))) in
    record { partner = both.0; number = both.1 }

pub returns-in-1 : goal.returns-in-1
returns-in-1 c = let both = told c.args.own _ (partner-target c.args.own (omega arith) (omega arith)) in record { partner = both.0; number = both.1 }

pub returns-in-2 : goal.returns-in-2
returns-in-2 c = let both = told c.args.own _ (partner-target c.args.own (omega arith) (omega arith)) in record { partner = both.0; number = both.1 }

pub returns-in-3 : goal.returns-in-3
returns-in-3 c = let both = told c.args.own _ (partner-target c.args.own (omega arith) (omega arith)) in record { partner = both.0; number = both.1 }

pub returns-in-4 : goal.returns-in-4
returns-in-4 c = let both = told c.args.own _ (partner-target c.args.own (omega arith) (omega arith)) in record { partner = both.0; number = both.1 }

pub returns-in-7 : goal.returns-in-7
returns-in-7 c = let both = told c.args.own _ (partner-woken c.args.own (omega arith) (omega arith)) in record { partner = both.0; number = both.1 }

pub returns-in-8 : goal.returns-in-8
returns-in-8 c = let both = told c.args.own _ (partner-woken c.args.own (omega arith) (omega arith)) in record { partner = both.0; number = both.1 }

pub returns-in_default : goal.returns-in_default
returns-in_default c = let both = told c.args.own _ (no_partner c.args.own (λ l. omega arith) (λ l. omega arith)) in record { partner = both.0; number = both.1 }
