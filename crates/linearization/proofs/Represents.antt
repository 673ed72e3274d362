-- What is carried along a trace: the table is well-formed, and table and store represent the atomic machine.
use mathlib.Core.Path.{◌≡◌, sym, subst, subst₂}
use mathlib.Core.List.{List}
use Prim.Native.Nat.{ℕ, suc, ◌*◌, ◌≤◌}
use lib.ListN.{length}
use Rattle.model.specs.Answers.{Said}
use Rattle.model.specs.Threads.{new_table, at}
use Rattle.model.specs.Calls.{Call, State, accepted_state}
use Rattle.model.specs.Refusals.{refusal}
use Rattle.model.specs.Promise.{answer, next, state}
use Rattle.model.specs.Atomic.{Machine, first_machine}
use Rattle.model.specs.Linearization.{Entry, play_entry, AtCall, Allowed}
use Rattle.model.specs.Linearized.{accepted_entry, entry}
use Rattle.laws.proofs.Calls.{accepted?, accepted-next, accepted-answer, accepted-entry, refused-next, refused-answer, refused-entry}
use Rattle.invariant.proofs.Traces.{Lasting, new-lasting, next-lasting}
use Rattle.formed.proofs.Formed.{Formed, formed_grouped}
use Rattle.simulation.proofs.Abstraction.{Copied}
use Rattle.simulation.proofs.Leads.{Like, Simulates, Leads}
use Rattle.simulation.proofs.Calls.{call-leads, call-placed}
use Rattle.simulation.proofs.First.{first-like, first-copied}

-- a state of n threads represents the atomic machine p
pub record Represents (n : ℕ) (s : State) (p : Machine) : Type 0 where
  pub lasting : Lasting n s
  pub like : Like n p (at s.table) s.store
  pub copied : Copied n (at s.table) s.store

-- a new table represents the first machine
pub first-represents : (n : ℕ) → 1 ≤ n → n ≤ 32 → (store : List ℕ) → length store ≡ 8 * n → Represents n (state (new_table n) store) first_machine
first-represents n one few store fit = record { lasting = new-lasting n one few store fit; like = first-like n few store; copied = first-copied n few store }

-- a call is simulated: its entry is allowed and may stand in its place, and what the call leaves represents the machine after the entry
pub record CallSimulated (n : ℕ) (c : Call) (s : State) (p : Machine) : Type 0 where
  pub place : AtCall c (answer c s) (entry c s) p
  pub allowed : Allowed n (entry c s) p
  pub represents : Represents n (next c s) (play_entry n (entry c s) p)

module _ (n : ℕ) (c : Call) (s : State) (p : Machine) (R : Represents n s p) where
  -- its threads and its store stand for the machine
  simulates : Simulates s.table.n p (at s.table) s.store
  simulates = subst (λ (m : ℕ). Simulates m p (at s.table) s.store) (sym R.lasting.size) (record {
    formed = subst (λ (m : ℕ). Formed m (at s.table)) R.lasting.size (formed_grouped s.table R.lasting.formed R.lasting.shaped);
    fit = R.lasting.store;
    like = R.like;
    copied = R.copied;
  })

  module _ (e : refusal c s ≡ 0) where
    -- what an accepted call leads to
    leads : Leads n (entry c s) p (at (next c s).table) (next c s).store
    leads = subst₂ (λ (v : Entry) (after : State). Leads n v p (at after.table) after.store) (sym (accepted-entry c s e)) (sym (accepted-next c s e))
        (subst (λ (m : ℕ). Leads m (accepted_entry c s) p (at (accepted_state c s).table) (accepted_state c s).store) R.lasting.size
        (call-leads c s e R.lasting.shaped.threads simulates))

    -- an accepted call
    accepted_simulated : CallSimulated n c s p
    accepted_simulated = record {
      place = subst₂ (λ (a : Said) (v : Entry). AtCall c a v p) (sym (accepted-answer c s e)) (sym (accepted-entry c s e)) (call-placed c s e simulates);
      allowed = leads.allowed;
      represents = record { lasting = next-lasting n s c R.lasting; like = leads.like; copied = leads.copied };
    }

  -- a refused call
  refused_simulated : (g : ℕ) → refusal c s ≡ suc g → CallSimulated n c s p
  refused_simulated g e = record {
    place = subst (λ (a : Said). AtCall c a (entry c s) p) (sym (refused-answer c s g e)) (refused-entry c s g e);
    allowed = subst (λ (v : Entry). Allowed n v p) (sym (refused-entry c s g e)) tt;
    represents = subst₂ (λ (v : Entry) (after : State). Represents n after (play_entry n v p)) (sym (refused-entry c s g e)) (sym (refused-next c s g e)) R;
  }

  -- every call
  pub call_simulated : CallSimulated n c s p
  call_simulated = accepted? c s accepted_simulated refused_simulated
