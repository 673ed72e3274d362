-- What playing one record relies on, and what it promises.
use Rattle.std.specs.Prelude.{◌≡◌, ℕ, Bool, true, false, List, eqb}
use Rattle.model.specs.Calls.{State}
use Rattle.model.specs.Refusals.{refusal}
use Rattle.model.specs.Promise.{next}
use Rattle.model.specs.RecordBytes.{lawful}
use Rattle.model.specs.Decoding.{front, record_of}
use Rattle.model.specs.Bondtrace.{call_of}
use Rattle.unchecked.specs.Runnable.{Runnable}

-- calls may run from the state, whoever sends to whom, and a lawful record that makes no table comes next
pub record Ready (s : State) (bytes : List ℕ) : Type 0 where
  pub runnable : Runnable s
  pub unruled : s.table.rules.len ≡ 0
  pub lawful : lawful false (front bytes) ≡ true

-- the call of that record leaves the state after it, and it is told whether it was accepted
pub record Plays (bytes : List ℕ) (before : State) (accepted : Bool) (after : State) : Type 0 where
  pub tells : accepted ≡ eqb (refusal (call_of (record_of (front bytes))) before) 0
  pub leaves : after ≡ next (call_of (record_of (front bytes))) before
