-- What a replay computes holds of all calls from a new table. So where some replay fails, `linearizes` or `keeps_well_formed` does not hold.
use mathlib.Core.Path.{◌≡◌}
use mathlib.Core.Bool.{true}
use mathlib.Core.List.{List, [], ◌∷◌}
use Prim.Native.Nat.{ℕ, ◌*◌, ◌≤◌}
use lib.ListN.{length}
use Rattle.model.specs.Threads.{new_table}
use Rattle.model.specs.Calls.{Call, State}
use Rattle.model.specs.Promise.{answer, next, state, view}
use Rattle.model.specs.Atomic.{Machine, first_machine, shows}
use Rattle.model.specs.Linearization.{play_entry}
use Rattle.model.specs.Linearized.{entry}
use Rattle.model.proofs.Replay.{agree}
use Rattle.model.proofs.Laws.{◌and◌, all_of-made, all-below-made}
use Rattle.model.proofs.Tested.{well_formed-tested}
use Rattle.laws.proofs.Conditions.{allowed-tested}
use Rattle.laws.proofs.Compared.{placed-tested, view-tested}
use Rattle.linearization.proofs.Represents.{Represents, first-represents, call_simulated}
use Rattle.linearization.proofs.Demand.{represents-shown}

-- from a state and the machine that it represents
agrees_from : (n : ℕ) (s : State) (p : Machine) → Represents n s p → (cs : List Call) → agree n s p cs ≡ true
unfolding agree
agrees_from n s p R [] = well_formed-tested s.table R.lasting.formed
agrees_from n s p R (c ∷ cs) =
    let g = call_simulated n c s p R in
    let later = play_entry n (entry c s) p in
    all_of-made _ (
    allowed-tested n p (entry c s) g.allowed
    and placed-tested c (answer c s) (entry c s) p g.place
    and all-below-made n _ (λ x xn. view-tested (view (next c s) x) (shows later x) (represents-shown n (next c s) later g.represents x xn))
    and agrees_from n (next c s) later g.represents cs
    and tt)

-- from a new table
pub every_replay_agrees : (n : ℕ) → 1 ≤ n → n ≤ 32 → (store : List ℕ) → length store ≡ 8 * n → (cs : List Call) → agree n (state (new_table n) store) first_machine cs ≡ true
every_replay_agrees n one few store fit = agrees_from n (state (new_table n) store) first_machine (first-represents n one few store fit)
