-- The clause on copies, over functions of thread numbers: what starting and ending a copy leave of it.
use mathlib.Core.Path.{◌≡◌}
use mathlib.Core.Logic.{◌≢◌}
use mathlib.Core.Bool.{Bool, true}
use Prim.Native.Nat.{ℕ, ◌≤◌, ◌<◌}
use native.Mathlib.Omega.{arith}
use Rattle.model.specs.Lists.{update}
use Rattle.model.specs.Codes.{nobody}
use Rattle.model.proofs.Laws.{same?}
use Rattle.laws.proofs.Lists.{update_same, update_other}

-- the thread to which x copies is ready for it
abbrev pub Copies : ℕ → (ℕ → ℕ) → (ℕ → ℕ → Bool) → Type 0
Copies n copies_to ready = (x : ℕ) → x < n → copies_to x < n → ready (copies_to x) x ≡ true

module _ (n : ℕ) (copies_to : ℕ → ℕ) (ready : ℕ → ℕ → Bool) where
  -- x starts to copy to a thread that is ready for it
  pub copies-start : (x r : ℕ) → ready r x ≡ true → Copies n copies_to ready → Copies n (update copies_to x r) ready
  copies-start x r now before y yn = same? y x
      (λ e. rw (e, update_same) (λ l. now))
      (λ d. rw (update_other copies_to x r y d) (before y yn))

  -- x copies to nobody
  pub copies-end : (x : ℕ) → n ≤ nobody → Copies n copies_to ready → Copies n (update copies_to x nobody) ready
  copies-end x few before y yn = same? y x
      (λ e. rw (e, update_same) (λ l. absurd (omega arith)))
      (λ d. rw (update_other copies_to x nobody y d) (before y yn))

  -- a thread to which nobody copies may be ready or not
  pub copies-elsewhere : (r : ℕ) (now : ℕ → Bool) → ((y : ℕ) → y < n → copies_to y ≢ r) → Copies n copies_to ready → Copies n copies_to (update ready r now)
  copies-elsewhere r now alone before y yn l = rw (update_other ready r now (copies_to y) (alone y yn)) (before y yn l)
