-- At which thread each thread waits, gathered queue by queue.
use Rattle.std.specs.Prelude.{◌≡◌, Bool, true, false, cond, List, ℕ, ◌≤◌, length, eqb}
use Rattle.model.specs.Lists.{bit, occurs}
use Rattle.model.specs.Codes.{nobody}
use Rattle.wellformed.specs.Links.{number_at}

-- the senders q are threads of the table that wait nowhere yet, each there once
pub record Free (n : ℕ) (waits : ℕ → ℕ) (q : List ℕ) : Type 0 where
  pub under : (s : ℕ) → n ≤ s → occurs s q ≡ 0
  pub once : (s : ℕ) → occurs s q ≤ bit (eqb (waits s) nobody)

-- where each thread waits once the senders q wait at r
unfoldable pub waiting_at : ℕ → List ℕ → (ℕ → ℕ) → ℕ → ℕ
waiting_at r q waits s = cond (eqb (occurs s q) 0) (waits s) r

-- the senders q of thread r, all of them free, are entered
pub record Entered (n r : ℕ) (q before after : List ℕ) : Type 0 where
  pub free : Free n (number_at before) q
  pub now : (s : ℕ) → number_at after s ≡ waiting_at r q (number_at before) s
  pub whole : length after ≡ 32

-- whether they are entered: if not, they are not free
pub record EnteredOrNot (n r : ℕ) (q before after : List ℕ) (b : Bool) : Type 0 where
  pub yes : b ≡ true → Entered n r q before after
  pub no : b ≡ false → Free n (number_at before) q → ⊥
