-- The clauses on locks and on chains of lock owners, over functions of thread numbers: what taking a lock and freeing it leave of them.
use mathlib.Core.Path.{◌≡◌, refl, sym, ap, ◌∙◌, subst, fun_ext}
use mathlib.Core.Logic.{◌≢◌, ◌↔◌, ◌⊎◌, inl, inr, ⊎_elim}
use Prim.Native.Nat.{ℕ, zero, suc, ◌≤◌, ◌<◌}
use native.Mathlib.Omega.{arith}
use borrow.Author.Tests.{lt-ltb, le-ltb}
use Rattle.model.specs.Lists.{update}
use Rattle.model.specs.Codes.{nobody}
use Rattle.model.specs.WellFormed.{chain, within}
use Rattle.model.proofs.Laws.{same?}
use Rattle.laws.proofs.Lists.{update_same, update_other}

-- a lock's owner is exactly the thread that holds it
abbrev pub Owners : ℕ → (ℕ → ℕ) → (ℕ → ℕ) → Type 0
Owners n owner holds = (r o : ℕ) → r < n → o < n → (owner r ≡ o) ↔ (holds o ≡ r)

-- no chain of lock owners comes back to its start
abbrev pub Chains : ℕ → (ℕ → ℕ) → Type 0
Chains n owner = (r : ℕ) → r < n → (k : ℕ) → chain (within n owner) (suc k) r ≢ r

module _ (n : ℕ) (few : n ≤ nobody) (owner holds : ℕ → ℕ) where
  -- x, which holds no lock, takes the lock of r, which nobody owns
  pub owners-take : (x r : ℕ) → x < n → r < n → owner r ≡ nobody → holds x ≡ nobody → Owners n owner holds → Owners n (update owner r x) (update holds x r)
  owners-take x r xn rn unowned empty known q o qn on = (
    same? q r
        (λ e k. let i : x ≡ o = sym (update_same owner r x) ∙ ap (update owner r x) (sym e) ∙ k in rw (← i, update_same) (sym e))
        (λ d k. let i : holds o ≡ q = (known q o qn on).0 (sym (update_other owner r x q d) ∙ k) in
        rw (update_other holds x r o (λ j. let z : holds x ≡ q = cc in omega arith)) i),
    same? o x
        (λ e k. let i : r ≡ q = sym (update_same holds x r) ∙ ap (update holds x r) (sym e) ∙ k in rw (← i, update_same) (sym e))
        (λ d k. let i : owner q ≡ o = (known q o qn on).1 (sym (update_other holds x r o d) ∙ k) in
        rw (update_other owner r x q (λ j. let z : owner r ≡ o = cc in omega arith)) i),
  )

  -- x frees the lock of r, which it holds
  pub owners-free : (x r : ℕ) → x < n → r < n → holds x ≡ r → Owners n owner holds → Owners n (update owner r nobody) (update holds x nobody)
  owners-free x r xn rn has known q o qn on = (
    same? q r
        (λ e k. let i : nobody ≡ o = sym (update_same owner r nobody) ∙ ap (update owner r nobody) (sym e) ∙ k in absurd (omega arith))
        (λ d k. let i : holds o ≡ q = (known q o qn on).0 (sym (update_other owner r nobody q d) ∙ k) in
        rw (update_other holds x nobody o (λ j. d (sym i ∙ ap holds j ∙ has))) i),
    same? o x
        (λ e k. let i : nobody ≡ q = sym (update_same holds x nobody) ∙ ap (update holds x nobody) (sym e) ∙ k in absurd (omega arith))
        (λ d k. let i : owner q ≡ o = (known q o qn on).1 (sym (update_other holds x nobody o d) ∙ k) in
        let l : owner r ≡ x = (known r x rn xn).1 has in
        rw (update_other owner r nobody q (λ j. d (sym i ∙ ap owner j ∙ l))) i),
  )

-- ---- chains of owners
-- the lock of r goes to v, whose own lock is free, or to nobody
module _ (owner : ℕ → ℕ) (v r : ℕ) (unowned : owner v ≡ nobody) (end : owner nobody ≡ nobody) (apart : v ≢ r) (rest : nobody ≢ r) where
  -- after v comes nobody
  after_v : (k : ℕ) → chain (update owner r v) (suc k) v ≡ nobody
  unfolding chain
  after_v zero = update_other owner r v v apart ∙ unowned
  after_v (suc k) = ap (update owner r v) (after_v k) ∙ update_other owner r v nobody rest ∙ end

  -- a chain goes as before, or has come to v, or has ended
  chain-changed : (q k : ℕ) → (chain (update owner r v) k q ≡ chain owner k q) ⊎ ((chain (update owner r v) k q ≡ v) ⊎ (chain (update owner r v) k q ≡ nobody))
  unfolding chain
  chain-changed q zero = inl refl
  chain-changed q (suc k) =
      ⊎_elim
      (λ e. same? (chain owner k q) r
      (λ i. inr (inl (ap (update owner r v) (e ∙ i) ∙ update_same owner r v)))
      (λ d. inl (ap (update owner r v) e ∙ update_other owner r v (chain owner k q) d)))
      (⊎_elim
      (λ e. inr (inr (ap (update owner r v) e ∙ update_other owner r v v apart ∙ unowned)))
      (λ e. inr (inr (ap (update owner r v) e ∙ update_other owner r v nobody rest ∙ end))))
      (chain-changed q k)

  -- so none comes back that did not
  none-back : (n : ℕ) → n ≤ nobody → ((q : ℕ) → q < n → (k : ℕ) → chain owner (suc k) q ≢ q) → (q : ℕ) → q < n → (k : ℕ) → chain (update owner r v) (suc k) q ≢ q
  none-back n few before q qn k e =
      ⊎_elim
      (λ i. before q qn k (sym i ∙ e))
      (⊎_elim
      (λ i. let j : q ≡ v = sym e ∙ i in let z : nobody ≡ v = sym (after_v k) ∙ subst (λ (y : ℕ). chain (update owner r v) (suc k) y ≡ y) j e in
      let y : q ≡ nobody = j ∙ sym z in omega arith)
      (λ i. let j : q ≡ nobody = sym e ∙ i in omega arith))
      (chain-changed q (suc k))

module _ (n : ℕ) (few : n ≤ nobody) (owner : ℕ → ℕ) where
  -- of a thread of the table
  pub within_in : (r : ℕ) → r < n → within n owner r ≡ owner r
  unfolding within
  within_in r rn = rw (lt-ltb r n rn) refl

  -- of nobody, nobody
  within_end : within n owner nobody ≡ nobody
  unfolding within
  within_end = rw (le-ltb nobody n few) refl

  -- a change of a thread of the table
  within-update : (r v : ℕ) → r < n → within n (update owner r v) ≡ update (within n owner) r v
  unfolding within
  within-update r v rn = fun_ext (λ y. same? y r
      (λ e. rw (e, update_same owner r v, update_same (within n owner) r v, lt-ltb r n rn) refl)
      (λ d. rw (update_other owner r v y d, update_other (within n owner) r v y d) refl))

  -- x, whose own lock is free, takes the lock of another
  pub chains-take : (x r : ℕ) → x < n → r < n → owner x ≡ nobody → x ≢ r → Chains n owner → Chains n (update owner r x)
  chains-take x r xn rn unowned d before =
      rw (within-update r x rn) (none-back (within n owner) x r (within_in x xn ∙ unowned) within_end d (omega arith) n few before)

  -- a lock is freed
  pub chains-free : (r : ℕ) → r < n → Chains n owner → Chains n (update owner r nobody)
  chains-free r rn before =
      rw (within-update r nobody rn) (none-back (within n owner) nobody r within_end within_end (omega arith) (omega arith) n few before)

  -- a thread does not own its own lock
  pub not-own-owner : Chains n owner → (r : ℕ) → r < n → owner r ≢ r
  unfolding chain
  not-own-owner before r rn e = before r rn 0 (within_in r rn ∙ e)
