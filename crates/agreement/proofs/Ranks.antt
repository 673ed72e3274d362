-- Entries of one sender and target, and their ranks: a sender, a target and a rank have one place in a log, so a send has at most one mate, and a receive too.
use mathlib.Core.Path.{◌≡◌, refl, sym, ap, ◌∙◌}
use mathlib.Core.Bool.{true, false, not, ◌&&◌}
use mathlib.Core.List.{List}
use Prim.Native.Nat.{ℕ, ◌<◌}
use native.Mathlib.Omega.{arith}
use lib.Dec.{eqb, ltb}
use lib.ListN.{length}
use borrow.Author.Tests.{eq-eqb, eqb-true, ltb-true, ltb-false}
use Rattle.model.proofs.Laws.{by, same?, and_left, and_right, and-made, all-below-made}
use Rattle.logs.specs.Comparison.{Logged, entry_at, same_pair, same_message, count_below, rank, mates, send_differs, receive_unsent}
use Rattle.laws.proofs.Below.{all-below-fails}
use Rattle.agreement.proofs.Counts.{count-more}

-- ---- the same sender and target
pub pair_read : (a b : Logged) → same_pair a b ≡ true → (a.sender ≡ b.sender) × (a.target ≡ b.target)
unfolding same_pair
pair_read a b e = (eqb-true _ _ (and_left (eqb a.sender b.sender) _ e), eqb-true _ _ (and_right (eqb a.sender b.sender) _ e))

pub pair_made : (a b : Logged) → a.sender ≡ b.sender → a.target ≡ b.target → same_pair a b ≡ true
unfolding same_pair
pair_made a b e f = and-made _ _ (eq-eqb _ _ e) (eq-eqb _ _ f)

pub pair-back : (a b : Logged) → same_pair a b ≡ true → same_pair b a ≡ true
pair-back a b e = let (s, t) = pair_read a b e in pair_made b a (sym s) (sym t)

pub pair_on : (a b c : Logged) → same_pair a b ≡ true → same_pair b c ≡ true → same_pair a c ≡ true
pair_on a b c e f = let (s, t) = pair_read a b e in let (u, v) = pair_read b c f in pair_made a c (s ∙ u) (t ∙ v)

-- ---- ranks
-- entries of the same sender and target have as many of theirs before a place
pub rank_of : (log : List Logged) (a b : Logged) → same_pair a b ≡ true → (k : ℕ) → count_below k (λ m. same_pair (entry_at log m) a) ≡ count_below k (λ m. same_pair (entry_at log m) b)
unfolding same_pair
rank_of log a b e k =
    let (s, t) = pair_read a b e in
    ap (λ (x : ℕ). count_below k (λ m. eqb (entry_at log m).sender x && eqb (entry_at log m).target a.target)) s
    ∙ ap (λ (x : ℕ). count_below k (λ m. eqb (entry_at log m).sender b.sender && eqb (entry_at log m).target x)) t

-- a later entry has a greater rank
pub rank-grows : (log : List Logged) (j k : ℕ) → j < k → same_pair (entry_at log j) (entry_at log k) ≡ true → rank log j < rank log k
unfolding rank
rank-grows log j k l e = omega (arith, rank_of log (entry_at log j) (entry_at log k) e j, count-more j k (λ m. same_pair (entry_at log m) (entry_at log k)) l e)

-- so a sender, a target and a rank have one place
one_place : (log : List Logged) (j k : ℕ) → same_pair (entry_at log j) (entry_at log k) ≡ true → rank log j ≡ rank log k → j ≡ k
one_place log j k e r = by (ltb j k)
    (λ l. absurd (omega (arith, rank-grows log j k (ltb-true j k l) e)))
    (λ l. same? j k (λ i. i) (λ d. absurd (omega (arith, rank-grows log k j (omega (arith, ltb-false j k l)) (pair-back (entry_at log j) (entry_at log k) e)))))

-- ---- mates
module _ (sends receives : List Logged) where
  pub mate_pair : (i j : ℕ) → mates sends receives i j ≡ true → same_pair (entry_at sends i) (entry_at receives j) ≡ true
  unfolding mates
  mate_pair i j e = and_left _ _ e

  pub mate_rank : (i j : ℕ) → mates sends receives i j ≡ true → rank sends i ≡ rank receives j
  unfolding mates
  mate_rank i j e = eqb-true _ _ (and_right (same_pair (entry_at sends i) (entry_at receives j)) _ e)

  pub mate_made : (i j : ℕ) → same_pair (entry_at sends i) (entry_at receives j) ≡ true → rank sends i ≡ rank receives j → mates sends receives i j ≡ true
  unfolding mates
  mate_made i j e f = and-made _ _ e (eq-eqb _ _ f)

  -- a send has one
  pub one-receive : (i j k : ℕ) → mates sends receives i j ≡ true → mates sends receives i k ≡ true → j ≡ k
  one-receive i j k e f = one_place receives j k
      (pair_on (entry_at receives j) (entry_at sends i) (entry_at receives k) (pair-back (entry_at sends i) (entry_at receives j) (mate_pair i j e)) (mate_pair i k f))
      (sym (mate_rank i j e) ∙ mate_rank i k f)

  -- a receive has one
  pub one-send : (i k j : ℕ) → mates sends receives i j ≡ true → mates sends receives k j ≡ true → i ≡ k
  one-send i k j e f = one_place sends i k
      (pair_on (entry_at sends i) (entry_at receives j) (entry_at sends k) (mate_pair i j e) (pair-back (entry_at sends k) (entry_at receives j) (mate_pair k j f)))
      (mate_rank i j e ∙ sym (mate_rank k j f))

  -- ---- what is found of a send, and of a receive
  -- a send differs from its mate, if there is one, where their messages are not the same
  pub differs_from : (i j : ℕ) → j < length receives → mates sends receives i j ≡ true → send_differs sends receives i ≡ not (same_message (entry_at sends i) (entry_at receives j))
  unfolding send_differs
  differs_from i j low mate = by (same_message (entry_at sends i) (entry_at receives j))
      (λ e. sym (all-below-fails (length receives) _ j low (ap not (and-made _ _ mate e))) ∙ sym (ap not e))
      (λ e. all-below-made (length receives) _ (λ k l. by (mates sends receives i k)
      (λ m. ap (λ (x : ℕ). not (mates sends receives i x && same_message (entry_at sends i) (entry_at receives x))) (one-receive i k j m mate) ∙ rw (mate, e) refl)
      (λ m. rw m refl)) ∙ sym (ap not e))

  -- and without one
  pub differs_alone : (i : ℕ) → ((j : ℕ) → j < length receives → mates sends receives i j ≡ false) → send_differs sends receives i ≡ true
  unfolding send_differs
  differs_alone i alone = all-below-made (length receives) _ (λ k l. rw (alone k l) refl)

  -- a receive that is the mate of a send was sent
  pub sent_by : (i j : ℕ) → i < length sends → mates sends receives i j ≡ true → receive_unsent sends receives j ≡ false
  unfolding receive_unsent
  sent_by i j low mate = sym (all-below-fails (length sends) _ i low (ap not mate))

  -- and one of none was not
  pub sent_by_none : (j : ℕ) → ((i : ℕ) → i < length sends → mates sends receives i j ≡ false) → receive_unsent sends receives j ≡ true
  unfolding receive_unsent
  sent_by_none j alone = all-below-made (length sends) _ (λ k l. ap not (alone k l))
