-- What is found in the columns of two logs: the mate of a send, and of a receive.
use mathlib.Core.Path.{◌≡◌, refl, sym, ap, ◌∙◌}
use mathlib.Core.Bool.{true, false, not, ◌&&◌}
use mathlib.Core.List.{List}
use Prim.Native.Nat.{ℕ, ◌≤◌, ◌<◌}
use native.Mathlib.Omega.{arith}
use lib.ListN.{length}
use lib.Dec.{eqb}
use borrow.Author.Tests.{eq-eqb, eqb-true}
use Rattle.model.proofs.Laws.{by, and_left, and_right}
use Rattle.laws.proofs.Tests.{same_test}
use Rattle.model.specs.Lists.{first_below}
use Rattle.logs.specs.Comparison.{Logged, entry_at, same_pair, same_message, count_below, rank, mates, send_differs, receive_unsent}
use Rattle.laws.proofs.Below.{first_alike, first_passes, first-earlier}
use Rattle.agreement.proofs.Counts.{count-alike}
use Rattle.agreement.proofs.Ranks.{pair-back, rank_of, mate_pair, mate_rank, mate_made, differs_from, differs_alone, sent_by, sent_by_none}
use Rattle.columns.specs.Ranks.{is_of, earlier, place_of_rank, mate_of}
use Rattle.comparison.specs.Entries.{Columns}

-- ---- the columns of one log, and an entry of either
module _ (log : List Logged) (senders targets : List ℕ) (columns : Columns log senders targets) (own : Logged) where
  -- they tell which entries are of its sender and target
  is-of : (k : ℕ) → k < length log → is_of senders targets own.sender own.target k ≡ same_pair (entry_at log k) own
  unfolding is_of same_pair
  is-of k l = rw (columns.sender k l, columns.target k l) refl

  -- and how many of them stand before a place
  pub earlier_of : (k : ℕ) → k ≤ length log → earlier senders targets own.sender own.target k ≡ count_below k (λ m. same_pair (entry_at log m) own)
  unfolding earlier
  earlier_of k l = count-alike k _ _ (λ i h. is-of i (omega arith))

  -- so the place that is found is that of a rank
  rank-found : (r : ℕ) → place_of_rank senders targets own.sender own.target r ≡ first_below (length log) (λ k. same_pair (entry_at log k) own && eqb (rank log k) r)
  unfolding place_of_rank rank
  rank-found r = ap (λ (n : ℕ). first_below n (λ k. is_of senders targets own.sender own.target k && eqb (earlier senders targets own.sender own.target k) r)) columns.many
      ∙ first_alike (length log) _ _ alike
    where
      alike : (k : ℕ) → k < length log → (is_of senders targets own.sender own.target k && eqb (earlier senders targets own.sender own.target k) r) ≡ (same_pair (entry_at log k) own && eqb (rank log k) r)
      alike k l = by (same_pair (entry_at log k) own)
          (λ e. rw (is-of k l, e) (ap (λ (m : ℕ). eqb m r) (earlier_of k (omega arith) ∙ rank_of log own (entry_at log k) (pair-back (entry_at log k) own e) k)))
          (λ e. rw (is-of k l, e) refl)

-- ---- both logs
module _ (sends receives : List Logged) (senders targets sources receivers : List ℕ) (sent : Columns sends senders targets) (received : Columns receives sources receivers) where
  -- the receive of a send's rank
  mate_found : (i : ℕ) → i < length sends → mate_of senders targets i sources receivers ≡ first_below (length receives) (mates sends receives i)
  unfolding rank mate_of
  mate_found i l =
      let own = entry_at sends i in
      rw (sent.sender i l, sent.target i l, earlier_of sends senders targets sent own i (omega arith)) (rank-found receives sources receivers received own (rank sends i)
      ∙ first_alike (length receives) _ _ (λ k h. same_test _ _
      (λ e. mate_made sends receives i k (pair-back (entry_at receives k) own (and_left _ _ e)) (sym (eqb-true _ _ (and_right (same_pair (entry_at receives k) own) _ e))))
      (λ e. rw (pair-back own (entry_at receives k) (mate_pair sends receives i k e)) (eq-eqb _ _ (sym (mate_rank sends receives i k e))))))

  -- no receive is found: the send differs
  pub found_none : (i : ℕ) → i < length sends → length receives ≤ mate_of senders targets i sources receivers → send_differs sends receives i ≡ true
  found_none i l none = differs_alone sends receives i (λ j h. first-earlier (length receives) (mates sends receives i) j h (omega (arith, mate_found i l)))

  -- one is found: it decides
  pub found_mate : (i : ℕ) → i < length sends → mate_of senders targets i sources receivers < length receives → send_differs sends receives i ≡ not (same_message (entry_at sends i) (entry_at receives (mate_of senders targets i sources receivers)))
  found_mate i l low = differs_from sends receives i (mate_of senders targets i sources receivers) low (rw (mate_found i l) (first_passes (length receives) (mates sends receives i) (omega (arith, mate_found i l))))

  -- the send of a receive's rank
  sender-found : (j : ℕ) → j < length receives → mate_of sources receivers j senders targets ≡ first_below (length sends) (λ i. mates sends receives i j)
  unfolding rank mates mate_of
  sender-found j l =
      let own = entry_at receives j in
      rw (received.sender j l, received.target j l, earlier_of receives sources receivers received own j (omega arith)) (rank-found sends senders targets sent own (rank receives j))

  -- no send is found: the receive was not sent
  pub unsent : (j : ℕ) → j < length receives → length sends ≤ mate_of sources receivers j senders targets → receive_unsent sends receives j ≡ true
  unsent j l none = sent_by_none sends receives j (λ i h. first-earlier (length sends) (λ m. mates sends receives m j) i h (omega (arith, sender-found j l)))

  -- one is found
  pub was-sent : (j : ℕ) → j < length receives → mate_of sources receivers j senders targets < length sends → receive_unsent sends receives j ≡ false
  was-sent j l low = sent_by sends receives (mate_of sources receivers j senders targets) j low (rw (sender-found j l) (first_passes (length sends) (λ m. mates sends receives m j) (omega (arith, sender-found j l))))
