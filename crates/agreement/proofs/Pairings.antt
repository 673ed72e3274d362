-- Two logs agree exactly where they can be paired.
use mathlib.Core.Path.{◌≡◌, sym, ap, ◌∙◌, subst}
use mathlib.Core.Bool.{Bool, true, false, not, true≢false, ◌&&◌}
use mathlib.Core.List.{List}
use Prim.Native.Nat.{ℕ, ◌≤◌, ◌<◌}
use native.Mathlib.Omega.{arith}
use lib.Dec.{eqb, ltb}
use lib.ListN.{length}
use borrow.Author.Tests.{eq-eqb, eqb-true, le-ltb, ltb-true, ltb-false}
use Rattle.model.specs.Lists.{same_numbers, first_below}
use Rattle.model.specs.Refusals.{unless}
use Rattle.model.proofs.Laws.{by, same?, and_left, and_right, and-made}
use Rattle.laws.proofs.Lists.{cond-true, cond-false}
use Rattle.laws.proofs.Same.{same-itself, same_read}
use Rattle.logs.specs.Comparison.{Logged, entries_of, entry_at, same_pair, same_message, count_below, rank, mates, SaidComparison, refused, agree, send, receive, send_differs, receive_unsent, compare, compare_answer, Pairing, AgreeIfPaired}
use Rattle.laws.proofs.Below.{first-missing, first_passes, first-earlier, first-there}
use Rattle.agreement.proofs.Counts.{fewer}
use Rattle.agreement.proofs.Ranks.{pair_read, pair_made, pair-back, pair_on, rank-grows, mate_pair, mate_rank, mate_made, one-receive, one-send, differs_from, sent_by}

-- ---- the same message
message-read : (a b : Logged) → same_message a b ≡ true → (a.count ≡ b.count) × (a.words ≡ b.words)
unfolding same_message
message-read a b e = let counts = eqb a.count b.count in (eqb-true _ _ (and_left counts _ e), same_read a.words b.words (and_right counts _ e))

message-made : (a b : Logged) → a ≡ b → same_message a b ≡ true
unfolding same_message
message-made a b e = and-made _ _ (eq-eqb _ _ (ap (λ (l : Logged). l.count) e)) (ap (same_numbers a.words) (ap (λ (l : Logged). l.words) (sym e)) ∙ same-itself a.words)

-- entries of the same sender and target with the same message are equal
entry-equal : (a b : Logged) → same_pair a b ≡ true → same_message a b ≡ true → a ≡ b
entry-equal a b pair same =
    let (s, t) = pair_read a b pair in
    let (c, w) = message-read a b same in
    ap {B = Logged} (λ (x : ℕ). record { sender = x; target = a.target; count = a.count; words = a.words }) s
    ∙ ap {B = Logged} (λ (x : ℕ). record { sender = b.sender; target = x; count = a.count; words = a.words }) t
    ∙ ap {B = Logged} (λ (x : ℕ). record { sender = b.sender; target = b.target; count = x; words = a.words }) c
    ∙ ap {B = Logged} (λ (x : List ℕ). record { sender = b.sender; target = b.target; count = b.count; words = x }) w

-- ---- from agreement to a pairing
module _ (sends receives : List Logged) (none-differs : (i : ℕ) → i < length sends → send_differs sends receives i ≡ false) (all-sent : (j : ℕ) → j < length receives → receive_unsent sends receives j ≡ false) where
  -- the receive that is the mate of send i and has its message
  fits : ℕ → ℕ → Bool
  fits i j = mates sends receives i j && same_message (entry_at sends i) (entry_at receives j)

  to : ℕ → ℕ
  to i = first_below (length receives) (fits i)

  -- the send that is the mate of receive j
  from : ℕ → ℕ
  from j = first_below (length sends) (λ i. mates sends receives i j)

  to-there : (i : ℕ) → i < length sends → to i < length receives
  unfolding send_differs to fits
  to-there i l = first-there (length receives) (fits i) (none-differs i l)

  to-fits : (i : ℕ) → i < length sends → fits i (to i) ≡ true
  unfolding to
  to-fits i l = first_passes (length receives) (fits i) (to-there i l)

  to_mate : (i : ℕ) → i < length sends → mates sends receives i (to i) ≡ true
  unfolding fits
  to_mate i l = and_left _ _ (to-fits i l)

  to_same : (i : ℕ) → i < length sends → same_message (entry_at sends i) (entry_at receives (to i)) ≡ true
  unfolding fits
  to_same i l = and_right (mates sends receives i (to i)) _ (to-fits i l)

  from-there : (j : ℕ) → j < length receives → from j < length sends
  unfolding receive_unsent from
  from-there j l = first-there (length sends) (λ i. mates sends receives i j) (all-sent j l)

  from_mate : (j : ℕ) → j < length receives → mates sends receives (from j) j ≡ true
  unfolding from
  from_mate j l = first_passes (length sends) (λ i. mates sends receives i j) (from-there j l)

  -- of sends of one sender and target the earlier goes to the earlier receive, since its rank is smaller
  ordered : (i k : ℕ) → i < k → k < length sends → same_pair (entry_at sends i) (entry_at sends k) ≡ true → to i < to k
  ordered i k l h e =
      let mine = to_mate i (omega arith) in
      let later = to_mate k h in
      let ranks = rank-grows sends i k l e in
      let same = pair_on (entry_at receives (to k)) (entry_at sends k) (entry_at receives (to i)) (pair-back (entry_at sends k) (entry_at receives (to k)) (mate_pair sends receives k (to k) later))
      (pair_on (entry_at sends k) (entry_at sends i) (entry_at receives (to i)) (pair-back (entry_at sends i) (entry_at sends k) e) (mate_pair sends receives i (to i) mine)) in
      by (ltb (to i) (to k)) (λ b. ltb-true (to i) (to k) b) (λ b. same? (to k) (to i)
      (λ q. absurd (omega (arith, ranks, mate_rank sends receives i (to i) mine, mate_rank sends receives k (to k) later, ap (rank receives) q)))
      (λ d. absurd (omega (arith, ranks, mate_rank sends receives i (to i) mine, mate_rank sends receives k (to k) later, rank-grows receives (to k) (to i) (omega (arith, ltb-false (to i) (to k) b, d)) same))))

  paired : Pairing sends receives
  paired = record {
    to = to;
    from = from;
    there = λ i l. (to-there i l, one-send sends receives (from (to i)) i (to i) (from_mate (to i) (to-there i l)) (to_mate i l));
    back = λ j l. (from-there j l, one-receive sends receives (from j) (to (from j)) j (to_mate (from j) (from-there j l)) (from_mate j l));
    equal = λ i l. entry-equal (entry_at sends i) (entry_at receives (to i)) (mate_pair sends receives i (to i) (to_mate i l)) (to_same i l);
    order = ordered;
  }

-- ---- from a pairing to agreement
module _ (sends receives : List Logged) (P : Pairing sends receives) where
  -- what is paired is of one sender and target
  to-pair : (i : ℕ) → i < length sends → same_pair (entry_at sends i) (entry_at receives (P.to i)) ≡ true
  to-pair i l = pair_made (entry_at sends i) (entry_at receives (P.to i)) (ap (λ (e : Logged). e.sender) (P.equal i l)) (ap (λ (e : Logged). e.target) (P.equal i l))

  from-pair : (j : ℕ) → j < length receives → same_pair (entry_at sends (P.from j)) (entry_at receives j) ≡ true
  from-pair j l = subst (λ (k : ℕ). same_pair (entry_at sends (P.from j)) (entry_at receives k) ≡ true) (P.back j l).1 (to-pair (P.from j) (P.back j l).0)

  -- and of one rank: the earlier sends of its sender and target go one to one into the earlier receives
  module _ (i : ℕ) (l : i < length sends) where
    ahead : count_below i (λ m. same_pair (entry_at sends m) (entry_at sends i)) ≤ count_below (P.to i) (λ m. same_pair (entry_at receives m) (entry_at receives (P.to i)))
    ahead = fewer i (P.to i) _ _ P.to
        (λ k h e. (
          P.order k i h l e,
          pair_on (entry_at receives (P.to k)) (entry_at sends k) (entry_at receives (P.to i)) (pair-back (entry_at sends k) (entry_at receives (P.to k)) (to-pair k (omega arith)))
              (pair_on (entry_at sends k) (entry_at sends i) (entry_at receives (P.to i)) e (to-pair i l)),
        ))
        (λ k m h g e f q. let same : k ≡ m = sym (P.there k (omega arith)).1 ∙ ap P.from q ∙ (P.there m (omega arith)).1 in omega arith)

    -- a receive before that of send i comes from a send before i
    earlier : (k : ℕ) → k < P.to i → (within : k < length receives) → same_pair (entry_at sends i) (entry_at sends (P.from k)) ≡ true → P.from k < i
    earlier k h within pair = by (ltb (P.from k) i) (λ b. ltb-true (P.from k) i b) (λ b. same? (P.from k) i
        (λ q. let is : P.to (P.from k) ≡ P.to i = ap P.to q in absurd (omega (arith, (P.back k within).1)))
        (λ d. absurd (omega (arith, P.order i (P.from k) (omega (arith, ltb-false (P.from k) i b)) (P.back k within).0 pair, (P.back k within).1))))

    behind : count_below (P.to i) (λ m. same_pair (entry_at receives m) (entry_at receives (P.to i))) ≤ count_below i (λ m. same_pair (entry_at sends m) (entry_at sends i))
    behind = fewer (P.to i) i _ _ P.from
        (λ k h e. let within : k < length receives = omega (arith, (P.there i l).0) in
        let pair = pair_on (entry_at sends (P.from k)) (entry_at receives k) (entry_at sends i) (from-pair k within)
        (pair_on (entry_at receives k) (entry_at receives (P.to i)) (entry_at sends i) e (pair-back (entry_at sends i) (entry_at receives (P.to i)) (to-pair i l))) in
        (earlier k h within (pair-back (entry_at sends (P.from k)) (entry_at sends i) pair), pair))
        (λ k m h g e f q. let w : m < length receives = omega (arith, (P.there i l).0) in
        let v : k < length receives = omega (arith, (P.there i l).0) in
        let same : k ≡ m = sym (P.back k v).1 ∙ ap P.to q ∙ (P.back m w).1 in omega arith)

    to-rank : rank sends i ≡ rank receives (P.to i)
    unfolding rank
    to-rank = omega (arith, ahead, behind)

  to-is_mate : (i : ℕ) → i < length sends → mates sends receives i (P.to i) ≡ true
  to-is_mate i l = mate_made sends receives i (P.to i) (to-pair i l) (to-rank i l)

  no-send_differs : (i : ℕ) → i < length sends → send_differs sends receives i ≡ false
  no-send_differs i l = differs_from sends receives i (P.to i) (P.there i l).0 (to-is_mate i l) ∙ ap not (message-made _ _ (P.equal i l))

  no-receive-unsent : (j : ℕ) → j < length receives → receive_unsent sends receives j ≡ false
  no-receive-unsent j l = sent_by sends receives (P.from j) j (P.back j l).0 (ap (mates sends receives (P.from j)) (sym (P.back j l).1) ∙ to-is_mate (P.from j) (P.back j l).0)

  -- so comparing finds nothing
  pub paired-agree : compare sends receives ≡ agree
  unfolding compare
  paired-agree = cond-false _ _ _ (none (length sends) (send_differs sends receives) no-send_differs) ∙ cond-false _ _ _ (none (length receives) (receive_unsent sends receives) no-receive-unsent)
    where
      none : (n : ℕ) (f : ℕ → Bool) → ((k : ℕ) → k < n → f k ≡ false) → ltb (first_below n f) n ≡ false
      none n f h = le-ltb (first_below n f) n (omega (arith, first-missing n f h))

-- ---- both
-- the answer is that they agree
agrees : SaidComparison → Bool
agrees (refused number) = false
agrees agree = true
agrees (send i) = false
agrees (receive j) = false

-- where comparing finds nothing, there is a pairing
agree-paired : (sends receives : List Logged) → compare sends receives ≡ agree → Pairing sends receives
unfolding compare agrees
agree-paired sends receives same = by (ltb (first_below (length sends) (send_differs sends receives)) (length sends))
    (λ e. absurd (true≢false (sym (ap agrees (sym (cond-true _ _ _ e) ∙ same)))))
    (λ e. let rest = sym (cond-false _ _ _ e) ∙ same in
    by (ltb (first_below (length receives) (receive_unsent sends receives)) (length receives))
    (λ f. absurd (true≢false (sym (ap agrees (sym (cond-true _ _ _ f) ∙ rest)))))
    (λ f. paired sends receives (nowhere (length sends) _ e) (nowhere (length receives) _ f)))
  where
    nowhere : (n : ℕ) (f : ℕ → Bool) → ltb (first_below n f) n ≡ false → (k : ℕ) → k < n → f k ≡ false
    nowhere n f e k l = first-earlier n f k l (omega (arith, ltb-false (first_below n f) n e))

-- "They agree if there is a one-to-one pairing ..", and only then
pub agree_if_paired : AgreeIfPaired
unfolding compare_answer unless
agree_if_paired sends receives accepted = rw accepted (agree-paired (entries_of sends) (entries_of receives), paired-agree (entries_of sends) (entries_of receives))
