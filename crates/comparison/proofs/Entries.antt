-- The entries of a log, read from its array.
use mathlib.Core.Path.{◌≡◌, refl, sym, ap, subst, ◌∙◌}
use mathlib.Core.Bool.{Bool, true, false, not, ◌||◌}
use mathlib.Core.List.{List, [], ◌∷◌, map}
use Rattle.std.specs.Bool.{MatchBool}
use Rattle.std.specs.List.{AllWithin, HoldsAt}
use Rattle.std.proofs.lemmas.List.{length-map, length-take, take-map, get_or-map}
use Rattle.model.specs.declared.Pair.{Pair}
use Rattle.columns.specs.Ranks.{senders_of, targets_of}
use Rattle.columns.proofs.Places.{no_pair}
use Prim.Native.Nat.{ℕ, ◌≤◌, ◌<◌}
use native.Mathlib.Omega.{arith}
use lib.ListN.{length, get_or, take}
use lib.Seq.{get_or-take}
use lib.Dec.{leb, ltb}
use borrow.Author.Tests.{le-leb, leb-true, lt-ltb, le-ltb, lt-leb, ltb-false, not-true, not-false}
use Rattle.model.specs.Lists.{all_below}
use Rattle.model.specs.Operations.{word_limit}
use Rattle.model.proofs.Laws.{all-below-read, all-below-made}
use Rattle.model.specs.Refusals.{first_refusal, unless}
use Rattle.laws.proofs.Lists.{or_left, or_right}
use Rattle.laws.proofs.Below.{all-below-fails}
use Rattle.laws.proofs.Rows.{first-none, first-here, first-later}
use Rattle.logs.specs.declared.LogEntry.{LogEntry}
use Rattle.logs.specs.declared.Log.{Log}
use Rattle.logs.specs.Comparison.{Logged, logged, entries_of, entry_at, refused, compare, log_room, bad_log, compare_refusal, compare_answer}
use Rattle.comparison.specs.Entries.{Columns, no_entry, pair_of, Good}

-- as many as the log says
pub entries-many : (log : Log) → length log.entries ≡ 512 → log.len ≤ log_room → length (entries_of log) ≡ log.len
unfolding entries_of
entries-many log whole few = length-map (take log.len log.entries) logged ∙ (let l = length-take log.len log.entries in omega (arith, l))

-- and no more, whatever stands in its array
pub entries_few : (log : Log) → length (entries_of log) ≤ log.len
unfolding entries_of
entries_few log = omega (arith, length-map (take log.len log.entries) logged, length-take log.len log.entries)

-- each is what its place in the array says
pub entry_read : (log : Log) (k : ℕ) → k < log.len → entry_at (entries_of log) k ≡ logged (get_or log.entries k no_entry)
unfolding entries_of entry_at logged
entry_read log k l = lib.ListN.get_or-map logged (take log.len log.entries) k no_entry ∙ ap logged (get_or-take log.len log.entries k no_entry l)

-- ---- whether a log is refused
-- more than 512 entries
pub too_long : (log : Log) → 512 < log.len → false ≡ not (bad_log log).when
unfolding bad_log
too_long log l = rw (lt-ltb 512 log.len l) refl

module _ (log : Log) (few : log.len ≤ log_room) where
  -- the test of one entry
  count_test : (i : ℕ) → i < length (entries_of log) → leb (entry_at (entries_of log) i).count word_limit ≡ leb (get_or log.entries i no_entry).count word_limit
  unfolding logged
  count_test i l = ap (λ (e : Logged). leb e.count word_limit) (entry_read log i (omega (arith, entries_few log)))

  -- an entry of more than 8 words
  too_many : (i : ℕ) → i < length (entries_of log) → 8 < (get_or log.entries i no_entry).count → false ≡ not (bad_log log).when
  unfolding bad_log
  too_many i l many = rw (le-ltb 512 log.len few)
      (ap (λ (b : Bool). not (not b)) (all-below-fails (length (entries_of log)) _ i l (count_test i l ∙ lt-leb _ _ many)))

  -- none of either
  not-bad : ((i : ℕ) → i < length (entries_of log) → (get_or log.entries i no_entry).count ≤ word_limit) → true ≡ not (bad_log log).when
  unfolding bad_log
  not-bad small = rw (le-ltb 512 log.len few)
      (ap (λ (b : Bool). not (not b)) (sym (all-below-made (length (entries_of log)) _ (λ i l. count_test i l ∙ le-leb _ _ (small i l)))))

  -- which `all` finds
  pub good_all : (r : Bool)
      → MatchBool r (AllWithin (λ (e : LogEntry). e.count ≤ word_limit) (take log.len log.entries) 0 (length (take log.len log.entries)))
      ((k : ℕ) × (k < length (take log.len log.entries)) × HoldsAt (λ (e : LogEntry). word_limit < e.count) (take log.len log.entries) k)
      → r ≡ not (bad_log log).when
  unfolding entries_of
  good_all true h =
      not-bad (λ i l. subst (λ (e : LogEntry). e.count ≤ word_limit) (get_or-take log.len log.entries i no_entry (omega (arith, entries_few log))) (h i no_entry (omega arith) (omega (arith, length-map (take log.len log.entries) logged))))
  good_all false (k, l, h) =
      let low : k < length (entries_of log) = omega (arith, length-map (take log.len log.entries) logged) in
      too_many k low (subst (λ (e : LogEntry). word_limit < e.count) (get_or-take log.len log.entries k no_entry (omega (arith, entries_few log))) (h no_entry))

-- so a log that is not refused is good
pub good-read : (log : Log) → length log.entries ≡ 512 → not (bad_log log).when ≡ true → Good log
unfolding bad_log
good-read log whole e = record {
  few = few;
  small = λ i l. leb-true _ _ (sym (count_test log few i (omega (arith, many))) ∙ all-below-read (length (entries_of log)) _ all i (omega (arith, many)));
}
  where
    passes : (ltb log_room log.len || not (all_below (length (entries_of log)) (λ i. leb (entry_at (entries_of log) i).count word_limit))) ≡ false
    passes = not-true _ e

    few : log.len ≤ log_room
    few = ltb-false _ _ (or_left (ltb log_room log.len) _ passes)

    many : length (entries_of log) ≡ log.len
    many = entries-many log whole few

    all : all_below (length (entries_of log)) (λ i. leb (entry_at (entries_of log) i).count word_limit) ≡ true
    all = not-false _ (or_right (ltb log_room log.len) _ passes)

-- ---- columns
-- the entries of a log, and what of them stands in its column
module _ (log : Log) where
  abbrev used : List LogEntry
  used = take log.len log.entries

  module _ (k : ℕ) (l : k < length used) where
    sender_there : get_or (senders_of (map pair_of used)) k 0 ≡ (entry_at (map logged used) k).sender
    unfolding logged entry_at
    sender_there = get_or-map (λ (p : Pair). p.sender) (map pair_of used) k no_pair 0 (rw length-map l) ∙ ap (λ (p : Pair). p.sender) (get_or-map pair_of used k no_entry no_pair l)
        ∙ sym (ap (λ (e : Logged). e.sender) (get_or-map logged used k no_entry _ l))

    target_there : get_or (targets_of (map pair_of used)) k 0 ≡ (entry_at (map logged used) k).target
    unfolding logged entry_at
    target_there = get_or-map (λ (p : Pair). p.target) (map pair_of used) k no_pair 0 (rw length-map l) ∙ ap (λ (p : Pair). p.target) (get_or-map pair_of used k no_entry no_pair l)
        ∙ sym (ap (λ (e : Logged). e.target) (get_or-map logged used k no_entry _ l))

  -- they are its column
  own_column : Columns (map logged used) (senders_of (map pair_of used)) (targets_of (map pair_of used))
  own_column = record {
    many = length-map (map pair_of used) (λ (p : Pair). p.sender) ∙ length-map used pair_of ∙ sym (length-map used logged);
    as_many = length-map (map pair_of used) (λ (p : Pair). p.target) ∙ length-map used pair_of ∙ sym (length-map used logged);
    sender = λ k l. sender_there k (rw length-map at l);
    target = λ k l. target_there k (rw length-map at l);
  }

  -- as it is read from the whole array
  pub column_read : (pairs : List Pair) → pairs ≡ map pair_of log.entries → Columns (entries_of log) (senders_of (take log.len pairs)) (targets_of (take log.len pairs))
  unfolding entries_of
  column_read pairs e = rw (e, take-map pair_of log.len log.entries) own_column

-- ---- what is answered
-- a bad log of sends
pub bad-sends : (sends receives : Log) → not (bad_log sends).when ≡ false → refused 22 ≡ compare_answer sends receives
unfolding compare_answer compare_refusal unless
bad-sends sends receives e = let row : first_refusal (bad_log sends ∷ bad_log receives ∷ []) ≡ 22 = first-here (bad_log sends) _ (not-false _ e) ∙ (unfold bad_log in refl) in rw row refl

-- of receives
pub bad-receives : (sends receives : Log) → not (bad_log sends).when ≡ true → not (bad_log receives).when ≡ false → refused 22 ≡ compare_answer sends receives
unfolding compare_answer compare_refusal unless
bad-receives sends receives good e =
    let row : first_refusal (bad_log sends ∷ bad_log receives ∷ []) ≡ 22 = first-later (bad_log sends) _ (not-true _ good) ∙ first-here (bad_log receives) _ (not-false _ e) ∙ (unfold bad_log in refl) in
    rw row refl

-- both are good
pub both-good : (sends receives : Log) → not (bad_log sends).when ≡ true → not (bad_log receives).when ≡ true → compare (entries_of sends) (entries_of receives) ≡ compare_answer sends receives
unfolding compare_answer compare_refusal unless
both-good sends receives good fits =
    let row : first_refusal (bad_log sends ∷ bad_log receives ∷ []) ≡ 0 = first-later (bad_log sends) _ (not-true _ good) ∙ first-later (bad_log receives) _ (not-true _ fits) ∙ first-none in
    rw row refl
