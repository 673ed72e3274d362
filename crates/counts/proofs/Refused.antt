-- What counting promises where it is refused, and where it is not.
use Rattle.std.proofs.Common.{◌≡◌, ℕ, suc, ◌<◌, ◌≤◌, true, eqb, List, [], ◌∷◌, ◌++◌, length, sym, refl, ◌∙◌, ltb-false, le-ltb, lt-ltb, eqb-true, arith}
use borrow.Author.Tests.{not-false}
use Rattle.model.specs.declared.Table.{Table}
use Rattle.model.specs.declared.Answer.TheVariants.{Refused, Accepted}
use Rattle.model.specs.Lists.{up_to}
use Rattle.model.specs.WellFormed.{well_formed}
use Rattle.model.specs.Counting.{length_used, counted_threads, count_places, count_of}
use Rattle.model.specs.Refusals.{first_refusal, unless, bad_size, not_well_formed, bad_length, too_many_to_count, table_rows, count_refusal}
use Rattle.model.specs.Promise.{count_answer, count_length, counts_after, CountPromise}
use Rattle.laws.proofs.Lists.{zero_or_not}
use Rattle.refusals.specs.declared.Refusal.{Refusal}
use Rattle.refusals.specs.Numbers.{number}
use Rattle.refusals.proofs.Laws.{refusal-numbered}
use Rattle.laws.proofs.Rows.{none-holds, first-here, first-later}

module _ (t : Table) (places : ℕ) where
  -- above four threads it is 1
  pub too_many : counted_threads < t.n → 1 ≡ count_refusal t places
  unfolding count_refusal too_many_to_count
  too_many more = sym (first-here (too_many_to_count t.n) (table_rows t ++ (bad_length count_places places ∷ [])) (lt-ltb counted_threads t.n more))

  -- with at most four, the other rows decide
  pub few-rows : t.n ≤ counted_threads → (g : ℕ) → g ≡ first_refusal (table_rows t ++ (bad_length count_places places ∷ [])) → g ≡ count_refusal t places
  unfolding count_refusal too_many_to_count
  few-rows few g is = is ∙ sym (first-later (too_many_to_count t.n) (table_rows t ++ (bad_length count_places places ∷ [])) (le-ltb counted_threads t.n few))

  -- where it is not refused, the table is well-formed, of at most four threads, and there are 4096 counts
  pub count_fits : 0 ≡ count_refusal t places → (t.n ≤ counted_threads) × (well_formed t ≡ true) × (places ≡ count_places)
  unfolding count_refusal too_many_to_count table_rows bad_size not_well_formed bad_length
  count_fits e =
      let (few, (size, (formed, (long, end)))) = none-holds (too_many_to_count t.n ∷ bad_size t.n ∷ not_well_formed t ∷ bad_length count_places places ∷ []) refl (sym e) in
      (ltb-false counted_threads t.n few, not-false (well_formed t) formed, eqb-true places count_places (not-false (eqb places count_places) long))

module _ (t : Table) (k : ℕ) (counts : List ℕ) where
  -- refused: the number, no length, and the counts as they were
  pub refused-count : (r : Refusal) (g : ℕ) → g ≡ number r → number r ≡ count_refusal t (length counts) → CountPromise t k counts (Refused g) 0 counts
  unfolding unless count_answer count_length counts_after
  refused-count r g is e = zero_or_not (number r) (λ z. absurd (omega (arith, refusal-numbered r))) (λ j n.
      let m : count_refusal t (length counts) ≡ suc j = sym e ∙ n in
      record { answers = rw (is ∙ n, m) refl; uses = rw m refl; fills = rw m refl })

  -- accepted: the length that was used, and every count
  pub accepted-count : 0 ≡ count_refusal t (length counts) → (used : ℕ) → used ≡ length_used k → (after : List ℕ) → after ≡ up_to count_places (count_of t (length_used k)) → CountPromise t k counts Accepted used after
  unfolding unless count_answer count_length counts_after
  accepted-count e used uses after fills = record { answers = rw (sym e) refl; uses = rw (sym e) uses; fills = rw (sym e) fills }
