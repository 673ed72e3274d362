-- When a report is right: where the call is refused, and where it is accepted; and records that are filled with outcomes one after the other.
use mathlib.Core.Path.{◌≡◌, refl, sym, ◌∙◌}
use mathlib.Core.List.{List, [], ◌∷◌, ◌++◌, append-nil}
use Prim.Native.Nat.{ℕ, suc, ◌+◌, ◌≤◌, ◌<◌}
use native.Mathlib.Omega.{arith}
use native.Mathlib.Numerals.{add-one}
use lib.ListN.{length, get_or, drop, set, length-append, length-drop, drop_of_length-le}
use lib.Seq.{drop-cons, append_snoc, set_at}
use lib.Dec.{eqb}
use borrow.Author.Tests.{eqb-true, not-false}
use Rattle.model.specs.declared.Outcome.{Outcome}
use Rattle.model.specs.declared.Table.{Table}
use Rattle.model.specs.declared.Answer.TheVariants.{Refused, Accepted}
use Rattle.model.specs.Lists.{up_to}
use Rattle.model.specs.Threads.{at}
use Rattle.model.specs.WellFormed.{size_in_range}
use Rattle.model.specs.Refusals.{unless, bad_size, not_well_formed, bad_length, report_refusal, table_rows}
use Rattle.model.proofs.Laws.{length-up-to}
use Rattle.model.proofs.Numbers.{size-read}
use Rattle.laws.proofs.Lists.{zero_or_not}
use Rattle.laws.proofs.Below.{read-up-to}
use Rattle.laws.proofs.Rows.{none-holds}
use Rattle.refusals.specs.declared.Refusal.{Refusal}
use Rattle.refusals.specs.Numbers.{number}
use Rattle.refusals.proofs.Laws.{refusal-numbered}
use Rattle.report.specs.Report.{all_outcomes, Reported}

-- ---- filling records
-- the outcome of thread x
abbrev pub outcome_of : Table → ℕ → Outcome
outcome_of t x = (at t x).outcome

-- the records when the first i are filled: the outcomes of the first i threads, and the other records as they were
unfoldable pub filled : Table → ℕ → List Outcome → List Outcome
filled t i records = up_to i (outcome_of t) ++ drop i records

-- at first none is filled
pub filled_none : (t : Table) (records : List Outcome) → records ≡ filled t 0 records
unfolding filled up_to
filled_none t records = refl

-- filling changes no length
pub filled-length : (t : Table) (i : ℕ) (records : List Outcome) → i ≤ length records → length (filled t i records) ≡ length records
unfolding filled
filled-length t i records short = omega (arith, length-append (up_to i (outcome_of t)) (drop i records), length-up-to i (outcome_of t), length-drop i records)

-- the next thread's outcome, written behind the filled records, fills one more
pub filled_more : (t : Table) (i : ℕ) (records : List Outcome) (u : Outcome) → i < length records → u ≡ outcome_of t i → set (filled t i records) i u ≡ filled t (i + 1) records
unfolding filled up_to
filled_more t i records u short e =
    rw (add-one i, drop-cons records i u short, set_at (up_to i (outcome_of t)) (get_or records i u) (drop (suc i) records) u i (length-up-to i (outcome_of t)), e)
    (sym (append_snoc (up_to i (outcome_of t)) (outcome_of t i) (drop (suc i) records)))

-- at last all are
pub filled-all : (t : Table) (i : ℕ) (records : List Outcome) → length records ≤ i → filled t i records ≡ up_to i (outcome_of t)
unfolding filled
filled-all t i records long = rw (drop_of_length-le records {i = i} long) (append-nil (up_to i (outcome_of t)))

-- ---- a report
-- a report has the outcome of each thread
pub read-outcome : (t : Table) (d : Outcome) (i : ℕ) → i < 32 → get_or (all_outcomes t) i d ≡ outcome_of t i
unfolding all_outcomes
read-outcome t d i l = read-up-to 32 (outcome_of t) d i l

-- one that is not refused is of at most 32 threads, with a record for each
pub report-fits : (t : Table) (records : ℕ) → report_refusal t records ≡ 0 → (t.n ≤ 32) × (records ≡ t.n)
unfolding report_refusal table_rows bad_size not_well_formed bad_length
report-fits t records e = let (size, (formed, (long, end))) = none-holds (bad_size t.n ∷ not_well_formed t ∷ bad_length t.n records ∷ []) refl e in
    ((size-read t.n (not-false (size_in_range t.n) size)).1, eqb-true records t.n (not-false (eqb records t.n) long))

module _ (t : Table) (records : ℕ) (outcomes : List Outcome) (all : outcomes ≡ all_outcomes t) where
  -- a refused report has the refusal's number and fills no record
  pub refused-report : (r : Refusal) (g : ℕ) → g ≡ number r → number r ≡ report_refusal t records → Reported t records (record { answer = Refused g; len = 0; outcomes = outcomes })
  unfolding unless
  refused-report r g is e = zero_or_not (number r) (λ z. absurd (omega (arith, refusal-numbered r))) (λ k n.
      let m : report_refusal t records ≡ suc k = sym e ∙ n in
      record { answers = rw (is ∙ n, m) refl; fills = rw m refl; outcomes = all })

  -- an accepted one fills every record
  pub accepted-report : 0 ≡ report_refusal t records → Reported t records (record { answer = Accepted; len = records; outcomes = outcomes })
  unfolding unless
  accepted-report e = record { answers = rw (sym e) refl; fills = rw (sym e) refl; outcomes = all }
