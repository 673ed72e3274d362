-- Document 02, #107: a begin of few words is the same through either entry, and one that the spark entry takes is one that the main entry takes.
use mathlib.Core.Path.{◌≡◌, refl, sym, ◌∙◌}
use mathlib.Core.Bool.{false}
use Prim.Native.Nat.{ℕ, ◌≤◌}
use native.Mathlib.Omega.{arith}
use borrow.Author.Tests.{le-ltb}
use Rattle.model.specs.declared.Operation.{Operation}
use Rattle.model.specs.declared.EntryPoint.{EntryPoint}
use Rattle.model.specs.declared.EntryPoint.TheVariants.{Main, Spark}
use Rattle.model.specs.declared.Answer.{Answer}
use Rattle.model.specs.Operations.{word_limit, spark_limit}
use Rattle.model.specs.Calls.{begin_via, begin, spark_begin, State, accepted_reply, accepted_state}
use Rattle.model.specs.Refusals.{first_refusal, more_words, too_many_words, table_rows, argument_rows, unruled_rows, begin_rows, later_rows, rows_of, refusal}
use Rattle.model.specs.Promise.{answer, next, Promise, FewWords, SameThroughEither}
use Rattle.model.proofs.Laws.{by}
use Rattle.model.proofs.Answers.{said-settles}
use Rattle.laws.proofs.Refusals.{spark-words}
use Rattle.laws.proofs.Calls.{accepted-next, accepted-answer}

-- so few words are within every limit that is not below three
few_words : (limit : ℕ) (o : Operation) → spark_limit ≤ limit → FewWords o → more_words limit o ≡ false
unfolding more_words
few_words limit o l few = by o.send.present
    (λ i. rw i (le-ltb limit o.send.count (omega (arith, few i))))
    (λ i. rw i refl)

-- ---- a begin of few words
module _ (x : ℕ) (o : Operation) (s : State) (few : FewWords o) where
  -- is refused alike
  same-refusal : refusal (spark_begin x o) s ≡ refusal (begin x o) s
  unfolding refusal rows_of table_rows argument_rows later_rows unruled_rows begin_rows too_many_words first_refusal
  same-refusal = rw (few_words spark_limit o (omega arith) few, few_words word_limit o (omega arith) few) refl

  -- answers alike
  same_answer : answer (spark_begin x o) s ≡ answer (begin x o) s
  unfolding answer accepted_reply
  same_answer = rw same-refusal refl

  -- and leaves the same
  same_next : next (spark_begin x o) s ≡ next (begin x o) s
  unfolding next accepted_state
  same_next = rw same-refusal refl

-- "a begin of at most 3 words returns and leaves the same through either"
pub same_through_either : SameThroughEither
same_through_either x o s few = (same_answer x o s few, same_next x o s few)

-- so any two calls that keep their promises
pub calls-alike : (x : ℕ) (o : Operation) (s : State) → FewWords o → (a b : Answer) (after later : State)
    → Promise (spark_begin x o) s a after → Promise (begin x o) s b later → (a ≡ b) × (after ≡ later)
calls-alike x o s few a b after later spark main =
    (said-settles a b (spark.answers ∙ same_answer x o s few ∙ sym main.answers), spark.leaves ∙ same_next x o s few ∙ sym main.leaves)

-- ---- a begin that is not refused, by its entry
module _ (via : EntryPoint) (x : ℕ) (o : Operation) (s : State) (e : refusal (begin_via via x o) s ≡ 0) where
  -- is not refused through the main entry
  pub main-takes : refusal (begin x o) s ≡ 0
  main-takes = taken via e
    where
      taken : (v : EntryPoint) → refusal (begin_via v x o) s ≡ 0 → refusal (begin x o) s ≡ 0
      taken Main i = i
      taken Spark i = sym (same-refusal x o s (spark-words x o s i)) ∙ i

  -- so what keeps the promise of that entry keeps its own
  pub promised_via : (a : Answer) (after : State) → Promise (begin x o) s a after → Promise (begin_via via x o) s a after
  unfolding accepted_reply accepted_state
  promised_via a after kept = record {
    answers = kept.answers ∙ accepted-answer (begin x o) s main-takes ∙ sym (accepted-answer (begin_via via x o) s e);
    leaves = kept.leaves ∙ accepted-next (begin x o) s main-takes ∙ sym (accepted-next (begin_via via x o) s e);
  }
