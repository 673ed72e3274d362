-- The action that copies one word: the atomic machine does not see it.
use mathlib.Core.Path.{◌≡◌, refl, sym, ap}
use mathlib.Core.Option.{none}
use mathlib.Core.List.{List}
use Prim.Native.Nat.{ℕ, ◌<◌}
use native.Mathlib.Omega.{arith}
use Rattle.model.specs.declared.Thread.{Thread}
use Rattle.model.specs.Operations.{word_limit}
use Rattle.model.specs.Phases.{copy, phase_of}
use Rattle.model.specs.Store.{words_at, word_copied}
use Rattle.model.specs.Step.{copy_word, own_after, other_after}
use Rattle.model.specs.Atomic.{Machine}
use Rattle.model.proofs.Laws.{same?}
use Rattle.laws.proofs.Store.{words-copied-other}
use Rattle.laws.proofs.Decided.{after_action}
use Rattle.formed.specs.Groups.{copies_to}
use Rattle.formed.proofs.Receivers.{copies-to-target, receiver-count, message-short, copies-alone}
use Rattle.simulation.proofs.Abstraction.{abstraction, copied-kept, copied_more}
use Rattle.simulation.proofs.Leads.{Simulates, Leads, OthersKept, none-leads}

-- a thread whose count is 0 shows no words
wordless : (h : Thread) (a b : List ℕ) → h.outcome.count ≡ 0 → abstraction h a ≡ abstraction h b
unfolding abstraction
wordless h a b e = rw e refl

-- the receiver runs and shows no words, and no other thread's words change
pub copy-word-leads : {n : ℕ} {p : Machine} {T : ℕ → Thread} {store : List ℕ} → Simulates n p T store → (x : ℕ) → x < n
    → phase_of (T x).phase ≡ copy → (T x).copied < (T x).op.send.count → Leads n none p (after_action copy_word T x) (word_copied (T x) store)
unfolding own_after other_after abstraction
copy-word-leads {n} {p} {T} {store} S x xn c more =
    none-leads S x xn after kept (words x xn) (T x).op.send.target _ (own_after copy_word (T x)) refl refl (λ k. k)
    (copied_more n store (T x) S.fit short (copies-to-target S.formed x xn c) (S.copied x xn))
  where
    after : List ℕ
    after = word_copied (T x) store

    short : (T x).copied < word_limit
    short = omega (arith, message-short S.formed x xn c)

    words : (y : ℕ) → y < n → abstraction (T y) (words_at store y) ≡ abstraction (T y) (words_at after y)
    words y yn = same? y (T x).op.send.target
        (λ e. wordless (T y) _ _ (rw e (receiver-count S.formed x xn c)))
        (λ d. ap (abstraction (T y)) (sym (words-copied-other (T x) store y d short)))

    kept : OthersKept n T x store after
    kept = record {
      words = λ y yn d. words y yn;
      copied = λ y yn d. copied-kept n store after (T y)
          (λ l. words-copied-other (T x) store (copies_to (T y)) (copies-alone S.formed x xn c y yn d) short) (S.copied y yn);
    }
