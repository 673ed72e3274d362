-- The rules of a begin, as the code tests them: the fields that the parts do not use, and the words past the count, one after the other.
use mathlib.Core.Path.{◌≡◌, refl, sym}
use mathlib.Core.Logic.{◌≢◌}
use mathlib.Core.Bool.{Bool, true, false, not, ◌&&◌, ◌||◌, or-true}
use mathlib.Core.List.{List, [], ◌∷◌}
use Prim.Native.Nat.{ℕ, ◌+◌, ◌≤◌, ◌<◌}
use native.Mathlib.Omega.{arith}
use lib.Dec.{eqb, ltb}
use borrow.Author.Tests.{lt-ltb, le-ltb, eq-eqb, ne_eqb}
use Rattle.model.specs.Lists.{implies, all_of, all_below}
use Rattle.model.specs.RecordBytes.{word_at}
use Rattle.model.proofs.Laws.{same?, all-below-made}
use Rattle.laws.proofs.Below.{all-below-fails}
use Rattle.laws.proofs.Tests.{all-joined}

-- ---- the fields that the parts do not use
-- a field that a part uses, or that is as it is without the part
used-by : (part field : Bool) → (part || field) ≡ implies (not part) field
unfolding implies
used-by true field = refl
used-by false field = refl

-- the partner, which only a receive part uses that is not open
used_closed : (receives opens field : Bool) → ((receives && not opens) || field) ≡ implies (not receives || opens) field
unfolding implies
used_closed true true field = refl
used_closed true false field = refl
used_closed false opens field = refl

-- the tests of a begin, joined
pub begin-joined : (parts opens receives sends send wait partner words : Bool)
    → ((((((parts && (not opens || receives)) && (sends || send)) && (receives || wait)) && ((receives && not opens) || partner)) && words)
    ≡ all_of (parts ∷ implies opens receives ∷ implies (not sends) send ∷ implies (not receives) wait ∷ implies (not receives || opens) partner ∷ words ∷ []))
unfolding implies
begin-joined parts opens receives sends send wait partner words =
    rw (used-by sends send, used-by receives wait, used_closed receives opens partner) (all-joined _ _)

-- ---- the words past the count
-- word i is counted, or is 0
abbrev pub word_lawful : List ℕ → ℕ → ℕ → Bool
word_lawful bytes count i = ltb i count || eqb (word_at bytes i) 0

module _ (bytes : List ℕ) (count : ℕ) where
  -- the test has passed i words, of which the first count need no test
  pub record Passed (i : ℕ) : Type 0 where
    pub counted : count ≤ i
    pub good : (y : ℕ) → y < i → word_lawful bytes count y ≡ true

  -- it starts past the count
  pub passed_counted : Passed count
  passed_counted = record { counted = omega arith; good = λ y l. rw (lt-ltb y count l) refl }

  module _ {i : ℕ} (p : Passed i) where
    -- it passes a word that is 0
    pub passed-more : word_at bytes i ≡ 0 → Passed (i + 1)
    passed-more e = record {
      counted = let c = p.counted in omega arith;
      good = λ y l. same? y i (λ s. rw (s, eq-eqb (word_at bytes i) 0 e) (or-true (ltb i count))) (λ d. p.good y (omega arith));
    }

    -- it fails at another
    pub passed-not : i < 8 → word_at bytes i ≢ 0 → false ≡ all_below 8 (word_lawful bytes count)
    passed-not l d = all-below-fails 8 (word_lawful bytes count) i l (rw (le-ltb i count p.counted, ne_eqb (word_at bytes i) 0 d) refl)

    -- it holds where none is left
    pub passed-all : 8 ≤ i → true ≡ all_below 8 (word_lawful bytes count)
    passed-all l = sym (all-below-made 8 (word_lawful bytes count) (λ y k. p.good y (omega arith)))
