-- The first send that differs and the first receive that was not sent, looked for in the arrays and columns of two logs.
use mathlib.Core.Path.{◌≡◌, refl, sym, ap, ◌∙◌}
use mathlib.Core.Bool.{Bool, true, false, not}
use mathlib.Core.List.{List}
use Prim.Native.Nat.{ℕ, ◌≤◌, ◌<◌}
use native.Mathlib.Omega.{arith}
use lib.ListN.{length, get_or}
use borrow.Author.Tests.{lt-ltb, le-ltb}
use Rattle.model.specs.Operations.{word_limit}
use Rattle.logs.specs.declared.Log.{Log}
use Rattle.model.specs.Lists.{first_below}
use Rattle.logs.specs.Comparison.{Logged, logged, entries_of, entry_at, same_message, agree, send, receive, send_differs, receive_unsent, compare}
use Rattle.laws.proofs.Below.{first-missing, first-is}
use Rattle.columns.specs.Ranks.{mate_of}
use Rattle.comparison.specs.Entries.{Columns, no_entry, Good}
use Rattle.comparison.proofs.Entries.{entries_few, entry_read}
use Rattle.comparison.proofs.Found.{found_none, found_mate, unsent, was-sent}

module _ (sends receives : Log) (senders targets sources receivers : List ℕ) (sent : Columns (entries_of sends) senders targets) (received : Columns (entries_of receives) sources receivers) where
  -- send i finds no receive of its rank
  pub send-alone : (i j : ℕ) → i < length senders → j ≡ mate_of senders targets i sources receivers
      → length sources ≤ j → send_differs (entries_of sends) (entries_of receives) i ≡ true
  send-alone i j low found past = found_none _ _ senders targets sources receivers sent received i (omega (arith, sent.many)) (omega (arith, received.many, found))

  -- it finds receive j
  pub send-found : (i j : ℕ) → i < length senders → j ≡ mate_of senders targets i sources receivers
      → j < length sources → send_differs (entries_of sends) (entries_of receives) i ≡ not (same_message (logged (get_or sends.entries i no_entry)) (logged (get_or receives.entries j no_entry)))
  send-found i j low found there =
      found_mate _ _ senders targets sources receivers sent received i (omega (arith, sent.many)) (omega (arith, received.many, found))
      ∙ ap (λ (k : ℕ). not (same_message (entry_at (entries_of sends) i) (entry_at (entries_of receives) k))) (sym found)
      ∙ ap (λ (e : Logged). not (same_message e (entry_at (entries_of receives) j))) (entry_read sends i (omega (arith, sent.many, entries_few sends)))
      ∙ ap (λ (e : Logged). not (same_message (logged (get_or sends.entries i no_entry)) e)) (entry_read receives j (omega (arith, received.many, entries_few receives)))

-- of tests below n: one that passes first is found, and none
pub first-here : (n m : ℕ) (f : ℕ → Bool) (i : ℕ) → m ≡ n → i < m → f i ≡ true → ((k : ℕ) → k < i → f k ≡ false) → i ≡ first_below n f
first-here n m f i same low passes before = sym (first-is n f i (omega arith) passes before)

pub first-nowhere : (n m : ℕ) (f : ℕ → Bool) (i : ℕ) → m ≡ n → i ≡ m → ((k : ℕ) → k < i → f k ≡ false) → i ≡ first_below n f
first-nowhere n m f i same all before = all ∙ same ∙ sym (first-missing n f (λ k l. before k (omega arith)))

-- columns are as long as their log, which is not above 512
pub column-few : (log : Log) (senders targets : List ℕ) → Good log → Columns (entries_of log) senders targets → length senders ≤ 512
column-few log senders targets good columns = omega (arith, columns.many, entries_few log, good.few)

-- the count of an entry that is in a column
pub column-small : (log : Log) (senders targets : List ℕ) → (good : Good log) → Columns (entries_of log) senders targets
    → (i : ℕ) → i < length senders → (get_or log.entries i no_entry).count ≤ word_limit
column-small log senders targets good columns i low = good.small i (omega (arith, columns.many, entries_few log))

module _ (sends receives : List Logged) (senders targets sources receivers : List ℕ) (sent : Columns sends senders targets) (received : Columns receives sources receivers) where
  -- receive j finds no send of its rank
  pub receive-unsent : (j i : ℕ) → j < length sources → i ≡ mate_of sources receivers j senders targets
      → length senders ≤ i → receive_unsent sends receives j ≡ true
  receive-unsent j i low found past = unsent sends receives senders targets sources receivers sent received j (omega (arith, received.many)) (omega (arith, sent.many, found))

  -- it finds one
  pub receive-sent : (j i : ℕ) → j < length sources → i ≡ mate_of sources receivers j senders targets
      → i < length senders → receive_unsent sends receives j ≡ false
  receive-sent j i low found there = was-sent sends receives senders targets sources receivers sent received j (omega (arith, received.many)) (omega (arith, sent.many, found))

-- ---- what is answered
module _ (sends receives : List Logged) (i : ℕ) (sends-first : i ≡ first_below (length sends) (send_differs sends receives)) where
  -- a send differs
  pub compare-send : i < length sends → send i ≡ compare sends receives
  unfolding compare
  compare-send low = rw (← sends-first, lt-ltb i (length sends) low) refl

  module _ (none : length sends ≤ i) (j : ℕ) (receives-first : j ≡ first_below (length receives) (receive_unsent sends receives)) where
    -- a receive was not sent
    pub compare-receive : j < length receives → receive j ≡ compare sends receives
    unfolding compare
    compare-receive low = rw (← sends-first, le-ltb i (length sends) none, ← receives-first, lt-ltb j (length receives) low) refl

    -- they agree
    pub compare-agree : length receives ≤ j → agree ≡ compare sends receives
    unfolding compare
    compare-agree all = rw (← sends-first, le-ltb i (length sends) none, ← receives-first, le-ltb j (length receives) all) refl
