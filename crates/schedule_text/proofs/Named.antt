-- Laws of the threads that a line names: a tick names thread 0 as often as it is told, every other line those that are its numbers.
use mathlib.Core.Logic.{◌≢◌}
use mathlib.Core.Path.{◌≡◌, sym, ◌∙◌, ap}
use mathlib.Core.List.{List}
use Prim.Native.Nat.{ℕ, ◌≤◌, ◌<◌}
use native.Mathlib.Omega.{arith}
use lib.Dec.{eqb}
use lib.ListN.{length, get_or, replicate, length-replicate, get_or-replicate}
use borrow.Author.Tests.{eq-eqb, ne_eqb, eqb-true, eqb-false}
use Rattle.model.specs.declared.Operation.{Operation}
use Rattle.model.specs.RecordBytes.{tick_kind}
use Rattle.model.proofs.Laws.{by}
use Rattle.laws.proofs.Lists.{cond-true, cond-false}
use Rattle.roundtrip.specs.Fits.{Bytes}
use Rattle.roundtrip.proofs.Lists.{replicate-under}
use Rattle.language.specs.Commands.{asked, command_of}
use Rattle.language.specs.RecordText.{threads_of}
use Rattle.spelling.proofs.Ranges.{numbers-bytes}

module _ (row : ℕ) (numbers : List ℕ) where
  -- a line that is no tick
  pub named-threads : row ≢ tick_kind → threads_of row numbers ≡ numbers
  unfolding threads_of
  named-threads other = cond-false _ _ _ (ne_eqb row tick_kind other)

  -- a tick
  tick-threads : row ≡ tick_kind → threads_of row numbers ≡ replicate (get_or numbers 0 1) 0
  unfolding threads_of
  tick-threads tick = cond-true _ _ _ (eq-eqb row tick_kind tick)

  -- how often it is told
  pub tick-many : row ≡ tick_kind → length (threads_of row numbers) ≡ get_or numbers 0 1
  tick-many tick = ap length (tick-threads tick) ∙ length-replicate (get_or numbers 0 1) 0

  -- thread 0
  pub tick-thread : row ≡ tick_kind → (i : ℕ) → i < length (threads_of row numbers) → get_or (threads_of row numbers) i 0 ≡ 0
  tick-thread tick i inside = rw (tick-threads tick) (get_or-replicate (get_or numbers 0 1) i 0 0 (rw (tick-many tick) at inside))

  -- the numbers of a line that is no tick are as many
  pub named-inside : row ≢ tick_kind → (i : ℕ) → i < length (threads_of row numbers) → i < length numbers
  named-inside other i inside = rw (named-threads other) at inside

  -- a number of a line that is no tick is that thread
  pub named-thread : row ≢ tick_kind → (i : ℕ) → get_or numbers i 0 ≡ get_or (threads_of row numbers) i 0
  named-thread other i = sym (ap (λ (l : List ℕ). get_or l i 0) (named-threads other))

-- ---- the threads of a line are bytes
pub threads-bytes : (line : List ℕ) (row : ℕ) (numbers : List ℕ) (operation : Operation) → command_of line ≡ asked row numbers operation → row ≤ tick_kind → Bytes (threads_of row numbers)
threads-bytes line row numbers operation e low =
    by (eqb row tick_kind)
    (λ tick. rw (tick-threads row numbers (eqb-true row tick_kind tick)) (replicate-under 256 (get_or numbers 0 1) 0 (omega arith)))
    (λ other. let different : row ≢ tick_kind = eqb-false row tick_kind other in rw (named-threads row numbers different) (numbers-bytes line row numbers operation e (omega (arith, different))))
