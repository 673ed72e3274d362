-- The table record: whether it is refused, how large a table it makes, and that the playback can go on from there.
use Rattle.std.proofs.Common.{◌≡◌, ℕ, zero, suc, ◌*◌, true, false, ◌≢◌, List, sym, refl, ap, arith}
use Rattle.model.specs.Refusals.{unless, make_refusal}
use Rattle.model.specs.RecordBytes.{thread_byte, lawful}
use Rattle.model.specs.Decoding.{front}
use Rattle.laws.proofs.Lists.{cond-true, cond-false}
use Rattle.invariant.proofs.New.{new-size, new-rules}
use Rattle.unchecked.proofs.Kept.{new-checked}
use Rattle.opening.specs.Opened.{open_refusal, open_size, opened, Steady}

module _ (input : List ℕ) where
  -- bytes that do not start with a lawful table record are refused
  pub not_opened : lawful true (front input) ≡ false → open_refusal input ≡ 12
  unfolding open_refusal
  not_opened e = cond-false _ _ _ e

  -- others are by the number of threads
  pub opens : lawful true (front input) ≡ true → open_refusal input ≡ make_refusal (thread_byte input)
  unfolding open_refusal
  opens e = cond-true _ _ _ e

  -- where they are not refused, the table has as many threads
  pub opened-size : open_refusal input ≡ 0 → open_size input ≡ thread_byte input
  unfolding open_size unless
  opened-size e = rw e refl

  -- where they are, none is made
  pub refused-size : (g : ℕ) → g ≡ open_refusal input → g ≢ 0 → open_size input ≡ 0
  unfolding open_size unless
  refused-size zero is d = absurd (d refl)
  refused-size (suc g) is d = rw (sym is) refl

-- the playback of a table record that is not refused can go on
pub opened-steady : (n : ℕ) → make_refusal n ≡ 0 → Steady (opened n)
unfolding opened
opened-steady n made = record { checked = new-checked n made; unruled = new-rules n; fewer = omega arith; counted = omega arith }

-- it has eight words for each of its threads
pub opened-words : (n : ℕ) → 8 * (opened n).table.n ≡ 8 * n
unfolding opened
opened-words n = ap (λ (k : ℕ). 8 * k) (new-size n)
