-- The text when nothing more is played is the model's, by whether bytes are left.
use mathlib.Core.Path.{◌≡◌, sym, ◌∙◌}
use mathlib.Core.Logic.{◌≢◌}
use mathlib.Core.Bool.{Bool}
use mathlib.Core.List.{List, ◌++◌}
use Prim.Native.Nat.{ℕ}
use native.Mathlib.Omega.{arith}
use lib.ListN.{length}
use Rattle.model.specs.Bondtrace.{tally, final_text, bad_line, bondtrace}
use Rattle.laws.proofs.Lists.{cond-true, cond-false}
use Rattle.text.specs.Writing.{Printed}
use Rattle.text.proofs.Writing.{printed_as}
use Rattle.laws.proofs.Records.{not-empty, is-empty}
use Rattle.printing.specs.Texts.{longest_text, longest_bad_line}
use Rattle.opening.specs.declared.Playback.{Playback}
use Rattle.playing.specs.Playback.{tally_of}
use Rattle.opening.specs.Opened.{Steady}
use Rattle.played_text.specs.Known.{Reached, longest_end}
use Rattle.played_text.proofs.Known.{steady-few, reached-text}

module _ (t : Playback) (store before after : List ℕ) (left stop : ℕ) where
  -- with bytes left, the line that tells it
  pub bad-written : left ≢ 0 → Printed (bad_line 12 t.place) longest_bad_line before after stop
      → (head input rest : List ℕ) (bad : Bool) → Reached head input bad t store rest → length rest ≡ left → Printed (bondtrace (head ++ input)) longest_end before after stop
  bad-written d printed head input rest bad r long =
      printed_as (sym (reached-text head input bad t store rest r ∙ cond-false _ _ _ (not-empty rest (omega (arith, long))))) (omega arith) printed

  -- with none, how the schedule ended
  pub end-written : left ≡ 0 → Steady t → Printed (final_text (tally t.table store t.records t.refused)) (longest_text t.table.n) before after stop
      → (head input rest : List ℕ) (bad : Bool) → Reached head input bad t store rest → length rest ≡ left → Printed (bondtrace (head ++ input)) longest_end before after stop
  unfolding tally_of
  end-written e steady printed head input rest bad r long =
      printed_as (sym (reached-text head input bad t store rest r ∙ cond-true _ _ _ (is-empty rest (long ∙ e)))) (omega (arith, steady-few t steady)) printed
