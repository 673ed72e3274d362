-- The line for a table record that is refused is the model's, also of an input that goes on.
use mathlib.Core.Path.{◌≡◌, refl, sym, ap, ◌∙◌}
use mathlib.Core.Logic.{◌≢◌, inl, inr}
use mathlib.Core.Bool.{true}
use mathlib.Core.List.{List, [], ◌++◌, append-nil}
use Prim.Native.Nat.{ℕ, zero, suc, ◌≤◌}
use native.Mathlib.Omega.{arith}
use lib.ListN.{length, get_or-append}
use Rattle.model.specs.RecordBytes.{thread_byte, lawful}
use Rattle.model.specs.Decoding.{front}
use Rattle.model.specs.Refusals.{unless, make_refusal}
use Rattle.model.specs.Bondtrace.{bad_line, bondtrace}
use Rattle.model.proofs.Laws.{by}
use Rattle.laws.proofs.Lists.{cond-true, cond-false}
use Rattle.pieces.specs.Pieces.{text_of}
use Rattle.pieces.proofs.WholeText.{whole-text, table_stays}
use Rattle.opening.specs.Opened.{open_refusal}
use Rattle.opening.proofs.Opening.{not_opened, opens}
use Rattle.printing.specs.Texts.{longest_bad_line}
use Rattle.text.specs.Writing.{Printed}
use Rattle.text.proofs.Writing.{printed_as}
use Rattle.played_text.specs.Known.{Settled, longest_end}

-- what is returned where there is a refusal
unless-refused : (g : ℕ) (f : ℕ → List ℕ) (a : List ℕ) → g ≢ 0 → unless g f a ≡ f g
unfolding unless
unless-refused zero f a d = absurd (d refl)
unless-refused (suc g) f a d = refl

-- of a whole input whose table record is refused, only the line is printed
whole-refused : (input : List ℕ) → open_refusal input ≢ 0 → bondtrace input ≡ bad_line (open_refusal input) 0
unfolding text_of
whole-refused input d =
    whole-text input ∙ by (lawful true (front input))
    (λ e. cond-true _ _ _ e ∙ unless-refused (make_refusal (thread_byte input)) _ _ (λ none. d (opens input e ∙ none)) ∙ ap (λ (g : ℕ). bad_line g 0) (sym (opens input e)))
    (λ e. cond-false _ _ _ e ∙ ap (λ (g : ℕ). bad_line g 0) (sym (not_opened input e)))

-- what comes behind four bytes does not change how they are refused
refusal-stays : (bytes more : List ℕ) → 4 ≤ length bytes → open_refusal (bytes ++ more) ≡ open_refusal bytes
unfolding open_refusal
refusal-stays bytes more four = rw (table_stays bytes more four, get_or-append bytes more 0 3 (omega arith)) refl

-- of an input that starts with these bytes
pub refused-line : (bytes more : List ℕ) → Settled bytes more → open_refusal bytes ≢ 0 → bondtrace (bytes ++ more) ≡ bad_line (open_refusal bytes) 0
refused-line bytes more (inl four) d = whole-refused (bytes ++ more) (λ none. d (sym (refusal-stays bytes more four) ∙ none)) ∙ ap (λ (g : ℕ). bad_line g 0) (refusal-stays bytes more four)
refused-line bytes more (inr none) d = rw (none, append-nil bytes) (whole-refused bytes d)

-- the line that is written is this one
pub refused-written : (bytes before after : List ℕ) (number stop : ℕ) → number ≡ open_refusal bytes → number ≢ 0
    → Printed (bad_line number 0) longest_bad_line before after stop → (more : List ℕ) → Settled bytes more → Printed (bondtrace (bytes ++ more)) longest_end before after stop
refused-written bytes before after number stop is d printed more settled =
    printed_as (ap (λ (g : ℕ). bad_line g 0) is ∙ sym (refused-line bytes more settled (λ none. d (is ∙ none)))) (omega arith) printed

-- of bytes behind which nothing comes
pub all_of_them : (bytes : List ℕ) {before after : List ℕ} {stop : ℕ} → ((more : List ℕ) → Settled bytes more → Printed (bondtrace (bytes ++ more)) longest_end before after stop) → Printed (bondtrace bytes) longest_end before after stop
all_of_them bytes told = printed_as (ap bondtrace (append-nil bytes)) (omega arith) (told [] (inr refl))
