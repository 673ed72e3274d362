-- The table of the codes, read both ways.
use Rattle.std.proofs.Common.{◌≡◌, ◌≢◌, refl, sym, ◌∙◌, List, ℕ, zero, suc, ◌+◌, ◌<◌, length, get_or, Option, unwrap_or, cond, arith, ℤ, pos}
use Rattle.std.specs.List.{AllWithin, HoldsAt}
use Rattle.std.specs.Option.{MatchOption}
use Rattle.std.proofs.lemmas.Iterator.{index_from_first}
use mir.Syntax.{w32}
use mir.Val.{of_z, to_z}
use Rattle.model.specs.Codes.{codes, same_code}
use Rattle.model.specs.Counting.{standing, digit_of}
use Rattle.laws.proofs.Codes.{code-itself, code_differs}

-- the first place at which a code stands is its digit
pub digit_first : (code : ℤ) (r : Option ℕ) → MatchOption r (AllWithin (λ d. d ≢ code) codes 0 8) (λ i. (i < 8) × HoldsAt (λ d. d ≡ code) codes i × AllWithin (λ d. d ≢ code) codes 0 i)
    → digit_of code ≡ unwrap_or r 8
unfolding digit_of standing
digit_first code r h =
    index_from_first (λ ds. standing ds code) (λ d. d ≡ code) (λ d. d ≢ code) refl (λ d ds e. rw (e, code-itself code) refl) (λ d ds e. rw (code_differs d code e) (omega arith)) codes r h

-- the code at a place, as 32 bits hold it, has that place for its digit
pub digit_at : (d : ℕ) → d < 8 → digit_of (to_z w32 (of_z w32 (get_or codes d (pos 0)))) ≡ d
unfolding digit_of standing
digit_at zero h = refl
digit_at (suc zero) h = refl
digit_at (suc (suc zero)) h = refl
digit_at (suc (suc (suc zero))) h = refl
digit_at (suc (suc (suc (suc zero)))) h = refl
digit_at (suc (suc (suc (suc (suc zero))))) h = refl
digit_at (suc (suc (suc (suc (suc (suc zero)))))) h = refl
digit_at (suc (suc (suc (suc (suc (suc (suc zero))))))) h = refl
digit_at (suc (suc (suc (suc (suc (suc (suc (suc d)))))))) h = absurd (omega arith)
