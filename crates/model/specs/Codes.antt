-- Document 01, "The table": codes and outcomes, and what a user sees of a thread.
use Rattle.std.specs.Prelude.{Bool, false, List, [], ◌∷◌, ℕ, eqb, ℤ, pos, negsuc, neg_ℤ}
use Rattle.std.specs.Int.Signed.{lt_z}
use Rattle.model.specs.declared.Outcome.{Outcome}

-- ---- codes: "signed; every failure is below zero"
-- "0 done"
abbrev pub done : ℤ
done = pos 0

-- "1 running"
abbrev pub running : ℤ
running = pos 1

-- "2 never begun"
abbrev pub never_begun : ℤ
never_begun = pos 2

-- "-2 receiver does not exist"
abbrev pub no_receiver : ℤ
no_receiver = neg_ℤ (pos 2)

-- "-3 receive time over"
abbrev pub receive_time_over : ℤ
receive_time_over = neg_ℤ (pos 3)

-- "-4 send time over"
abbrev pub send_time_over : ℤ
send_time_over = neg_ℤ (pos 4)

-- "-5 receive cancelled"
abbrev pub receive_cancelled : ℤ
receive_cancelled = neg_ℤ (pos 5)

-- "-6 send cancelled"
abbrev pub send_cancelled : ℤ
send_cancelled = neg_ℤ (pos 6)

-- the codes in document 01's order
abbrev pub codes : List ℤ
codes = done ∷ running ∷ never_begun ∷ no_receiver ∷ receive_time_over ∷ send_time_over ∷ receive_cancelled ∷ send_cancelled ∷ []

-- "every failure is below zero"
unfoldable pub is_failure : ℤ → Bool
is_failure code = lt_z code (pos 0)

-- two codes are the same
abbrev pub same_code : ℤ → ℤ → Bool
same_code (pos m) (pos n) = eqb m n
same_code (pos m) (negsuc n) = false
same_code (negsuc m) (pos n) = false
same_code (negsuc m) (negsuc n) = eqb m n

-- "Source 255 means none"; a lock's owner 255 is none too
abbrev pub nobody : ℕ
nobody = 255

-- an outcome that is not a completed receive: its code, "source 255 and count 0"
abbrev pub code_only : ℤ → Outcome
code_only code = record { code = code; source = nobody; count = 0 }

-- what a user sees of a thread: its outcome and the first `count` of its eight words
pub record View : Type 0 where
  pub outcome : Outcome
  pub words : List ℕ
