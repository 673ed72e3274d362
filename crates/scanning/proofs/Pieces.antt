-- The pieces of a word: what stands before a comma, and what a run without one tells of the bytes.
use mathlib.Core.Path.{◌≡◌, refl, sym, ap, ◌∙◌}
use mathlib.Core.Bool.{Bool, true, ◌||◌}
use Rattle.std.specs.List.{list_any}
use mathlib.Core.List.{List, [], ◌∷◌, ◌++◌}
use Prim.Native.Nat.{ℕ, suc, ◌-◌, ◌<◌}
use native.Mathlib.Omega.{arith}
use lib.Dec.{eqb}
use lib.ListN.{length, drop, get_or, length-drop}
use lib.Seq.{take_all, drop-cons}
use borrow.Author.Tests.{eqb-true, not-true, not-false}
use Rattle.language.specs.Words.{joined, comma, has_comma, pieces}
use Rattle.language.specs.Runs.{each}
use Rattle.language.proofs.Words.{each_first, each-rest}
use Rattle.scanning.specs.Scanned.{between, Run, of_piece}
use Rattle.scanning.proofs.Runs.{between-rest}

-- ---- bytes before a comma
-- a byte in front of the first piece
pieces-byte : (byte : ℕ) (rest piece : List ℕ) (later : List (List ℕ)) → of_piece byte ≡ true → pieces rest ≡ piece ∷ later → pieces (byte ∷ rest) ≡ (byte ∷ piece) ∷ later
unfolding pieces joined
pieces-byte byte rest piece later t e = rw (not-true (eqb byte comma) t, e)

-- a piece in front, with the comma behind it, is the first of the pieces
pieces-piece : (piece rest : List ℕ) → each of_piece piece ≡ true → pieces (piece ++ comma ∷ rest) ≡ piece ∷ pieces rest
unfolding pieces
pieces-piece [] rest e = refl
pieces-piece (byte ∷ piece) rest e = pieces-byte byte (piece ++ comma ∷ rest) piece (pieces rest) (each_first _ byte piece e) (pieces-piece piece rest (each-rest _ byte piece e))

-- a word without a comma is one piece
pieces-one : (word : List ℕ) → each of_piece word ≡ true → pieces word ≡ word ∷ []
unfolding pieces
pieces-one [] e = refl
pieces-one (byte ∷ word) e = pieces-byte byte word word [] (each_first _ byte word e) (pieces-one word (each-rest _ byte word e))

-- a word has one where one of its bytes is one
pub has-comma : (word : List ℕ) → list_any (λ byte. eqb byte comma) word ≡ has_comma word
unfolding has_comma
has-comma [] = refl
has-comma (byte ∷ word) = ap (λ (later : Bool). eqb byte comma || later) (has-comma word)

-- ---- a run without a comma
module _ (word : List ℕ) (from stop : ℕ) (r : Run of_piece word from stop) where
  -- the rest of a word that goes on behind it
  piece-before : stop < length word → between from stop word ++ comma ∷ drop (suc stop) word ≡ drop from word
  piece-before lt =
      let comma-here = eqb-true (get_or word stop 0) comma (not-false _ (r.stops lt)) in
      let behind : drop stop word ≡ comma ∷ drop (suc stop) word = rw comma-here at (drop-cons word stop 0 lt) in
      rw behind at (between-rest word from stop r.passing.after)

  -- the rest of a word that ends with it
  piece-at-end : stop ≡ length word → between from stop word ≡ drop from word
  piece-at-end e = take_all (stop - from) (drop from word) (simp length-drop (omega arith))

  -- it is a piece, and the others stand behind the comma
  pub piece-ended : stop < length word → pieces (drop from word) ≡ between from stop word ∷ pieces (drop (suc stop) word)
  piece-ended lt = ap pieces (sym (piece-before lt)) ∙ pieces-piece _ _ r.passing.pass

  -- it is the last piece
  pub piece-last : stop ≡ length word → pieces (drop from word) ≡ between from stop word ∷ []
  piece-last e = ap pieces (sym (piece-at-end e)) ∙ pieces-one _ r.passing.pass
