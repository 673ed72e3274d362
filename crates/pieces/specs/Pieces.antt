-- A schedule that is played as its bytes come in prints what `bondtrace` prints of the whole, wherever what stands behind its table record is cut into pieces.
use Rattle.std.specs.Prelude.{◌≡◌, true, false, cond, List, [], ◌∷◌, ◌++◌, ℕ, suc, ◌+◌, ◌≤◌, ◌<◌, length, drop}
use Rattle.std.proofs.Math.Option.{none, some}
use Rattle.model.specs.Lists.{concat}
use Rattle.model.specs.Refusals.{unless, make_refusal}
use Rattle.model.specs.RecordBytes.{longest_record, thread_byte, lawful}
use Rattle.model.specs.Decoding.{front}
use Rattle.model.specs.Schedule.{Reading, is_empty, read_from, encode_all}
use Rattle.model.specs.Bondtrace.{Tally, records_played, started, final_text, bad_line, bondtrace}
use Rattle.pieces.specs.Playing.{Progress, ahead, played_on}

-- ---- what is played is what the model reads
-- the tally is that of the records read, as many bytes were taken as they are written with, and the fault is 12 at the first byte left, or none where none is left
pub record AsRead (p : Tally) (place : ℕ) (input : List ℕ) (q : Progress) (reading : Reading) : Type 0 where
  pub tally : q.tally ≡ records_played reading.records p
  pub taken : q.taken ≡ length (encode_all reading.records)
  pub fault : reading.fault ≡ cond (is_empty (drop q.taken input)) none (some (record { number = 12; place = place + q.taken }))

-- so it is wherever the input starts
abbrev pub PlayedAsRead : Type 0
PlayedAsRead = (p : Tally) (place : ℕ) (input : List ℕ) → AsRead p place input (played_on p input) (read_from (suc (length input)) false place input)

-- ---- the whole input
-- what is printed when no more comes: of the records behind the table's, or, where bytes are left, that they are bad
unfoldable pub end_text : Progress → List ℕ → List ℕ
end_text q left = cond (is_empty left) (final_text q.tally) (bad_line 12 (4 + q.taken))

-- what is printed by playing: the table record first, then what stands behind it
unfoldable pub text_of : List ℕ → List ℕ
text_of input =
    let n = thread_byte input in
    let q = played_on (started n) (drop 4 input) in
    cond (lawful true (front input)) (unless (make_refusal n) (λ g. bad_line g 0) (end_text q (drop q.taken (drop 4 input)))) (bad_line 12 0)

-- it is what the model says
abbrev pub WholeText : Type 0
WholeText = (input : List ℕ) → bondtrace input ≡ text_of input

-- ---- piece by piece
-- how far playing came in the pieces so far, and the bytes behind that are kept
pub record Piecewise : Type 0 where
  pub progress : Progress
  pub rest : List ℕ

-- nothing has come in
unfoldable pub fresh : Tally → Piecewise
fresh p = record { progress = record { tally = p; taken = 0; bad = false }; rest = [] }

-- one piece more is played behind the bytes that were kept; past an unlawful record nothing is
unfoldable pub next_piece : List ℕ → Piecewise → Piecewise
next_piece piece w =
    let q = played_on w.progress.tally (w.rest ++ piece) in
    cond w.progress.bad w (record { progress = ahead w.progress.taken q; rest = drop q.taken (w.rest ++ piece) })

-- one piece after the other
unfoldable pub in_pieces : List (List ℕ) → Piecewise → Piecewise
in_pieces [] w = w
in_pieces (piece ∷ pieces) w = in_pieces pieces (next_piece piece w)

-- after pieces of this input: playing came as far as in the whole of it, and what is left is kept, or at least something of an unlawful record
pub record KeepsPace (p : Tally) (input : List ℕ) (w : Piecewise) : Type 0 where
  pub same : w.progress ≡ played_on p input
  pub kept : w.progress.bad ≡ false → w.rest ≡ drop w.progress.taken input
  pub left : w.progress.bad ≡ true → is_empty w.rest ≡ false

-- pieces are played as far as the whole of them is
abbrev pub PiecesAreWhole : Type 0
PiecesAreWhole = (p : Tally) (pieces : List (List ℕ)) → (in_pieces pieces (fresh p)).progress ≡ played_on p (concat pieces)

-- and, short of an unlawful record, what is left of the whole is kept
abbrev pub RestIsLeft : Type 0
RestIsLeft = (p : Tally) (pieces : List (List ℕ)) → (in_pieces pieces (fresh p)).progress.bad ≡ false
    → (in_pieces pieces (fresh p)).rest ≡ drop (played_on p (concat pieces)).taken (concat pieces)

-- what is kept is shorter than a record can be
abbrev pub RestShort : Type 0
RestShort = (p : Tally) (pieces : List (List ℕ)) → (in_pieces pieces (fresh p)).progress.bad ≡ false → length (in_pieces pieces (fresh p)).rest < longest_record

-- behind a table record of 1 to 32 threads, what is kept when no more comes tells the text: it is the same wherever what stands behind that record is cut
abbrev pub PiecesText : Type 0
PiecesText = (head : List ℕ) (pieces : List (List ℕ)) → lawful true head ≡ true → 1 ≤ thread_byte head → thread_byte head ≤ 32
    → let w = in_pieces pieces (fresh (started (thread_byte head))) in bondtrace (head ++ concat pieces) ≡ end_text w.progress w.rest
