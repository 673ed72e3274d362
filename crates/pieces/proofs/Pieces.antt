-- Wherever an input is cut into pieces, playing comes to the same.
use mathlib.Core.Path.{◌≡◌, refl, sym, ap, ◌∙◌, subst}
use mathlib.Core.Bool.{true≢false, true, false}
use mathlib.Core.List.{List, [], ◌∷◌, ◌++◌, append_assoc, append-nil}
use Prim.Native.Nat.{ℕ, ◌+◌, ◌≤◌}
use lib.ListN.{length, drop}
use lib.Seq.{drop-append-le, drop-drop}
use Rattle.model.specs.Lists.{concat, all_of}
use Rattle.model.specs.Refusals.{unless, make_refusal}
use Rattle.model.specs.RecordBytes.{record_length, thread_byte, lawful}
use Rattle.model.specs.Decoding.{front}
use Rattle.model.specs.Schedule.{is_empty}
use Rattle.model.specs.Bondtrace.{Tally, started, bondtrace}
use Rattle.model.proofs.Laws.{by}
use Rattle.laws.proofs.Lists.{cond-true, cond-false}
use Rattle.laws.proofs.Refusals.{accepted_making}
use Rattle.pieces.specs.Playing.{Progress, whole_record, ahead, played_on}
use Rattle.pieces.specs.Pieces.{end_text, Piecewise, fresh, next_piece, in_pieces, PiecesAreWhole, RestIsLeft, RestShort, PiecesText, KeepsPace}
use Rattle.pieces.proofs.Playing.{played-stops}
use Rattle.pieces.proofs.Ends.{taken-at-most, bad-not-empty, left-short}
use Rattle.pieces.proofs.Cuts.{bad-stays, goes_on}
use Rattle.pieces.proofs.WholeText.{table-text}

-- where nothing has come in there is no lawful record
none-unlawful : lawful false (front []) ≡ false
unfolding lawful all_of front record_length
none-unlawful = refl

-- nor a whole one
none-whole : whole_record [] ≡ false
unfolding whole_record
none-whole = refl

-- nothing was played of nothing
pub pace_fresh : (p : Tally) → KeepsPace p [] (fresh p)
unfolding fresh
pace_fresh p = record { same = sym (rw none-whole at (played-stops p [] none-unlawful)); kept = λ fine. refl; left = λ bad. absurd (true≢false (sym bad)) }

module _ (p : Tally) (input piece : List ℕ) (w : Piecewise) (f : KeepsPace p input w) where
  -- past an unlawful record
  pace_bad : w.progress.bad ≡ true → KeepsPace p (input ++ piece) w
  pace_bad bad = record {
    same = f.same ∙ sym (bad-stays piece p input (sym (ap (λ (q : Progress). q.bad) f.same) ∙ bad));
    kept = λ fine. absurd (true≢false (sym bad ∙ fine));
    left = f.left;
  }

  -- short of one
  module _ (fine : w.progress.bad ≡ false) where
    -- what is kept and comes in, played
    abbrev played : Progress
    played = played_on w.progress.tally (w.rest ++ piece)

    -- it is what the longer input comes to
    played-same : ahead w.progress.taken played ≡ played_on p (input ++ piece)
    played-same = rw (f.kept fine) (sym (subst
        (λ (q : Progress). q.bad ≡ false → played_on p (input ++ piece) ≡ ahead q.taken (played_on q.tally (drop q.taken input ++ piece)))
        (sym f.same) (goes_on piece p input) fine))

    -- and what is left of it is left of the longer input
    played-left : drop played.taken (w.rest ++ piece) ≡ drop (w.progress.taken + played.taken) (input ++ piece)
    played-left =
        let most : w.progress.taken ≤ length input = rw f.same (taken-at-most p input) in
        ap (drop played.taken) (rw (f.kept fine) (sym (drop-append-le w.progress.taken input piece most))) ∙ drop-drop played.taken w.progress.taken (input ++ piece)

    -- so far the next piece is played
    pace_fine : KeepsPace p (input ++ piece) (record { progress = ahead w.progress.taken played; rest = drop played.taken (w.rest ++ piece) })
    unfolding ahead
    pace_fine = record {
      same = played-same;
      kept = λ still. played-left;
      left = bad-not-empty w.progress.tally (w.rest ++ piece);
    }

-- one piece more
pub pace_next : (p : Tally) (input piece : List ℕ) (w : Piecewise) → KeepsPace p input w → KeepsPace p (input ++ piece) (next_piece piece w)
unfolding next_piece
pace_next p input piece w f = by w.progress.bad
    (λ bad. subst (KeepsPace p (input ++ piece)) (sym (cond-true _ _ _ bad)) (pace_bad p input piece w f bad))
    (λ fine. subst (KeepsPace p (input ++ piece)) (sym (cond-false _ _ _ fine)) (pace_fine p input piece w f fine))

-- one piece after the other
pace_all : (p : Tally) (pieces : List (List ℕ)) (input : List ℕ) (w : Piecewise) → KeepsPace p input w → KeepsPace p (input ++ concat pieces) (in_pieces pieces w)
unfolding in_pieces concat
pace_all p [] input w f = rw (append-nil input) f
pace_all p (piece ∷ pieces) input w f =
    rw (← append_assoc input piece (concat pieces)) (pace_all p pieces (input ++ piece) (next_piece piece w) (pace_next p input piece w f))

-- all pieces, from the first on
pub pace_pieces : (p : Tally) (pieces : List (List ℕ)) → KeepsPace p (concat pieces) (in_pieces pieces (fresh p))
pace_pieces p pieces = pace_all p pieces [] (fresh p) (pace_fresh p)

-- pieces are played as far as the whole of them is
pub pieces-are-whole : PiecesAreWhole
pieces-are-whole p pieces = (pace_pieces p pieces).same

-- and, short of an unlawful record, what is left of the whole is kept
pub rest-is-left : RestIsLeft
rest-is-left p pieces fine = (pace_pieces p pieces).kept fine ∙ ap (λ (q : Progress). drop q.taken (concat pieces)) (pieces-are-whole p pieces)

-- so few bytes are kept
pub rest-short : RestShort
rest-short p pieces fine = rw (rest-is-left p pieces fine) (left-short p (concat pieces) (sym (ap (λ (q : Progress). q.bad) (pieces-are-whole p pieces)) ∙ fine))

-- ---- the text
-- where pieces of an input were played, they print what the input prints
same_end : (p : Tally) (input : List ℕ) (w : Piecewise) → KeepsPace p input w → end_text (played_on p input) (drop (played_on p input).taken input) ≡ end_text w.progress w.rest
unfolding end_text
same_end p input w f = rw (← f.same) (by w.progress.bad
    (λ bad. let more : is_empty (drop w.progress.taken input) ≡ false = rw f.same (bad-not-empty p input (rw (← f.same) bad)) in rw (f.left bad, more) refl)
    (λ fine. rw (f.kept fine) refl))

-- behind a table record that makes a table, what is kept when no more comes tells the text
pub pace_text : (head input : List ℕ) (w : Piecewise) → lawful true head ≡ true → make_refusal (thread_byte head) ≡ 0 → KeepsPace (started (thread_byte head)) input w
    → bondtrace (head ++ input) ≡ end_text w.progress w.rest
unfolding unless
pace_text head input w rules made f =
    (rw made at (table-text head input rules)) ∙ same_end (started (thread_byte head)) input w f

-- so the text is the same wherever the input is cut
pub pieces-text : PiecesText
pieces-text head pieces rules least most = pace_text head (concat pieces) _ rules (accepted_making (thread_byte head) least most) (pace_pieces (started (thread_byte head)) pieces)
