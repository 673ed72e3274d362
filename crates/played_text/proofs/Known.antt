-- What playing promises, piece by piece, comes to what the model prints of the whole input.
use mathlib.Core.Path.{◌≡◌, refl, sym, ap, ◌∙◌, subst}
use mathlib.Core.Bool.{Bool, true, false, cond}
use mathlib.Core.List.{List, [], ◌++◌}
use Prim.Native.Nat.{ℕ, ◌+◌, ◌-◌, ◌*◌, ◌≤◌, ◌<◌}
use native.Mathlib.Omega.{arith}
use lib.ListN.{length, drop, replicate}
use Rattle.model.specs.Refusals.{make_refusal}
use Rattle.model.specs.RecordBytes.{longest_record, thread_byte, lawful}
use Rattle.model.specs.Schedule.{is_empty}
use Rattle.model.specs.Bondtrace.{started, final_text, bad_line, bondtrace}
use Rattle.model.proofs.Tested.{formed-few}
use Rattle.pieces.specs.Playing.{Progress, ahead, played_on}
use Rattle.pieces.specs.Pieces.{fresh, next_piece, KeepsPace, end_text}
use Rattle.pieces.proofs.Ends.{left-short}
use Rattle.pieces.proofs.Pieces.{pace_fresh, pace_next, pace_text}
use Rattle.opening.specs.declared.Playback.{Playback}
use Rattle.playing.specs.Playback.{tally_of, PlayPromise}
use Rattle.opening.specs.Opened.{opened, Steady}
use Rattle.played_text.specs.Known.{known, Reached}

-- a playback that can go on has at most 32 threads
pub steady-few : (t : Playback) → Steady t → t.table.n ≤ 32
steady-few t steady = formed-few t.table steady.checked.formed

-- behind the table record nothing has come yet
pub reached-first : (head : List ℕ) → lawful true head ≡ true → make_refusal (thread_byte head) ≡ 0
    → Reached head [] false (opened (thread_byte head)) (replicate (8 * thread_byte head) 0) []
unfolding known opened tally_of started fresh
reached-first head rules made = record { lawfully = rules; made = made; behind = omega arith; paced = pace_fresh (started (thread_byte head)) }

-- a piece more is played, and what is left of it is kept
pub reached-more : (head input piece : List ℕ) (t to : Playback) (store after rest : List ℕ) (bad : Bool) → Reached head input false t store rest
    → PlayPromise t store (rest ++ piece) to after bad → Reached head (input ++ piece) bad to after (drop (to.place - t.place) (rest ++ piece))
unfolding known next_piece ahead
reached-more head input piece t to store after rest bad so_far played = record {
  lawfully = so_far.lawfully;
  made = so_far.made;
  behind = omega (arith, so_far.behind, played.takes);
  paced = subst (KeepsPace (started (thread_byte head)) (input ++ piece)) further (pace_next (started (thread_byte head)) input piece (known false t store rest) so_far.paced);
}
  where
    -- what was played of the piece
    q : Progress
    q = played_on (tally_of t store) (rest ++ piece)

    -- how many bytes of it
    took : q.taken ≡ to.place - t.place
    took = omega (arith, played.takes)

    -- is what the playback tells
    further : next_piece piece (known false t store rest) ≡ known bad to after (drop (to.place - t.place) (rest ++ piece))
    further i = record {
      progress = record {
        tally = (sym played.plays) i;
        taken = taken_is i;
        bad = (sym played.stops) i;
      };
      rest = drop (took i) (rest ++ piece);
    }
      where
        -- the byte position counts the table record too
        taken_is : t.place - 4 + q.taken ≡ to.place - 4
        taken_is = omega (arith, so_far.behind, played.takes)

-- where the input has ended, or an unlawful record stands behind, the text is settled by whether bytes are left
pub reached-text : (head input : List ℕ) (bad : Bool) (t : Playback) (store rest : List ℕ) → Reached head input bad t store rest
    → bondtrace (head ++ input) ≡ cond (is_empty rest) (final_text (tally_of t store)) (bad_line 12 t.place)
unfolding known end_text
reached-text head input bad t store rest r =
    pace_text head input (known bad t store rest) r.lawfully r.made r.paced
    ∙ ap (λ (k : ℕ). cond (is_empty rest) (final_text (tally_of t store)) (bad_line 12 k)) (omega (arith, r.behind))

-- short of an unlawful record, fewer bytes are kept than the longest record has
pub reached-short : (head input : List ℕ) (t : Playback) (store rest : List ℕ) → Reached head input false t store rest → length rest < longest_record
unfolding known
reached-short head input t store rest r =
    let same = r.paced.same in
    subst (λ (l : List ℕ). length l < longest_record) (sym (r.paced.kept refl ∙ ap (λ (q : Progress). drop q.taken input) same))
    (left-short (started (thread_byte head)) input (ap (λ (q : Progress). q.bad) (sym same)))
