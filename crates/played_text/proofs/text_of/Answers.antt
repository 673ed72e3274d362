use Rattle.std.proofs.Common.{sym, refl, rules}
use Rattle.played_text.proofs.Refusing.{all_of_them}
use Rattle.played_text.proofs.Stores.{words-there, words-length}
use Rattle.played_text.proofs.Whole.{opening_begins, playable, place-within, whole-written}
use Rattle.played_text.proofs.text_of.Goals as goal

-- the table record is refused
pub returns-in-Err : goal.returns-in-Err
returns-in-Err c = all_of_them _ c.refused_text.ensures

-- it is not: all that stands behind it is played
pub slice_bounds-words-end : goal.slice_bounds-words-end
slice_bounds-words-end c = let e = c.in-Ok.ensures in words-there (opening_begins _ _ e.number e.playback e.steady).1

pub slice_bounds-play-end : goal.slice_bounds-play-end
slice_bounds-play-end c = let e = c.in-Ok.ensures in sym (words-length (opening_begins _ _ e.number e.playback e.steady).1)

pub play-played-requires : goal.play-played-requires
play-played-requires c =
    let e = c.in-Ok.ensures in
    let (starts, stored) = opening_begins _ _ e.number e.playback e.steady in
    playable starts stored (search rules)

pub overflow_sub-left : goal.overflow_sub-left
overflow_sub-left c =
    let e = c.in-Ok.ensures in
    let (starts, stored) = opening_begins _ _ e.number e.playback e.steady in
    place-within starts stored _ _ _ c.play-played.ensures.played c.play-played.ensures.carries

pub returns : goal.returns
returns c =
    let e = c.in-Ok.ensures in
    let (starts, stored) = opening_begins _ _ e.number e.playback e.steady in
    whole-written starts stored _ _ _ c.play-played.ensures.played c.play-played.ensures.carries _ _ _ _ refl c.end_text.ensures
