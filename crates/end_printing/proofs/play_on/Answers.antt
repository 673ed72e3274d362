use Rattle.std.proofs.Common.{arith, refl, sym, ◌≡◌}
use Rattle.model.specs.Lists.{up_to}
use Rattle.model.specs.Bondtrace.{ascii}
use Rattle.played_text.proofs.Stores.{words-there, words-length}
use Rattle.end_printing.specs.Input.{too_long}
use Rattle.end_printing.proofs.Filling.{fills_first, playable, over, has_room, fills_on, nothing_read, given-up}
use Rattle.end_printing.proofs.play_on.Goals as goal

pub loop-supply-init : goal.loop-supply-init
loop-supply-init g c = record {
  fills = fills_first _ _ _ _ _ c.requires.steady c.requires.starts refl c.requires.buffer_len c.requires.end_bound c.requires.delivered_value;
  room = c.requires.out_len;
}

-- ---- what is in the buffer is played
pub slice_bounds-words-end : goal.slice_bounds-words-end
slice_bounds-words-end g c = let S = c.loop-supply.invariant.fills.stored in omega (arith, words-there S, S.array)

pub slice_bounds-play-end : goal.slice_bounds-play-end
slice_bounds-play-end g c = sym (words-length c.loop-supply.invariant.fills.stored)

pub play-played-requires : goal.play-played-requires
play-played-requires g c = playable c.loop-supply.invariant.fills (omega (arith, c.loop-supply-test.true))

-- ---- an unlawful record comes next
pub returns-then-played-clause-counts : goal.returns-then-played-clause-counts
returns-then-played-clause-counts g c =
    (over c.loop-supply.invariant.fills _ _ _ c.play-played.ensures.played c.play-played.ensures.carries _ _ _ _ refl c.loop-supply.invariant.room c.end_of.ensures.text).0

pub returns-then-played-clause-told : goal.returns-then-played-clause-told
returns-then-played-clause-told g c =
    rw c.end_of.ensures.counted
    (over c.loop-supply.invariant.fills _ _ _ c.play-played.ensures.played c.play-played.ensures.carries _ _ _ _ refl c.loop-supply.invariant.room c.end_of.ensures.text).1

-- ---- the buffer is filled again
pub supplied-requires-clause-start_in_bounds : goal.supplied-requires-clause-start_in_bounds
supplied-requires-clause-start_in_bounds g c =
    has_room c.loop-supply.invariant.fills _ _ _ c.play-played.ensures.played c.play-played.ensures.carries c.if-played.false _ refl

-- nothing was read
pub returns-then-supply-left-clause-counts : goal.returns-then-supply-left-clause-counts
returns-then-supply-left-clause-counts g c =
    (over c.loop-supply.invariant.fills _ _ _ c.play-played.ensures.played c.play-played.ensures.carries _ _ _ _ refl c.loop-supply.invariant.room c.end_of-then-supply-left.ensures.text).0

pub returns-then-supply-left-clause-told : goal.returns-then-supply-left-clause-told
returns-then-supply-left-clause-told g c =
    let none_more : c.loop-supply.supply.delivered ≡ c.in_ok-supply.supply.delivered = nothing_read _ _ _ _ c.in_ok-supply.ensures.counted c.if-supply-left.true in
    rw (c.end_of-then-supply-left.ensures.counted, ← none_more)
    (over c.loop-supply.invariant.fills _ _ _ c.play-played.ensures.played c.play-played.ensures.carries _ _ _ _ refl c.loop-supply.invariant.room c.end_of-then-supply-left.ensures.text).1

-- something was read
pub loop-supply-preserved : goal.loop-supply-preserved
loop-supply-preserved g c = record {
  fills =
      fills_on c.loop-supply.invariant.fills _ _ _ c.play-played.ensures.played c.play-played.ensures.carries c.if-played.false _ _ _ _ refl
      c.in_ok-supply.ensures.filled c.in_ok-supply.ensures.counted;
  room = c.loop-supply.invariant.room;
}

-- ---- the input is too long
pub returns-clause-told : goal.returns-clause-told
unfolding too_long ascii up_to
returns-clause-told g c = (given-up c.loop-supply.invariant.fills c.loop-supply-test.false _ _ _ c.loop-supply.invariant.room c.put_too_long-length.ensures).1
