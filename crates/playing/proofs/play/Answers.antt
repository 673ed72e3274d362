use Rattle.std.proofs.Common.{◌≡◌, ℕ, ◌+◌, true, sym, refl, ap, ◌∙◌, arith}
use Rattle.model.specs.RecordBytes.{lawful}
use Rattle.model.specs.Decoding.{front}
use Rattle.opening.specs.declared.Playback.{Playback}
use Rattle.playing.proofs.Turns.{goes_first, goes_last, goes_further, goes-refused, goes-accepted, head-there, record_within, records-fit, refused-fit, fewer-left, ready-there}
use Rattle.playing.proofs.play.Goals as goal
use Rattle.playing.proofs.play.Goals.{then-not-play_record, else-not-play_record}

pub loop-record-init : goal.loop-record-init
loop-record-init c = record { goes = goes_first _ _ _ c.requires; place = refl }

-- ---- a turn
pub play_record-requires : goal.play_record-requires
play_record-requires c = ready-there c.loop-record.invariant.goes (sym c.is_lawful.ensures ∙ c.loop-record-test.true)

pub overflow_add-now : goal.overflow_add-now
overflow_add-now c = record { fits = refused-fit c.loop-record.invariant.goes (sym c.is_lawful.ensures ∙ c.loop-record-test.true) }

pub overflow_add-now-in-loop-record : goal.overflow_add-now-in-loop-record
overflow_add-now-in-loop-record c =
    let fits = records-fit c.loop-record.invariant.goes (sym c.is_lawful.ensures ∙ c.loop-record-test.true) in
    elim c.if-not-play_record.branch [
      | then-not-play_record w ↦ record { fits = omega (arith, fits, ap (λ (p : Playback). p.records) w.now-is) }
      | else-not-play_record w ↦ record { fits = omega (arith, fits, ap (λ (p : Playback). p.records) w.now-is) }
    ]

pub bounds-record-2 : goal.bounds-record-2
bounds-record-2 c = omega (arith, head-there c.loop-record.invariant.goes (sym c.is_lawful.ensures ∙ c.loop-record-test.true))

pub overflow_add-at : goal.overflow_add-at
overflow_add-at c =
    let so_far = c.loop-record.invariant.goes in
    record { fits = omega (arith, record_within so_far (sym c.is_lawful.ensures ∙ c.loop-record-test.true), c.record_length-at.ensures, so_far.room) }

pub loop-record-smaller : goal.loop-record-smaller
loop-record-smaller c = fewer-left c.loop-record.invariant.goes (sym c.is_lawful.ensures ∙ c.loop-record-test.true) _ (ap (λ (k : ℕ). c.loop-record.at + k) c.record_length-at.ensures)

pub loop-record-preserved : goal.loop-record-preserved
loop-record-preserved c =
    let so_far = c.loop-record.invariant in
    let good = sym c.is_lawful.ensures ∙ c.loop-record-test.true in
    let passes = ap (λ (k : ℕ). c.loop-record.at + k) c.record_length-at.ensures in
    elim c.if-not-play_record.branch [
      | then-not-play_record w ↦ record {
        goes = goes-refused so_far.goes good _ passes c.play_record.ensures c.if-not-play_record.now (ap (λ (p : Playback). p.table) w.now-is) (ap (λ (p : Playback). p.records) w.now-is) w.if-not-play_record.true (ap (λ (p : Playback). p.refused) w.now-is);
        place = ap (λ (p : Playback). p.place) w.now-is ∙ so_far.place;
      }
      | else-not-play_record w ↦ record {
        goes = goes-accepted so_far.goes good _ passes c.play_record.ensures c.if-not-play_record.now (ap (λ (p : Playback). p.table) w.now-is) (ap (λ (p : Playback). p.records) w.now-is) w.if-not-play_record.false (ap (λ (p : Playback). p.refused) w.now-is);
        place = ap (λ (p : Playback). p.place) w.now-is ∙ so_far.place;
      }
    ]

-- ---- the end
pub overflow_add-now-2 : goal.overflow_add-now-2
overflow_add-now-2 c = record { fits = omega (arith, c.loop-record.invariant.goes.within, c.loop-record.invariant.place, c.requires.room) }

pub returns : goal.returns
returns c =
    let so_far = c.loop-record.invariant in
    let there = ap (λ (k : ℕ). k + c.loop-record.at) so_far.place in
    record {
      played = goes_last so_far.goes (sym c.is_lawful.ensures ∙ c.loop-record-test.false) _ there _ c.is_whole.ensures;
      carries = goes_further so_far.goes c.requires refl _ there;
    }
