-- The loop that plays a schedule on: what holds at each turn, and that each way through a turn keeps it.
use Rattle.std.proofs.Common.{◌≡◌, ℕ, zero, suc, ◌+◌, ◌-◌, ◌<◌, ◌≤◌, Bool, true, false, cond, eqb, ne_eqb, List, length, take, drop, sym, refl, ap, ◌∙◌, subst, arith, length-drop, length-take-le, take_all}
use native.Mathlib.Nat.{add-zero}
use Rattle.model.specs.declared.Record.{Record}
use Rattle.model.specs.declared.Rules.{Rules}
use Rattle.model.specs.declared.Table.{Table}
use Rattle.model.specs.Calls.{Call, State}
use Rattle.model.specs.Refusals.{refusal, unless}
use Rattle.model.specs.Promise.{state}
use Rattle.model.specs.RecordBytes.{is_begin, step_kind, cancel_kind, kind_byte, record_length, lawful}
use Rattle.model.specs.Decoding.{front, record_of}
use Rattle.model.specs.Bondtrace.{call_of, Tally, tally, record_played}
use Rattle.model.proofs.Laws.{by}
use Rattle.model.proofs.Tested.{formed-few}
use Rattle.laws.proofs.Calls.{rules_after}
use Rattle.laws.proofs.Schedule.{record_head, lawful-long, lawful-head-long}
use Rattle.pieces.specs.Playing.{Progress, played_on, whole_record}
use Rattle.pieces.proofs.Playing.{PlayedTo, played-to-none, played-to-more, played-to-end}
use Rattle.unchecked.specs.Runnable.{Runnable}
use Rattle.invariant.proofs.Frames.{next-size, next-rules}
use Rattle.unchecked.proofs.Kept.{next-runnable}
use Rattle.opening.specs.declared.Playback.{Playback}
use Rattle.playing.specs.Record.{Ready, Plays}
use Rattle.playing.specs.Playback.{tally_of, Playable, PlayPromise, Carries}

-- the bytes from a place on, as the code has them
abbrev pub from_place : List ℕ → ℕ → List ℕ
from_place bytes at = take (length bytes - at) (drop at bytes)

-- they are what is left
pub left_there : (bytes : List ℕ) (at : ℕ) → from_place bytes at ≡ drop at bytes
left_there bytes at = take_all (length bytes - at) (drop at bytes) (omega (arith, length-drop at bytes))

-- ---- one record played, by what is told of it
-- it is counted as refused unless it is accepted
counts-refused : (g : ℕ) (accepted : Bool) → accepted ≡ eqb g 0 → ◌≡◌ {A = ℕ} (unless g (λ k. 1) 0) (cond accepted 0 1)
unfolding unless
counts-refused zero accepted e = rw e refl
counts-refused (suc g) accepted e = rw (e ∙ ne_eqb (suc g) 0 (λ z. omega arith)) refl

record-told : (bytes : List ℕ) (p : Tally) (accepted : Bool) (after : State) → Plays bytes p.now accepted after
    → record_played (record_of (front bytes)) p ≡ record { now = after; records = p.records + 1; refused = p.refused + cond accepted 0 1 }
unfolding record_played
record-told bytes p accepted after P =
    ap (λ (s : State). record { now = s; records = p.records + 1; refused = p.refused + unless (refusal (call_of (record_of (front bytes))) p.now) (λ g. 1) 0 }) (sym P.leaves)
    ∙ ap (λ (k : ℕ). record { now = after; records = p.records + 1; refused = p.refused + k }) (counts-refused (refusal (call_of (record_of (front bytes))) p.now) accepted P.tells)

-- no record loads rules
record_loads_none : (item : Record) (rules : Rules) → rules_after (call_of item) rules ≡ rules
unfolding call_of
record_loads_none item rules = by (is_begin item.kind)
    (λ e. rw e refl)
    (λ e. rw e (by (eqb item.kind step_kind)
    (λ i. rw i refl)
    (λ i. rw i (by (eqb item.kind cancel_kind) (λ j. rw j refl) (λ j. rw j refl)))))

-- ---- playing past one record
module _ (start p q : Tally) (bytes rest : List ℕ) (at to : ℕ) (is : rest ≡ drop at bytes) (good : lawful false (front rest) ≡ true) (passes : to ≡ at + record_length (kind_byte rest)) where
  -- the record takes its whole length
  takes : at + length (front rest) ≡ to
  unfolding front
  takes = ap (λ (k : ℕ). at + k) (length-take-le (record_length (kind_byte rest)) rest (lawful-long rest false good)) ∙ sym passes

  -- what was played up to it with p is played past it with q
  past_record : record_played (record_of (front rest)) p ≡ q → PlayedTo start bytes at p → PlayedTo start bytes to q
  past_record plays so_far =
      subst (λ (t : Tally). PlayedTo start bytes to t) (ap (λ (l : List ℕ). record_played (record_of (front l)) p) (sym is) ∙ plays)
      (subst (λ (k : ℕ). PlayedTo start bytes k (record_played (record_of (front (drop at bytes))) p)) (ap (λ (l : List ℕ). at + length (front l)) (sym is) ∙ takes)
      (played-to-more start bytes at p so_far (subst (λ (l : List ℕ). lawful false (front l) ≡ true) is good)))

-- ---- what holds at each turn
pub record Goes (from : Playback) (store₀ bytes : List ℕ) (n : ℕ) (store : List ℕ) (now : Table) (records refused at : ℕ) : Type 0 where
  -- not all bytes are passed
  pub within : at ≤ length bytes
  -- calls may run
  pub runnable : Runnable (state now store)
  -- whoever sends to whom
  pub unruled : now.rules.len ≡ 0
  -- on as many threads as before
  pub size : now.n ≡ n
  -- the records up to this place are played
  pub same : PlayedTo (tally_of from store₀) bytes at (tally now store records refused)
  -- and the counts have room
  pub fewer : refused ≤ records
  pub counted : records ≤ from.records + at
  pub room : from.records + length bytes < 18446744073709551616

-- it holds at first
pub goes_first : (from : Playback) (store bytes : List ℕ) → Playable from store (length bytes) → Goes from store bytes from.table.n store from.table from.records from.refused 0
unfolding tally_of
goes_first from store bytes ready = record {
  within = omega arith;
  runnable = record { checked = ready.steady.checked; words = ready.words };
  unruled = ready.steady.unruled;
  size = refl;
  same = played-to-none (tally_of from store) bytes;
  fewer = ready.steady.fewer;
  counted = omega arith;
  room = omega (arith, ready.steady.counted, ready.room);
}

module _ {from : Playback} {store₀ bytes : List ℕ} {n : ℕ} {store : List ℕ} {now : Table} {records refused at : ℕ} (G : Goes from store₀ bytes n store now records refused at) where
  -- there are at most 32 threads
  pub few-threads : n ≤ 32
  few-threads = omega (arith, G.size, formed-few now G.runnable.checked.formed)

  -- ---- a turn, with a lawful record at the front
  module _ (good : lawful false (front (from_place bytes at)) ≡ true) where
    -- the bytes of the turn
    abbrev rest : List ℕ
    rest = from_place bytes at

    -- the record has its head
    pub head-there : 4 ≤ length rest
    head-there = lawful-head-long rest false good

    -- and is whole
    pub record_within : at + record_length (kind_byte rest) ≤ length bytes
    record_within = omega (arith, G.within, lawful-long rest false good, ap (λ (l : List ℕ). length l) (left_there bytes at), length-drop at bytes)

    -- one record more can be counted
    pub records-fit : records + 1 < 18446744073709551616
    records-fit = omega (arith, record_within, record_head (kind_byte rest), G.counted, G.room)

    -- its call may be made
    pub ready-there : Ready (state now store) rest
    ready-there = record { runnable = G.runnable; unruled = G.unruled; lawful = good }

    -- and one refused call more
    pub refused-fit : refused + 1 < 18446744073709551616
    refused-fit = omega (arith, records-fit, G.fewer)

    module _ (to : ℕ) (passes : to ≡ at + record_length (kind_byte rest)) where
      -- fewer bytes are left
      pub fewer-left : length bytes - to < length bytes - at
      fewer-left = omega (arith, record_within, record_head (kind_byte rest), passes)

      -- playing goes on from what the record leaves
      pub goes_on : (after : Table) (words : List ℕ) (accepted : Bool) → Plays rest (state now store) accepted (state after words) → Goes from store₀ bytes n words after (records + 1) (refused + cond accepted 0 1) to
      goes_on after words accepted plays = record {
        within = omega (arith, record_within);
        runnable = subst Runnable (sym plays.leaves) (next-runnable c (state now store) G.runnable);
        unruled = ap (λ (r : Rules). r.len) ruled ∙ G.unruled;
        size = ap (λ (s : State). s.table.n) plays.leaves ∙ next-size c (state now store) ∙ G.size;
        same = past_record (tally_of from store₀) (tally now store records refused) (tally after words (records + 1) (refused + cond accepted 0 1)) bytes rest at to (left_there bytes at) good passes
            (record-told rest (tally now store records refused) accepted (state after words) plays) G.same;
        fewer = by accepted (λ e. rw e (omega (arith, G.fewer))) (λ e. rw e (omega (arith, G.fewer)));
        counted = omega (arith, G.counted, record_head (kind_byte rest));
        room = G.room;
      }
        where
          c : Call
          c = call_of (record_of (front rest))

          ruled : after.rules ≡ now.rules
          ruled = ap (λ (s : State). s.table.rules) plays.leaves ∙ next-rules c (state now store) (record_loads_none (record_of (front rest)) now.rules)

      -- as the code has it: a playback with the table and the counts
      module _ {after : Table} {words : List ℕ} {accepted : Bool} (plays : Plays rest (state now store) accepted (state after words)) (to_here : Playback) (tables : to_here.table ≡ after) (reads : to_here.records ≡ records) where
        pub goes-refused : accepted ≡ false → to_here.refused ≡ refused + 1 → Goes from store₀ bytes n words to_here.table (to_here.records + 1) to_here.refused to
        goes-refused told counts = rw (tables, reads, counts) (rw told at (goes_on after words accepted plays))

        pub goes-accepted : accepted ≡ true → to_here.refused ≡ refused → Goes from store₀ bytes n words to_here.table (to_here.records + 1) to_here.refused to
        goes-accepted told counts = rw (tables, reads, counts) (rw (told, add-zero) at (goes_on after words accepted plays))

  -- ---- the end, where no lawful record stands at the front
  pub goes_last : lawful false (front (from_place bytes at)) ≡ false → (place : ℕ) → place ≡ from.place + at → (bad : Bool) → bad ≡ whole_record (from_place bytes at)
      → PlayPromise from store₀ bytes (record { table = now; records = records; refused = refused; place = place }) store bad
  unfolding tally_of
  goes_last none_left place there bad tells =
      let ends : played_on (tally_of from store₀) bytes ≡ record { tally = tally now store records refused; taken = at; bad = whole_record (drop at bytes) } =
      played-to-end (tally_of from store₀) bytes at (tally now store records refused) G.same (subst (λ (l : List ℕ). lawful false (front l) ≡ false) (left_there bytes at) none_left) in
      record {
        plays = ap (λ (q : Progress). q.tally) (sym ends);
        takes = there ∙ ap (λ (q : Progress). from.place + q.taken) (sym ends);
        stops = tells ∙ ap whole_record (left_there bytes at) ∙ ap (λ (q : Progress). q.bad) (sym ends);
      }

  -- and the playback can go on
  pub goes_further : Playable from store₀ (length bytes) → n ≡ from.table.n → (place : ℕ) → place ≡ from.place + at → Carries from (length bytes) (record { table = now; records = records; refused = refused; place = place }) store
  goes_further was sized place there = record {
    steady = record { checked = G.runnable.checked; unruled = G.unruled; fewer = G.fewer; counted = omega (arith, G.counted, was.steady.counted, there) };
    words = G.runnable.words;
    onward = omega (arith, there);
    within = omega (arith, there, G.within);
    size = G.size ∙ sized;
  }
