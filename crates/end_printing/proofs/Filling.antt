-- The loop that fills the buffer: what holds each time.
use mathlib.Core.Path.{◌≡◌, refl, sym, ap, ◌∙◌, subst}
use mathlib.Core.Logic.{◌≢◌, inl, inr}
use mathlib.Core.Bool.{Bool, false}
use mathlib.Core.List.{List, [], ◌++◌, append-nil, append_assoc}
use Prim.Native.Nat.{ℕ, ◌+◌, ◌-◌, ◌*◌, ◌≤◌, ◌<◌}
use native.Mathlib.Omega.{arith}
use lib.ListN.{length, take, drop, length-append, length-drop, take-append-drop}
use lib.Seq.{length-take-le, take-take, drop-drop}
use Rattle.model.specs.Lists.{up_to}
use Rattle.model.specs.Bondtrace.{ascii, bondtrace}
use Rattle.laws.proofs.Joined.{drop_of_take}
use Rattle.text.specs.Writing.{Counts, Written, Printed}
use Rattle.text.proofs.Writing.{printed, printed-whole}
use Rattle.refill.specs.Refilled.{Refilled}
use Rattle.opening.specs.declared.Playback.{Playback}
use Rattle.opening.specs.Opened.{Steady}
use Rattle.playing.specs.Playback.{Playable, PlayPromise, Carries}
use Rattle.played_text.specs.Known.{Reached, Starts, Settled, longest_end}
use Rattle.played_text.proofs.Known.{reached-more, reached-short}
use Rattle.played_text.proofs.Stores.{Stored, zeros, stored-first, words-length, zeros-taken, array, stored_on, array_starts}
use Rattle.end_printing.specs.Input.{most_bytes, too_long, Told}

-- the bytes of a buffer from start to end
abbrev pub between : ℕ → ℕ → List ℕ → List ℕ
between start end buffer = take (end - start) (drop start buffer)

-- what is left behind the first k of them is what is moved down
left-between : (start end k left : ℕ) (buffer : List ℕ) → end - (start + k) ≡ left → take left (drop (start + k) buffer) ≡ drop k (between start end buffer)
left-between start end k left buffer e =
    let same : end - start - k ≡ left = omega (arith, e) in
    sym (drop_of_take k (end - start) (drop start buffer)
    ∙ ap (λ (l : List ℕ). take (end - start - k) l) (drop-drop k start buffer)
    ∙ ap (λ (n : ℕ). take n (drop (start + k) buffer)) same)

-- these bytes are still to be played: what was kept, and a new piece behind it, the last of an input that starts with the first bytes and has as many as were delivered
pub record Along (first : List ℕ) (t : Playback) (store bytes : List ℕ) (delivered : ℕ) : Type 0 where
  pub head : List ℕ
  pub input : List ℕ
  pub rest : List ℕ
  pub piece : List ℕ
  pub more : List ℕ
  pub reached : Reached head input false t store rest
  pub there : bytes ≡ rest ++ piece
  pub whole : head ++ (input ++ piece) ≡ first ++ more
  pub counted : length (first ++ more) ≡ delivered

-- the playback can go on, its words are the first `size` of an array, the bytes from start to end come next in its input, and each byte that was delivered was played or is one of them
pub record Fills (first buffer words : List ℕ) (size : ℕ) (t : Playback) (start end delivered : ℕ) : Type 0 where
  pub stored : Stored t size words
  pub along : Along first t (take size words) (between start end buffer) delivered
  pub long : length buffer ≡ 65536
  pub ordered : start ≤ end
  pub filled : end ≤ 65536
  pub every : t.place + (end - start) ≡ delivered

-- it is so at first
pub fills_first : (buffer : List ℕ) (size : ℕ) (t : Playback) (end delivered : ℕ) → Steady t → Starts t (take end buffer) → size ≡ 8 * t.table.n → length buffer ≡ 65536
    → end ≤ 65536 → delivered ≡ end → Fills (take end buffer) buffer (zeros 256) size t 4 end delivered
fills_first buffer size t end delivered steady starts sized long filled first = record {
  stored = S;
  along = record {
    head = take 4 (take end buffer);
    input = [];
    rest = [];
    piece = between 4 end buffer;
    more = [];
    reached = rw (zeros-taken t size S) starts.reached;
    there = refl;
    whole = ap (λ (l : List ℕ). take 4 (take end buffer) ++ l) (sym (drop_of_take 4 end buffer)) ∙ take-append-drop 4 (take end buffer) ∙ sym (append-nil (take end buffer));
    counted = ap (λ (l : List ℕ). length l) (append-nil (take end buffer)) ∙ taken ∙ sym first;
  };
  long = long;
  ordered = omega (arith, starts.four, taken);
  filled = filled;
  every = omega (arith, starts.place, starts.four, taken, first);
}
  where
    S : Stored t size (zeros 256)
    S = stored-first t size steady sized

    -- the first bytes are in the buffer
    taken : length (take end buffer) ≡ end
    taken = length-take-le end buffer (omega arith)

module _ {first buffer words : List ℕ} {size : ℕ} {t : Playback} {start end delivered : ℕ} (F : Fills first buffer words size t start end delivered) where
  -- the bytes that come next are in the buffer
  piece-there : length (between start end buffer) ≡ end - start
  piece-there = length-take-le (end - start) (drop start buffer) (omega (arith, length-drop start buffer, F.long, F.filled, F.ordered))

  -- and can be played
  pub playable : delivered < 18446744073709551616 → Playable t (take size words) (length (between start end buffer))
  playable few = record { steady = F.stored.steady; words = words-length F.stored ∙ F.stored.sized; room = omega (arith, F.every, piece-there) }

  -- ---- they are played
  module _ (to : Playback) (store : List ℕ) (bad : Bool) (played : PlayPromise t (take size words) (between start end buffer) to store bad)
      (carries : Carries t (length (between start end buffer)) to store) where
    -- how many bytes were played
    abbrev took : ℕ
    took = to.place - t.place

    -- the words are still the first of an array
    pub stored-after : Stored to size (array F.stored to store _ carries)
    stored-after = stored_on F.stored to store _ carries

    -- what the input has come to
    reached : Reached F.along.head (F.along.input ++ F.along.piece) bad to (take size (array F.stored to store _ carries)) (drop took (between start end buffer))
    reached = rw (array_starts F.stored to store _ carries, F.along.there)
        (reached-more F.along.head F.along.input F.along.piece t to (take size words) store F.along.rest bad F.along.reached (subst (λ (l : List ℕ). PlayPromise t (take size words) l to store bad) F.along.there played))

    -- each byte was played or is left
    pub left_over : (left : ℕ) → left ≡ end - (start + took) → to.place + left ≡ delivered
    left_over left is = omega (arith, F.every, F.ordered, carries.onward, carries.within, piece-there, is)

    -- nothing more is played: the text that ends it is that of the whole input
    pub over : (left stop : ℕ) (before after : List ℕ) → left ≡ end - (start + took) → length before ≡ 4096
        → ((head input rest : List ℕ) (bad : Bool) → Reached head input bad to (take size (array F.stored to store _ carries)) rest → length rest ≡ left → Printed (bondtrace (head ++ input)) longest_end before after stop)
        → Counts stop after × Told first delivered (take stop after)
    over left stop before after is room ends =
        let long : length (drop took (between start end buffer)) ≡ left = length-drop took (between start end buffer) ∙ omega (arith, piece-there, is) in
        let printed = ends F.along.head (F.along.input ++ F.along.piece) _ bad reached long in
        (printed.counts, record { more = F.along.more; counted = F.along.counted; told = inl (printed-whole printed (omega arith) ∙ ap bondtrace F.along.whole) })

    -- short of an unlawful record
    reached_fine : bad ≡ false → Reached F.along.head (F.along.input ++ F.along.piece) false to (take size (array F.stored to store _ carries)) (drop took (between start end buffer))
    reached_fine fine = subst (λ (b : Bool). Reached F.along.head (F.along.input ++ F.along.piece) b to (take size (array F.stored to store _ carries)) (drop took (between start end buffer))) fine reached

    -- there is room for more
    pub has_room : bad ≡ false → (left : ℕ) → left ≡ end - (start + took) → left < length buffer
    has_room fine left is =
        let kept = reached-short F.along.head (F.along.input ++ F.along.piece) to (take size (array F.stored to store _ carries)) (drop took (between start end buffer)) (reached_fine fine) in
        omega (arith, kept, length-drop took (between start end buffer), piece-there, is, F.long)

    -- more is played, with the buffer filled again
    pub fills_on : bad ≡ false → (after : List ℕ) (filled left counted : ℕ) → left ≡ end - (start + took) → Refilled (start + took) end buffer after filled
        → counted + left ≡ delivered + filled → Fills first after (array F.stored to store _ carries) size to 0 filled counted
    fills_on fine after filled left counted is again sum = record {
      stored = stored-after;
      along = record {
        head = F.along.head;
        input = F.along.input ++ F.along.piece;
        rest = drop took (between start end buffer);
        piece = new;
        more = F.along.more ++ new;
        reached = reached_fine fine;
        there = there;
        whole = sym (append_assoc F.along.head (F.along.input ++ F.along.piece) new) ∙ ap (λ (l : List ℕ). l ++ new) F.along.whole ∙ append_assoc first F.along.more new;
        counted = ap (λ (l : List ℕ). length l) (sym (append_assoc first F.along.more new)) ∙ length-append (first ++ F.along.more) new
            ∙ omega (arith, F.along.counted, length-drop left (take filled after), length-take-le filled after again.counts.0, sum);
      };
      long = again.long ∙ F.long;
      ordered = omega arith;
      filled = omega (arith, again.counts.0, again.long, F.long);
      every = omega (arith, left_over left is, sum, again.more, is);
    }
      where
        -- what was read
        new : List ℕ
        new = drop left (take filled after)

        -- what was left stands at the front
        front_kept : take left (take filled after) ≡ drop took (between start end buffer)
        front_kept =
            take-take left filled after (omega (arith, again.more, is))
            ∙ ap (λ (k : ℕ). take k after) is ∙ again.front ∙ ap (λ (k : ℕ). take k (drop (start + took) buffer)) (sym is)
            ∙ left-between start end took left buffer (sym is)

        -- and what was read behind it
        there : between 0 filled after ≡ drop took (between start end buffer) ++ new
        there = let all : filled - 0 ≡ filled = omega arith in ap (λ (k : ℕ). take k after) all ∙ sym (take-append-drop left (take filled after)) ∙ ap (λ (l : List ℕ). l ++ new) front_kept

-- ---- what the reads gave, by their counts
module _ (delivered counted left end : ℕ) (sum : counted + left ≡ delivered + end) where
  -- nothing
  pub nothing_read : end ≡ left → delivered ≡ counted
  nothing_read e = omega arith

  -- something, so fewer bytes are left to deliver
  pub more-read : end ≢ left → left ≤ end → delivered < most_bytes → most_bytes - counted < most_bytes - delivered
  more-read d least few = omega arith

-- an input that is too long: that is said
pub given-up : {first buffer words : List ℕ} {size : ℕ} {t : Playback} {start end delivered : ℕ} → Fills first buffer words size t start end delivered → most_bytes ≤ delivered
    → (before after : List ℕ) (stop : ℕ) → length before ≡ 4096 → Written 0 too_long before after stop → Counts stop after × Told first delivered (take stop after)
unfolding too_long ascii up_to
given-up F many before after stop room written =
    let said = printed {most = 15} written (omega arith) in
    (said.counts, record { more = F.along.more; counted = F.along.counted; told = inr (printed-whole said (omega arith), many) })

-- a table record that is refused: the text is settled, and nothing more is read
pub refused-told : {bytes before after : List ℕ} {stop delivered : ℕ} → length bytes ≡ delivered → length before ≡ 4096
    → ((more : List ℕ) → Settled bytes more → Printed (bondtrace (bytes ++ more)) longest_end before after stop) → Counts stop after × Told bytes delivered (take stop after)
refused-told {bytes} counted room told =
    let printed = told [] (inr refl) in
    (printed.counts, record { more = []; counted = ap (λ (l : List ℕ). length l) (append-nil bytes) ∙ counted; told = inl (printed-whole printed (omega arith)) })

-- ---- counted by the first bytes and what came later
module _ (first text : List ℕ) (delivered at_first : ℕ) (all : length first ≡ at_first) (T : Told first delivered text) where
  -- no fewer were delivered
  pub told-least : at_first ≤ delivered
  told-least = omega (arith, T.counted, length-append first T.more)

  -- the sum is what was delivered
  sum : at_first + (delivered - at_first) ≡ delivered
  sum = omega (arith, told-least)

  -- it has room, and is the input's length
  pub told-later : delivered < 18446744073709551616 → (at_first + (delivered - at_first) < 18446744073709551616) × Told first (at_first + (delivered - at_first)) text
  told-later fits = rw sum (fits, T)

-- an input that starts with some bytes is an input, and its text is written from the front on
pub some-input : (first out : List ℕ) (stop delivered : ℕ) → Told first delivered (take stop out) → Told [] delivered (between 0 stop out)
some-input first out stop delivered T =
    let all : stop - 0 ≡ stop = omega arith in rw all (record { more = first ++ T.more; counted = T.counted; told = T.told })
