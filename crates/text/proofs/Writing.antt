-- Laws of writing: nothing, one byte, one text behind another; and of a text that is printed.
use Rattle.std.proofs.Common.{◌≡◌, refl, ap, sym, ◌∙◌, ℕ, suc, ◌+◌, ◌-◌, ◌≤◌, ◌<◌, leb, min, List, [], ◌∷◌, ◌++◌, length, take, drop, slice_set, arith, MutBor}
use Rattle.std.proofs.lemmas.List.{take_more}
use Rattle.std.proofs.lemmas.List.Edits.{sets, sets-eq}
use Rattle.std.proofs.Math.ListN.{set, length-append}
use Rattle.std.proofs.Math.Seq.{length-sets, set_out, length-take-le, take-append_seam}
use borrow.Author.Tests.{leb-true, leb-false}
use mir.Facts.{to_z-of_z}
use Rattle.model.proofs.Laws.{by}
use Rattle.text.specs.declared.Text.{Text}
use Rattle.text.specs.Writing.{Counts, written, Written, Printed}

-- ---- stores
-- past the end nothing is stored
sets_out : (text l : List ℕ) (i : ℕ) → length l ≤ i → sets l i text ≡ l
sets_out [] l i h = refl
sets_out (a ∷ text) l i h = let k : set l i a ≡ l = set_out l i a h in rw k (sets_out text l (suc i) (omega arith))

-- the stores of two texts are those of the one behind the other
sets_joined : (a b l : List ℕ) (i : ℕ) → sets l i (a ++ b) ≡ sets (sets l i a) (i + length a) b
sets_joined [] b l i = let k : i + 0 ≡ i = omega arith in rw k refl
sets_joined (x ∷ a) b l i = let k : i + suc (length a) ≡ suc i + length a = omega arith in rw k (sets_joined a b (set l i x) (suc i))

-- so they are where the first is cut off at the end
sets_cut : (a b l : List ℕ) (i : ℕ) → sets (sets l i a) (i + min (length a) (length l - i)) b ≡ sets l i (a ++ b)
sets_cut a b l i = by (leb (i + length a) (length l))
    (λ e. let h = leb-true (i + length a) (length l) e in
    let all : i + min (length a) (length l - i) ≡ i + length a = omega arith in
    rw all (sym (sets_joined a b l i)))
    (λ e. let h = leb-false (i + length a) (length l) e in
    let long = length-sets l i a in
    sets_out b (sets l i a) (i + min (length a) (length l - i)) (omega arith) ∙ sym (sets_out b (sets l i a) (i + length a) (omega arith)) ∙ sym (sets_joined a b l i))

-- ---- writing
-- nothing is written
pub written_none : (t : Text) → written [] t ≡ t
unfolding written
written_none t =
    let stays : t.len + min 0 (length t.out.now - t.len) ≡ t.len = omega arith in
    let P : ℕ → Text = λ n. record t { len = n } in
    ap P stays

-- a byte that has room is
pub written_byte : (t : Text) (byte : ℕ) → t.len < length t.out.now → written (byte ∷ []) t ≡ record { out = record t.out { now = slice_set t.out.now t.len byte }; len = t.len + 1 }
unfolding written
written_byte t byte room = let more : t.len + min 1 (length t.out.now - t.len) ≡ t.len + 1 = omega arith in rw more refl

-- one that has none is not
pub written_full : (t : Text) (byte : ℕ) → length t.out.now ≤ t.len → written (byte ∷ []) t ≡ t
unfolding written
written_full t byte full = let stays : t.len + min 1 (length t.out.now - t.len) ≡ t.len = omega arith in rw (stays, set_out t.out.now t.len byte full) refl

-- two texts that are written one behind the other are one
pub written_joined : (a b : List ℕ) (t : Text) → written b (written a t) ≡ written (a ++ b) t
unfolding written
written_joined a b t =
    let n = min (length a) (length t.out.now - t.len) in
    let long : length (sets t.out.now t.len a) ≡ length t.out.now = length-sets t.out.now t.len a in
    let place : t.len + n + min (length b) (length (sets t.out.now t.len a) - (t.len + n)) ≡ t.len + min (length (a ++ b)) (length t.out.now - t.len) = omega (arith, length-append a b, long) in
    rw (place, sets_cut a b t.out.now t.len) refl

-- a text is its first part and then the rest
pub written_append : (a b : List ℕ) (t : Text) → written (a ++ b) t ≡ written b (written a t)
written_append a b t = sym (written_joined a b t)

-- ---- what is behind the reference
-- the caller's bytes are the same ones
pub written_name : (text : List ℕ) (t : Text) → (written text t).out.ghost_name ≡ t.out.ghost_name
unfolding written
written_name text t = refl

-- what they hold
pub written_now : (text : List ℕ) (t : Text) → (written text t).out.now ≡ sets t.out.now t.len text
unfolding written
written_now text t = refl

-- how many are written
pub written_len : (text : List ℕ) (t : Text) → (written text t).len ≡ t.len + min (length text) (length t.out.now - t.len)
unfolding written
written_len text t = refl

-- a text over a caller's bytes from a place on, when it is let go: what it says of those bytes
pub written_front : {start stop : ℕ} {text after : List ℕ} {out : MutBor (List ℕ)} {begun : Text} (ended : Text) → stop ≡ ended.len → begun ≡ record { out = out; len = start }
    → (out.ghost_name ≡ ended.out.ghost_name → after ≡ ended.out.now) → ended ≡ written text begun → Written start text out.now after stop
written_front {text = text} {begun = begun} ended stops begins holds all = record {
  bytes = holds (sym (rw all (rw begins (written_name text _)))) ∙ rw all (rw begins (written_now text _));
  place = stops ∙ rw all (rw begins (written_len text _));
}

-- what a function that writes texts one behind the other needs
pub ruleset writing = (written_append, written_name, written_now, written_len, to_z-of_z)

-- and one that stores the bytes
pub ruleset storing = (written_none, written_byte, written_full, written_joined, take_more)

-- ---- a text that is printed
-- writing changes no length
pub written-length : {start : ℕ} {text before after : List ℕ} {stop : ℕ} → Written start text before after stop → length after ≡ length before
written-length {start} {text} {before} w = ap length w.bytes ∙ length-sets before start text

-- two texts that are written one behind the other are one
infixl 65 ◌then◌
pub ◌then◌ : {start middle stop : ℕ} {a b before between after : List ℕ} → Written start a before between middle → Written middle b between after stop → Written start (a ++ b) before after stop
◌then◌ {start} {middle} {stop} {a} {b} {before} {between} {after} v w = record {
  bytes = w.bytes ∙ ap (λ (l : List ℕ). sets l middle b) v.bytes ∙ ap (λ (k : ℕ). sets (sets before start a) k b) v.place ∙ sets_cut a b before start;
  place = omega (arith, length-append a b, written-length v, v.place, w.place);
}

-- the place behind one that is written from the first byte on counts bytes that are there
pub written-counts : {text before after : List ℕ} {stop : ℕ} → Written 0 text before after stop → Counts stop after
written-counts {after = after} {stop} w = let inside : stop ≤ length after = omega (arith, written-length w, w.place) in (inside, sym (length-take-le stop after inside))

-- one that is short besides is printed
pub printed : {text before after : List ℕ} {stop most : ℕ} → Written 0 text before after stop → length text ≤ most → Printed text most before after stop
printed w short = record { written = w; counts = written-counts w; short = short }

-- it may be known by another name, and be allowed more bytes
pub printed_as : {text other before after : List ℕ} {stop most more : ℕ} → text ≡ other → most ≤ more → Printed text most before after stop → Printed other more before after stop
printed_as same wider p = rw (sym same) (record { written = p.written; counts = p.counts; short = omega (arith, p.short) })

-- where the bytes are as many as it has at most, all of it is written
pub printed-whole : {text before after : List ℕ} {stop most : ℕ} → Printed text most before after stop → most ≤ length before → take stop after ≡ text
printed-whole {text} {before} {after} {stop} p room =
    let fits : length text ≤ length before = omega (arith, p.short) in
    let all : stop ≡ length text = omega (arith, p.written.place) in
    rw (all, p.written.bytes, sets-eq text before 0 (omega arith)) (take-append_seam text (drop (0 + length text) before))
