-- The partners of a receive: a set by its number, or threads between commas put into one.
use mathlib.Core.Path.{◌≡◌, refl, sym, ap, ◌∙◌}
use mathlib.Core.Bool.{true, false, true≢false}
use mathlib.Core.List.{List, [], ◌∷◌}
use Prim.Native.Nat.{ℕ, zero, suc, ◌+◌, ◌%◌, ◌≤◌, ◌<◌}
use Prim.Native.Char.{code}
use native.Mathlib.Numerals.{add-one}
use native.Mathlib.Omega.{arith}
use lib.Dec.{eqb, ltb}
use lib.ListN.{length, take, drop, get_or}
use lib.Seq.{length-take-le}
use borrow.Author.Tests.{ltb-true, ltb-false, eqb-true, eqb-false}
use Rattle.model.specs.declared.SendPart.{SendPart}
use Rattle.model.specs.declared.Receive.{Receive}
use Rattle.model.specs.declared.Receive.TheVariants.{OneOf}
use Rattle.model.specs.Lists.{up_to}
use Rattle.model.specs.Bondtrace.{ascii}
use Rattle.model.specs.Refusals.{unless}
use Rattle.model.proofs.Laws.{by}
use Rattle.laws.proofs.Joined.{drop_of_take}
use Rattle.language.specs.Words.{words, has_comma, pieces, value}
use Rattle.language.specs.Grammar.{largest, takes_sign, takes_choice}
use Rattle.language.specs.Commands.{is_negative, digits_of, wrong_number, kept, Progress, stopped, reached, read_number, read_numbers, with_member, read_members, misspelled, starts_with, closed, read_open, read_closed, read_one_of, read_partners, read_wait}
use Rattle.scanning.specs.Scanned.{between, Run, of_piece, Found}
use Rattle.scanning.proofs.Runs.{found_none, found_word}
use Rattle.scanning.proofs.Pieces.{piece-ended, piece-last}
use Rattle.commands.specs.declared.cursors.Cursor.{Cursor}
use Rattle.commands.specs.declared.Misread.{Misread}
use Rattle.letters.specs.declared.Reason.{Reason}
use Rattle.std.specs.Prelude.{Ok, Err}
use Rattle.letters.specs.Measured.{Measured, number_of}
use Rattle.commands.specs.Standing.{Placed, Refuses, Reaches, Valued}
use Rattle.commands.proofs.Reading.{unless-none, unless-told, refuses_through, between_none, between-front}
use Rattle.commands.proofs.Spelling.{closed-refused, not-above, number_more, time-read}

-- ---- behind a set
-- the wait for one of a set, by its time code
abbrev wait_for : ℕ → ℕ → Receive
wait_for set time = OneOf time set

-- the time code is the number behind the set
set_first : (send : SendPart) (set : ℕ) (left : List (List ℕ)) → closed send (λ numbers. wait_for set (get_or numbers 0 0)) (read_numbers (ascii "b") (reached [] left)) ≡ read_one_of send (reached (set ∷ []) left)
unfolding read_one_of read_numbers ascii up_to read_number kept takes_sign closed unless
set_first send set [] = refl
set_first send set (word ∷ left) = go (wrong_number (code "b") word) left where
  go : (g : ℕ) (later : List (List ℕ))
      → closed send (λ numbers. wait_for set (get_or numbers 0 0)) (unless g (λ reason. stopped reason word) (reached (value (digits_of (code "b") word) ∷ []) later))
      ≡ closed send (λ numbers. wait_for (get_or numbers 0 0) (get_or numbers 1 0)) (unless g (λ reason. stopped reason word) (reached (set ∷ value (digits_of (code "b") word) ∷ []) later))
  go zero [] = refl
  go zero (next ∷ later) = refl
  go (suc g) later = refl

-- behind a set a time code is read
pub one_of_read : (line : List ℕ) (send : SendPart) (left : List (List ℕ)) (after : List ℕ) (most : ℕ) (last : Cursor) (set : ℕ) → Reaches line after (read_numbers (ascii "b") (reached [] left)) most last
    → closed send (λ _. wait_for set (get_or after 0 0 % 256)) (reached [] (words (drop last.at line))) ≡ read_one_of send (reached (set ∷ []) left)
one_of_read line send left after most last set a = time-read line send left after most last (wait_for set) a ∙ set_first send set left

-- or it was not read
pub one_of_refused : (line : List ℕ) (send : SendPart) (left : List (List ℕ)) (set : ℕ) {m : Misread} → Refuses line stopped (read_numbers (ascii "b") (reached [] left)) m
    → Refuses line misspelled (read_one_of send (reached (set ∷ []) left)) m
one_of_refused line send left set r =
    let c = closed-refused line send (λ numbers. wait_for set (get_or numbers 0 0)) r in
    record { word = c.word; means = c.means ∙ set_first send set left }

-- reading stopped before the time code
one_of_stopped : (send : SendPart) (reason : ℕ) (word : List ℕ) → misspelled reason word ≡ read_one_of send (stopped reason word)
unfolding read_one_of read_numbers ascii up_to read_number closed
one_of_stopped send reason word = refl

-- ---- a set by its number
-- the only number is the first
only-first : (l : List ℕ) (count number : ℕ) → take count l ≡ number ∷ [] → take count l ≡ get_or l 0 0 ∷ []
only-first l zero number e = cc
only-first [] (suc count) number e = cc
only-first (a ∷ l) (suc count) number e = cc

module _ (line : List ℕ) (send : SendPart) (left : List (List ℕ)) where
  -- the number was not read
  pub set-refused : {m : Misread} → Refuses line stopped (read_numbers (ascii "w") (reached [] left)) m → Refuses line misspelled (read_one_of send (read_numbers (ascii "w") (reached [] left))) m
  set-refused r = refuses_through misspelled (read_one_of send) (one_of_stopped send) r

  -- it was
  pub set-read : (after : List ℕ) (most : ℕ) (last : Cursor) → Reaches line after (read_numbers (ascii "w") (reached [] left)) most last
      → read_one_of send (reached (get_or after 0 0 ∷ []) (words (drop last.at line))) ≡ read_one_of send (read_numbers (ascii "w") (reached [] left))
  unfolding read_numbers ascii up_to takes_sign
  set-read after most last a =
      let m = number_more (code "w") refl [] _ left _ (sym a.means) in
      rw (← a.means) (ap (λ (numbers : List ℕ). read_one_of send (reached numbers (words (drop last.at line)))) (sym (only-first after last.count m.number m.is)))

-- ---- threads between commas
-- a thread is below 32
pub thread-small : (word : List ℕ) (number : ℕ) → Measured (code "t") (digits_of (code "t") word) (Ok number) → number < 32
unfolding largest
thread-small word number v = let fits : value (digits_of (code "t") word) ≤ 31 = not-above (code "t") _ v.0 in omega (arith, v.1)

module _ (word : List ℕ) (left : List (List ℕ)) (set start stop : ℕ) (r : Run of_piece word start stop) where
  module _ (number : ℕ) (v : Measured (code "t") (digits_of (code "t") (between start stop word)) (Ok number)) where
    -- a piece that is one is put into the set
    piece-read : (more : List (List ℕ)) → read_members set (between start stop word ∷ more) left ≡ read_members (with_member set number) more left
    unfolding read_members wrong_number digits_of is_negative takes_sign takes_choice
    piece-read more = unless-none _ _ _ v.0 ∙ ap (λ (s : ℕ). read_members (with_member set s) more left) (sym v.1)

    -- the last piece
    pieces-last : stop ≡ length word → read_members set (pieces (drop start word)) left ≡ reached (with_member set number ∷ []) left
    unfolding read_members
    pieces-last e = rw (piece-last word start stop r e) (piece-read [])

    -- one before it
    pieces_more : stop < length word → read_members set (pieces (drop start word)) left ≡ read_members (with_member set number) (pieces (drop (suc stop) word)) left
    pieces_more lt = rw (piece-ended word start stop r lt) (piece-read _)

  module _ (reason : Reason) (v : Measured (code "t") (digits_of (code "t") (between start stop word)) (Err reason)) where
    -- another stops the reading
    piece-wrong : (more : List (List ℕ)) → read_members set (between start stop word ∷ more) left ≡ stopped (number_of reason) (between start stop word)
    unfolding read_members wrong_number
    piece-wrong more = rw v (unless-told _ _ reason)

    -- whichever piece it is
    pieces-wrong : read_members set (pieces (drop start word)) left ≡ stopped (number_of reason) (between start stop word)
    pieces-wrong = by (ltb stop (length word))
        (λ e. rw (piece-ended word start stop r (ltb-true _ _ e)) (piece-wrong _))
        (λ e. let end : length word ≤ stop = ltb-false _ _ e in rw (piece-last word start stop r (omega (arith, r.passing.within))) (piece-wrong _))

-- ---- partners of a line, between two places
module _ (line : List ℕ) (first end : ℕ) where
  -- the line up to where they end
  abbrev front : List ℕ
  front = take end line

  -- what all of them are read as
  abbrev partners : Progress
  partners = read_members 0 (pieces (between first end line)) (words (drop end line))

  -- those before a place are put into a set
  pub record Members (set start : ℕ) : Type 0 where
    pub within : start ≤ end
    pub means : read_members set (pieces (drop start front)) (words (drop end line)) ≡ partners

  -- none so far
  pub members-start : first ≤ end → Members 0 first
  members-start le = record { within = le; means = rw (drop_of_take first end line) }

  module _ (there : end ≤ length line) {set start : ℕ} (so_far : Members set start) (stop : ℕ) (r : Run of_piece front start stop) where
    -- the line goes as far as they do
    front_length : length front ≡ end
    front_length = length-take-le end line there

    -- the next is no thread
    pub members-wrong : (send : SendPart) (m : Misread) → Valued (code "t") front (record { start = start; end = stop }) (Err m) → Refuses line misspelled (read_one_of send partners) m
    members-wrong send m v =
        let inside : stop ≤ end = omega (arith, r.passing.within, front_length) in
        let there : Placed line start stop = record { ordered = r.passing.after; within = omega arith } in
        let told = sym so_far.means ∙ pieces-wrong front _ set start stop r m.reason v.1 ∙ ap (stopped (number_of m.reason)) (between-front line end start stop inside) in record {
          word = rw v.0 there;
          means = rw v.0 (one_of_stopped send (number_of m.reason) (between start stop line) ∙ ap (read_one_of send) (sym told));
        }

    module _ (number : ℕ) (v : Valued (code "t") front (record { start = start; end = stop }) (Ok number)) (s next : ℕ) (low : s ≡ number % 256) (n : next ≡ with_member set s) where
      -- the next is one
      with-next : next ≡ with_member set number
      with-next = let same : s ≡ number = omega (arith, low, thread-small (between start stop front) number v) in n ∙ ap (with_member set) same

      -- it is the last
      pub members-last : stop ≡ end → reached (next ∷ []) (words (drop end line)) ≡ partners
      members-last e = rw with-next (sym (pieces-last front _ set start stop r number v (e ∙ sym front_length)) ∙ so_far.means)

      -- more follow
      pub members-more : (stop ≡ end → ⊥) → Members next (stop + 1)
      members-more d =
          let inside : stop < end = omega (arith, r.passing.within, front_length) in record {
            within = omega arith;
            means = rw (with-next, add-one) (sym (pieces_more front _ set start stop r number v (rw front_length inside)) ∙ so_far.means);
          }

-- ---- behind the word `receive`
module _ (send : SendPart) (left : List (List ℕ)) where
  -- the word `any`
  pub wait_any : (behind : List (List ℕ)) → starts_with (ascii "any") left ≡ true → drop 1 left ≡ behind → read_open send behind ≡ read_wait send left
  unfolding read_wait
  wait_any behind e d = rw (e, d)

  module _ (other : starts_with (ascii "any") left ≡ false) where
    -- the word `set`
    pub wait-set : (behind : List (List ℕ)) → starts_with (ascii "set") left ≡ true → drop 1 left ≡ behind → read_one_of send (read_numbers (ascii "w") (reached [] behind)) ≡ read_wait send left
    unfolding read_wait read_numbers ascii up_to
    wait-set behind e d = rw (other, e, d)

    -- another
    pub wait-partners : starts_with (ascii "set") left ≡ false → read_partners send left ≡ read_wait send left
    unfolding read_wait
    wait-partners e = rw (other, e)

module _ (line : List ℕ) (at start end : ℕ) (f : Found line at start end) (send : SendPart) where
  -- a word with a comma is there
  comma-word : has_comma (between start end line) ≡ true → start ≡ end → ⊥
  unfolding has_comma
  comma-word e s = true≢false (sym e ∙ ap has_comma (between_none line start end s))

  -- its pieces are partners
  pub partners-some : has_comma (between start end line) ≡ true → read_one_of send (read_members 0 (pieces (between start end line)) (words (drop end line))) ≡ read_partners send (words (drop at line))
  unfolding read_partners
  partners-some e = rw (found_word line at start end f (comma-word e), e)

  -- one without, or none
  pub partners-one : has_comma (between start end line) ≡ false → read_closed send (words (drop at line)) ≡ read_partners send (words (drop at line))
  unfolding read_partners
  partners-one e = by (eqb start end) (λ s. rw (found_none line at start end f (eqb-true _ _ s))) (λ s. rw (found_word line at start end f (eqb-false _ _ s), e))
